-- `study::fields::link_field` meets its contract: the ten bytes of the link are there.
use borrow.Author.Rules.{rules}
use Rattle.study.specs.Fields.{HasLink}
use Rattle.study.proofs.fields.link_field.Goals as goal

pub overflow_mul-size : goal.overflow_mul-size
unfolding HasLink
overflow_mul-size c = search rules

pub overflow_add-size : goal.overflow_add-size
unfolding HasLink
overflow_add-size c = search rules

pub u16_at-requires : goal.u16_at-requires
unfolding HasLink
u16_at-requires c = search rules
