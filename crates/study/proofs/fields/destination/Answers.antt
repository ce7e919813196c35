-- `study::destination` meets its contract: the bytes of the destination are there, and the field is the u16 at its place.
use borrow.Author.Rules.{rules}
use Rattle.study.specs.Fields.{destination, HasDestination}
use Rattle.study.proofs.fields.destination.Goals as goal

pub overflow_mul-k : goal.overflow_mul-k
unfolding HasDestination
overflow_mul-k c = search rules

pub u16_at-requires : goal.u16_at-requires
unfolding HasDestination
u16_at-requires c = search rules

pub returns : goal.returns
unfolding destination
returns c = search rules
