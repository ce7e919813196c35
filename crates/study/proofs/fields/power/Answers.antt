-- `study::power` meets its contract: 4, or the sixth number of the link, whose twelve bytes are there.
use borrow.Author.Rules.{rules}
use native.Mathlib.Omega.{arith}
use borrow.Author.Tests.{lt-ltb, le-ltb}
use Rattle.study.specs.Fields.{power, HasLink}
use Rattle.study.proofs.fields.power.Goals as goal

pub returns-then-size-lt12 : goal.returns-then-size-lt12
unfolding power
returns-then-size-lt12 c = rw (lt-ltb c.args.size 12 c.if-size-lt12.true)

pub overflow_mul-size : goal.overflow_mul-size
unfolding HasLink
overflow_mul-size c = search rules

pub overflow_add-size : goal.overflow_add-size
unfolding HasLink
overflow_add-size c = search rules

pub u16_at-requires : goal.u16_at-requires
unfolding HasLink
u16_at-requires c = search rules

pub returns : goal.returns
unfolding power
returns c = rw (le-ltb c.args.size 12 (omega arith)) c.u16_at.ensures
