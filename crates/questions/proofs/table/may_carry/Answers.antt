-- `may_carry` meets its contract.
use borrow.Author.Tests.{eq-eqb, ne_eqb}
use mathlib.Core.Bool.{or-true, or-false}
use Rattle.questions.proofs.table.may_carry.Goals as goal

pub returns-then-flow-eq0 : goal.returns-then-flow-eq0
returns-then-flow-eq0 c = rw (eq-eqb _ _ c.if-flow-eq0.true, or-true)

pub returns : goal.returns
returns c = rw (ne_eqb _ _ c.if-flow-eq0.false, or-false) c.may_use.ensures
