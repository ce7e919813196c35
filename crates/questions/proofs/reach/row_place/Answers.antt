-- `questions::reach::row_place` meets its contract.
use borrow.Author.Tests.{eq-eqb, ne_eqb}
use Rattle.questions.specs.Reach.{row_place}
use Rattle.questions.proofs.reach.row_place.Goals as goal

pub returns-then-all_open : goal.returns-then-all_open
unfolding row_place
returns-then-all_open c = rw (ne_eqb _ _ (c.requires.2 c.if-all_open.true))

pub returns-then-closed-eq1 : goal.returns-then-closed-eq1
unfolding row_place
returns-then-closed-eq1 c = rw (eq-eqb _ _ c.if-closed-eq1.true)

pub returns-else-closed-eq1 : goal.returns-else-closed-eq1
unfolding row_place
returns-else-closed-eq1 c = rw (ne_eqb _ _ c.if-closed-eq1.false)
