-- `questions::reach::row_count` meets its contract.
use native.Mathlib.Omega.{arith}
use Rattle.theory.specs.Laws.Cases.{true-false}
use Rattle.questions.proofs.reach.row_count.Goals as goal

pub returns-then-all_open : goal.returns-then-all_open
returns-then-all_open c = (record { rows-open = omega arith; rows-closed = λ closed_some. true-false c.if-all_open.true closed_some }, omega (arith, c.requires))
