-- `questions::marks::lowest_bit` meets its contract.
use lib.Count.{trailing_le}
use lib.Dec.{lit<}
use native.Mathlib.Nat.{lt_of_le_of_lt}
use borrow.Author.Rules.{rules}
use Rattle.theory.specs.Laws.Marks.{trailing-lowest}
use Rattle.questions.proofs.marks.lowest_bit.Goals as goal

pub overflow_cast-result : goal.overflow_cast-result
overflow_cast-result c = record { fits = lt_of_le_of_lt (trailing_le 64 _) (lit< tt) }

pub returns : goal.returns
returns c = (trailing-lowest _ c.args.visited (search rules), trailing_le 64 _)
