-- `questions::marks::nodes_below` meets its contract.
use borrow.Author.Tests.{lt-ltb, le-ltb}
use Rattle.theory.specs.Marks.{nodes_below}
use Rattle.questions.proofs.marks.nodes_below.Goals as goal

pub returns-then-n-lt64 : goal.returns-then-n-lt64
unfolding nodes_below
returns-then-n-lt64 c = rw (lt-ltb _ _ c.if-n-lt64.true, c.ones.ensures)

pub returns-else-n-lt64 : goal.returns-else-n-lt64
unfolding nodes_below
returns-else-n-lt64 c = rw (le-ltb _ _ c.if-n-lt64.false, c.ones-else-n-lt64.ensures, c.ones-else-n-lt64-2.ensures)
