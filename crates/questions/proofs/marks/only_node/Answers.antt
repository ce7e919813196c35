-- `questions::marks::only_node` meets its contract.
use Prim.Native.Nat.{◌-◌}
use native.Mathlib.Omega.{arith}
use borrow.Author.Tests.{lt-ltb, le-ltb}
use Rattle.theory.specs.Laws.Bits.{one_shifted}
use Rattle.theory.specs.Marks.{only_node}
use Rattle.questions.proofs.marks.only_node.Goals as goal

pub returns-then-j-lt64 : goal.returns-then-j-lt64
unfolding only_node
returns-then-j-lt64 c = rw (lt-ltb _ _ c.if-j-lt64.true, one_shifted 64 c.args.j c.if-j-lt64.true)

pub returns-else-j-lt64 : goal.returns-else-j-lt64
unfolding only_node
returns-else-j-lt64 c = rw (le-ltb _ _ c.if-j-lt64.false, one_shifted 64 (c.args.j - 64) (omega arith))
