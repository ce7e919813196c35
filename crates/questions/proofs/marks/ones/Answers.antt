-- `questions::marks::ones` meets its contract.
use lib.Pow.{pow_pos}
use mathlib.Core.Path.{◌≡◌}
use native.Mathlib.Omega.{arith}
use Rattle.theory.specs.Laws.Bits.{one_shifted}
use Rattle.questions.proofs.marks.ones.Goals as goal

pub overflow_sub-result : goal.overflow_sub-result
overflow_sub-result c = rw (one_shifted 64 c.args.n c.if-n-lt64.true) (pow_pos _)

pub returns-then-n-lt64 : goal.returns-then-n-lt64
returns-then-n-lt64 c = rw (one_shifted 64 c.args.n c.if-n-lt64.true)

pub returns-else-n-lt64 : goal.returns-else-n-lt64
returns-else-n-lt64 c = let full : c.args.n ≡ 64 = omega arith in rw full
