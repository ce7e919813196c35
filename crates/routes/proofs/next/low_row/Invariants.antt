-- The loop's invariant: the last 16 bits of the first `k` marks are taken.
use Rattle.std.proofs.Common.{◌%◌, get_or}
use Rattle.theory.specs.Laws.Filled.{Filled}
use Rattle.routes.proofs.next.low_row.Given as goal

abbrev pub invariant-loop-k : goal.invariant-loop-k
invariant-loop-k l = Filled (λ i. get_or l.row i 0 % 65536) 0 8 l.k l.lows
