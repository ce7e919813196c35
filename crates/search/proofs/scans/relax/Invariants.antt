-- The loop's invariant: the first `k` marks of the tail's row are lowered to what the link gives.
use Rattle.std.proofs.Common.{◌≡◌, ◌+◌, min, get_or}
use Rattle.search.specs.Rows.{Worked}
use Rattle.search.proofs.scans.relax.Given as goal

abbrev pub invariant-loop-k : goal.invariant-loop-k
invariant-loop-k l = Worked (λ i v. v ≡ min (get_or l.ahead i 0 + l.time) (get_or l.initial.own i 0)) l.initial.own l.k l.own
