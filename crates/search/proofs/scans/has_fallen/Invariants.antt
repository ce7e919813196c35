-- The loop's invariant: the first `k` marks are compared.
use Rattle.search.specs.Lanes.{Compared}
use Rattle.search.proofs.scans.has_fallen.Given as goal

abbrev pub invariant-loop-k : goal.invariant-loop-k
invariant-loop-k l = Compared l.row l.old l.k l.fall
