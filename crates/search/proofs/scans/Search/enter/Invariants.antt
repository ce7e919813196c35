-- The loop's invariant: the links into the first `k` destinations are scanned, where these are closed.
use Rattle.search.specs.Searches.{EnteredBelow}
use Rattle.search.proofs.scans.Search.enter.Given as goal

abbrev pub invariant-loop-k : goal.invariant-loop-k
invariant-loop-k l = EnteredBelow l.self l.k l.marks
