-- The loop's invariant: the nodes below `j` are added.
use Rattle.search.specs.Least.{LeastTo}
use Rattle.search.proofs.least.least_to.Given as goal

abbrev pub invariant-loop-j : goal.invariant-loop-j
invariant-loop-j l = LeastTo l.trips l.marks l.k l.j l.least
