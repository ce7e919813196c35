-- The loop's invariant: the destinations below `first` are added, and the sum is small.
use Rattle.std.proofs.Common.{◌≡◌, ◌*◌, ◌≤◌, min, length}
use Rattle.search.specs.Least.{most_at_node, least_below}
use Rattle.search.proofs.least.least_times.Given as goal

abbrev pub invariant-loop-first : goal.invariant-loop-first
invariant-loop-first l =
    (l.least ≡ least_below l.nodes l.links l.destinations l.trips l.times (min l.first (length l.destinations))) × (l.least ≤ l.first * (128 * most_at_node))
