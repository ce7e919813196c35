-- The loop's invariant: the destinations so far are added, and the trips to the others are left.
use Rattle.std.proofs.Common.{◌≡◌}
use Rattle.std.specs.Iterator.Adapters.{enumerate_source, enumerate_count}
use Rattle.std.specs.Slice.Iter.{chunks_exact_rest, chunks_exact_size}
use Rattle.search.specs.Least.{LeastToFirst}
use Rattle.search.specs.Laws.Trips.{PartsLeft}
use Rattle.search.proofs.least.least_to_group.Given as goal

abbrev pub invariant-loop-k : goal.invariant-loop-k
invariant-loop-k l =
    (chunks_exact_size (enumerate_source l.k-iterator) ≡ l.nodes)
    × PartsLeft l.nodes l.trips (enumerate_count l.k-iterator) (chunks_exact_rest (enumerate_source l.k-iterator))
    × LeastToFirst l.nodes l.trips l.marks (enumerate_count l.k-iterator) l.least
