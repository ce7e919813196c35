-- `load_volumes` meets its contract. The invariant: the rows of volumes of the commodities before `k` give their loading. The measure is what is
-- left of the destinations.
use Prim.Native.Nat.{◌-◌, ◌≤◌}
use lib.ListN.{length}
use Rattle.moves.specs.Laws.Loading.{LoadedRows}
use Rattle.moves.proofs.loads.load_volumes.Given as goal

abbrev pub invariant-loop-k : goal.invariant-loop-k
invariant-loop-k l = (l.k ≤ length l.commodities) × LoadedRows l.nodes l.links l.k l.trips l.next l.initial.volumes l.volumes

abbrev pub decreases-loop-k : goal.decreases-loop-k
decreases-loop-k l = length l.commodities - l.k
