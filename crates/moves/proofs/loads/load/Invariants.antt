-- `load` meets its contract. The invariant: the sums are the totals of the commodities before `k`, whose rows of volumes give their loading.
-- The measure is what is left of the destinations.
use Prim.Native.Nat.{◌-◌, ◌≤◌}
use mathlib.Core.Path.{◌≡◌}
use lib.ListN.{length}
use Rattle.theory.specs.Flows.{link_total}
use Rattle.travel.specs.Links.{padded}
use Rattle.moves.specs.Loading.{loading_along}
use Rattle.moves.specs.Laws.Loading.{LoadedRows}
use Rattle.moves.proofs.loads.load.Given as goal

abbrev pub invariant-loop-k : goal.invariant-loop-k
invariant-loop-k l =
    (l.k ≤ length l.commodities)
    × (l.sums ≡ padded (length l.links) (link_total l.k (length l.links) (loading_along l.nodes l.links (length l.commodities) l.trips l.next)))
    × LoadedRows l.nodes l.links l.k l.trips l.next l.initial.volumes l.volumes

abbrev pub decreases-loop-k : goal.decreases-loop-k
decreases-loop-k l = length l.commodities - l.k
