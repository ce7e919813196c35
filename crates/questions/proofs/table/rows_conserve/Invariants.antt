-- `rows_conserve` meets its contract. The invariant: the rows before `k` balance, and the sums are 0 past the nodes. The measure is what is
-- left of the rows.
use Prim.Native.Nat.{◌-◌, ◌≤◌}
use mathlib.Core.Path.{◌≡◌}
use mathlib.Core.Bool.{true}
use lib.ListN.{length}
use Rattle.questions.specs.Laws.Rows.{rows_before}
use Rattle.travel.specs.Ranges.{ClearPast}
use Rattle.questions.proofs.table.rows_conserve.Given as goal

abbrev pub invariant-loop-k : goal.invariant-loop-k
invariant-loop-k l =
    (l.k ≤ length l.commodities)
    × (rows_before l.nodes l.links l.commodities l.trips l.share l.table l.k ≡ true)
    × (ClearPast 128 l.nodes l.out × ClearPast 128 l.nodes l.into)

abbrev pub decreases-loop-k : goal.decreases-loop-k
decreases-loop-k l = length l.commodities - l.k
