-- `questions::reach::trips_reach_in` meets its contract: the destinations of the commodities before k are reached from every node with trips to them, and rows have grown.
use Prim.Native.Nat.{◌≤◌, ◌-◌}
use lib.ListN.{length}
use mathlib.Core.Bool.{true}
use mathlib.Core.Path.{◌≡◌}
use Rattle.theory.specs.Finite.{all}
use Rattle.questions.specs.Laws.Reach.{reach_test}
use Rattle.questions.specs.Reach.{Rows, Grown}
use Rattle.questions.proofs.reach.trips_reach_in.Given as goal

abbrev pub invariant-loop-k : goal.invariant-loop-k
invariant-loop-k l =
    (l.k ≤ length l.commodities) × (all l.k (reach_test l.nodes l.links l.commodities l.trips) ≡ true) × Grown l.initial.rows l.rows × Rows l.nodes l.whole l.rows

abbrev pub decreases-loop-k : goal.decreases-loop-k
decreases-loop-k l = length l.commodities - l.k
