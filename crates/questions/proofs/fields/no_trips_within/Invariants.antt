-- `questions::questions::no_trips_within` meets its contract: the commodities before k have no trips of their own.
use mathlib.Core.Bool.{true}
use mathlib.Core.Path.{◌≡◌}
use lib.ListN.{length}
use Prim.Native.Nat.{◌≤◌, ◌-◌}
use Rattle.theory.specs.Finite.{all}
use Rattle.questions.specs.Laws.Questions.{within_test}
use Rattle.questions.proofs.fields.no_trips_within.Given as goal

abbrev pub invariant-loop-k : goal.invariant-loop-k
invariant-loop-k l =
    (l.k ≤ length l.commodities) × (all l.k (within_test l.nodes l.commodities l.trips) ≡ true)

abbrev pub decreases-loop-k : goal.decreases-loop-k
decreases-loop-k l = length l.commodities - l.k
