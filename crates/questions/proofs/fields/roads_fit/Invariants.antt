-- `questions::fields::roads_fit` meets its contract: the links before l fit.
use lib.ListN.{length}
use mathlib.Core.Bool.{true}
use mathlib.Core.Path.{◌≡◌}
use Prim.Native.Nat.{◌≤◌, ◌-◌}
use Rattle.theory.specs.Finite.{all}
use Rattle.questions.specs.Fields.{road_test}
use Rattle.questions.proofs.fields.roads_fit.Given as goal

abbrev pub invariant-loop-l : goal.invariant-loop-l
invariant-loop-l l = (l.l ≤ length l.links) × (all l.l (road_test l.links) ≡ true)

abbrev pub decreases-loop-l : goal.decreases-loop-l
decreases-loop-l l = length l.links - l.l
