-- `questions::fields::powers_fit` meets its contract: the powers of the links before l fit.
use lib.ListN.{length}
use mathlib.Core.Bool.{true}
use mathlib.Core.Path.{◌≡◌}
use Prim.Native.Nat.{◌≤◌, ◌-◌}
use Rattle.theory.specs.Finite.{all}
use Rattle.questions.specs.Fields.{power_test}
use Rattle.questions.proofs.fields.powers_fit.Given as goal

abbrev pub invariant-loop-l : goal.invariant-loop-l
invariant-loop-l l = (l.l ≤ length l.links) × (all l.l (power_test l.links) ≡ true)

abbrev pub decreases-loop-l : goal.decreases-loop-l
decreases-loop-l l = length l.links - l.l
