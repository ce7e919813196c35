-- `questions::fields::marks_fit` meets its contract: the bytes before i fit.
use mathlib.Core.Bool.{true}
use mathlib.Core.Path.{◌≡◌}
use lib.ListN.{length}
use Prim.Native.Nat.{◌≤◌, ◌-◌}
use Rattle.theory.specs.Finite.{all}
use Rattle.questions.specs.Laws.Questions.{mark_test}
use Rattle.questions.proofs.fields.marks_fit.Given as goal

abbrev pub invariant-loop-i : goal.invariant-loop-i
invariant-loop-i l = (l.i ≤ length l.bytes) × (all l.i (mark_test l.bytes) ≡ true)

abbrev pub decreases-loop-i : goal.decreases-loop-i
decreases-loop-i l = length l.bytes - l.i
