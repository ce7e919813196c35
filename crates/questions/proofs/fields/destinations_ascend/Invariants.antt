-- `questions::questions::destinations_ascend` meets its contract: the destinations up to k ascend.
use mathlib.Core.Bool.{true}
use mathlib.Core.Path.{◌≡◌}
use lib.Dec.{ltb}
use lib.ListN.{length, get_or}
use Prim.Native.Nat.{◌+◌, ◌≤◌, ◌-◌}
use Rattle.theory.specs.Finite.{all}
use Rattle.questions.proofs.fields.destinations_ascend.Given as goal

abbrev pub invariant-loop-k : goal.invariant-loop-k
invariant-loop-k l = (l.k ≤ length l.destinations - 1) × (all l.k (λ i. ltb (get_or l.destinations i 0) (get_or l.destinations (i + 1) 0)) ≡ true)

abbrev pub decreases-loop-k : goal.decreases-loop-k
decreases-loop-k l = length l.destinations - l.k
