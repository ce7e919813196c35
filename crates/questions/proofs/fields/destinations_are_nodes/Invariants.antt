-- `questions::questions::destinations_are_nodes` meets its contract: the destinations before k are nodes.
use mathlib.Core.Bool.{true}
use mathlib.Core.Path.{◌≡◌}
use lib.Dec.{ltb}
use lib.ListN.{length, get_or}
use Prim.Native.Nat.{◌≤◌, ◌-◌}
use Rattle.theory.specs.Finite.{all}
use Rattle.questions.proofs.fields.destinations_are_nodes.Given as goal

abbrev pub invariant-loop-k : goal.invariant-loop-k
invariant-loop-k l =
    (l.k ≤ length l.destinations) × (all l.k (λ i. ltb (get_or l.destinations i 0) l.nodes) ≡ true)

abbrev pub decreases-loop-k : goal.decreases-loop-k
decreases-loop-k l = length l.destinations - l.k
