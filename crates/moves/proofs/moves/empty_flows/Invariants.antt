-- `empty_flows` meets its contract. The invariant: the first `i` numbers are 0. The measure is what is left of the numbers.
use Prim.Native.Nat.{◌-◌, ◌≤◌}
use mathlib.Core.Path.{◌≡◌}
use Rattle.moves.specs.Loading.{front}
use Rattle.moves.proofs.moves.empty_flows.Given as goal

abbrev pub invariant-loop-i : goal.invariant-loop-i
invariant-loop-i l = (l.i ≤ l.size) × (l.table ≡ front l.i (λ j. 0) l.initial.table)

abbrev pub decreases-loop-i : goal.decreases-loop-i
decreases-loop-i l = l.size - l.i
