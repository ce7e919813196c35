-- `halve` meets its contract. The invariant: the first `i` numbers are halved. The measure is what is left of the numbers.
use Prim.Native.Nat.{◌-◌, ◌/◌, ◌≤◌}
use mathlib.Core.Path.{◌≡◌}
use lib.ListN.{get_or}
use Rattle.moves.specs.Loading.{front}
use Rattle.notes.proofs.lessening.halve.Given as goal

abbrev pub invariant-loop-i : goal.invariant-loop-i
invariant-loop-i l = (l.i ≤ l.size) × (l.table ≡ front l.i (λ j. get_or l.initial.table j 0 / 2) l.initial.table)

abbrev pub decreases-loop-i : goal.decreases-loop-i
decreases-loop-i l = l.size - l.i
