-- `lessen_row` meets its contract. The invariant: the first `l` numbers are lessened. The measure is what is left of the numbers.
use Prim.Native.Nat.{◌-◌, ◌≤◌}
use mathlib.Core.Path.{◌≡◌}
use lib.ListN.{get_or}
use Rattle.moves.specs.Loading.{front}
use Rattle.notes.proofs.lessening.lessen_row.Given as goal

abbrev pub invariant-loop-l : goal.invariant-loop-l
invariant-loop-l l = (l.l ≤ l.m) × (l.row ≡ front l.l (λ i. get_or l.initial.row i 0 - get_or l.part i 0) l.initial.row)

abbrev pub decreases-loop-l : goal.decreases-loop-l
decreases-loop-l l = l.m - l.l
