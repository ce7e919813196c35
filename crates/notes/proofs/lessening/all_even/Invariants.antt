-- `all_even` meets its contract. The invariant: the odd ones of the first `i` numbers are counted. The measure is what is left of the numbers.
use Prim.Native.Nat.{◌-◌, ◌≤◌}
use mathlib.Core.Path.{◌≡◌}
use Rattle.notes.specs.Laws.Lessened.{odds}
use Rattle.notes.proofs.lessening.all_even.Given as goal

abbrev pub invariant-loop-i : goal.invariant-loop-i
invariant-loop-i l = (l.i ≤ l.size) × (l.odd ≡ odds l.table l.i)

abbrev pub decreases-loop-i : goal.decreases-loop-i
decreases-loop-i l = l.size - l.i
