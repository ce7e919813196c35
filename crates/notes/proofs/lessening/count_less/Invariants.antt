-- `count_less` meets its contract. The invariant: those of the first `l` numbers that are less are counted. The measure is what is left of the
-- numbers.
use Prim.Native.Nat.{◌-◌, ◌≤◌}
use mathlib.Core.Path.{◌≡◌}
use Rattle.notes.specs.Lessened.{less_in}
use Rattle.notes.proofs.lessening.count_less.Given as goal

abbrev pub invariant-loop-l : goal.invariant-loop-l
invariant-loop-l l = (l.l ≤ l.m) × (l.less ≡ less_in l.row l.part l.l)

abbrev pub decreases-loop-l : goal.decreases-loop-l
decreases-loop-l l = l.m - l.l
