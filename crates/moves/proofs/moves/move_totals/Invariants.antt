-- `move_totals` meets its contract. The invariant of each loop: the first `l` totals are moved. The measure is what is left of the links.
use Prim.Native.Nat.{◌-◌, ◌≤◌}
use mathlib.Core.Path.{◌≡◌}
use Rattle.moves.specs.Laws.Totals.{moved_to}
use Rattle.moves.proofs.moves.move_totals.Given as goal

abbrev pub invariant-loop-l : goal.invariant-loop-l
invariant-loop-l l = (l.l ≤ l.m) × (l.flows ≡ moved_to l.l l.j l.initial.flows)

abbrev pub decreases-loop-l : goal.decreases-loop-l
decreases-loop-l l = l.m - l.l

abbrev pub invariant-loop-l-2 : goal.invariant-loop-l-2
invariant-loop-l-2 l = (l.l ≤ l.m) × (l.flows ≡ moved_to l.l l.j l.initial.flows)

abbrev pub decreases-loop-l-2 : goal.decreases-loop-l-2
decreases-loop-l-2 l = l.m - l.l
