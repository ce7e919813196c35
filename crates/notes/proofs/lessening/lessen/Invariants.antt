-- `lessen` meets its contract. The invariant: the rows before `k` are lessened. The measure is what is left of the rows.
use Prim.Native.Nat.{◌*◌, ◌-◌, ◌≤◌}
use mathlib.Core.Path.{◌≡◌}
use Rattle.moves.specs.Loading.{volume_rows, front}
use Rattle.notes.specs.Laws.Lessened.{less_at}
use Rattle.notes.proofs.lessening.lessen.Given as goal

abbrev pub invariant-loop-k : goal.invariant-loop-k
invariant-loop-k l =
    (l.k ≤ l.p) × (l.table ≡ front (l.k * l.m) (less_at l.j (volume_rows l.nodes l.m l.p l.next l.volumes) l.initial.table) l.initial.table)

abbrev pub decreases-loop-k : goal.decreases-loop-k
decreases-loop-k l = l.p - l.k
