-- `holds_part` meets its contract. The invariant: the rows before `k` hold their part of the loading. The measure is what is left of the rows.
use Prim.Native.Nat.{◌-◌, ◌≤◌}
use mathlib.Core.Path.{◌≡◌}
use mathlib.Core.Bool.{true}
use Rattle.theory.specs.Finite.{all}
use Rattle.moves.specs.Loading.{volume_rows}
use Rattle.notes.specs.Laws.Lessened.{row_holds}
use Rattle.notes.proofs.lessening.holds_part.Given as goal

abbrev pub invariant-loop-k : goal.invariant-loop-k
invariant-loop-k l = (l.k ≤ l.p) × (all l.k (row_holds l.m l.j (volume_rows l.nodes l.m l.p l.next l.volumes) l.table) ≡ true)

abbrev pub decreases-loop-k : goal.decreases-loop-k
decreases-loop-k l = l.p - l.k
