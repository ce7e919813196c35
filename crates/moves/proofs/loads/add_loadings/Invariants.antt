-- `add_loadings` meets its contract. The invariant: the rows before `k` have their loading. The measure is what is left of the rows.
use Prim.Native.Nat.{◌*◌, ◌-◌, ◌≤◌}
use mathlib.Core.Path.{◌≡◌}
use Rattle.moves.specs.Loading.{volume_rows, added_rows}
use Rattle.moves.proofs.loads.add_loadings.Given as goal

abbrev pub invariant-loop-k : goal.invariant-loop-k
invariant-loop-k l = (l.k ≤ l.p) × (l.table ≡ added_rows (l.k * l.m) l.weight (volume_rows l.nodes l.m l.p l.next l.volumes) l.initial.table)

abbrev pub decreases-loop-k : goal.decreases-loop-k
decreases-loop-k l = l.p - l.k
