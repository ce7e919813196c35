-- `put_row` meets its contract. The invariant: the next links of the first `j` nodes are put. The measure is what is left of the nodes.
use Prim.Native.Nat.{◌+◌, ◌-◌, ◌≤◌}
use lib.ListN.{take}
use Rattle.text.specs.Put.{Put}
use Rattle.notes.proofs.writing.put_row.Given as goal

abbrev pub invariant-loop-j : goal.invariant-loop-j
invariant-loop-j l = (l.j ≤ l.nodes) × Put l.initial.note l.at (take l.j l.next) l.note (l.at + l.j)

abbrev pub decreases-loop-j : goal.decreases-loop-j
decreases-loop-j l = l.nodes - l.j
