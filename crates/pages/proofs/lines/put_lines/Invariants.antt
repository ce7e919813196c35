-- `pages::lines::put_lines` meets its contract. The loop's invariant: the lines of the links passed are put, 30 bytes each.
use mathlib.Core.Path.{◌≡◌}
use Prim.Native.Nat.{◌*◌, ◌-◌, ◌≤◌}
use lib.ListN.{length}
use Rattle.theory.specs.Finite.{rows}
use Rattle.text.specs.Put.{Put}
use Rattle.pages.specs.Lines.{row_line}
use Rattle.pages.proofs.lines.put_lines.Given as goal

abbrev pub invariant-loop-l : goal.invariant-loop-l
invariant-loop-l l =
    (l.l ≤ length l.links) × (l.at ≡ 30 * l.l) × Put l.initial.page 0 (rows l.l (row_line l.links l.share l.flows)) l.page l.at

abbrev pub decreases-loop-l : goal.decreases-loop-l
decreases-loop-l l = length l.links - l.l
