-- `listing::lines::put_link_lines` meets its contract. The loop's invariant: the lines of the links passed are put.
use Prim.Native.Nat.{◌+◌, ◌*◌, ◌-◌, ◌≤◌}
use Rattle.text.specs.Put.{Put}
use Rattle.listing.specs.Lines.{link_lines}
use Rattle.listing.proofs.lines.put_link_lines.Given as goal

abbrev pub invariant-loop-l : goal.invariant-loop-l
invariant-loop-l l = (l.l ≤ l.m) × Put l.initial.out l.at (link_lines l.l l.flows l.times) l.out l.next × (l.next ≤ l.at + 58 * l.l)

abbrev pub decreases-loop-l : goal.decreases-loop-l
decreases-loop-l l = l.m - l.l
