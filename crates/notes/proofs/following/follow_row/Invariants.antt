-- `notes::following::follow_row` meets its contract. The invariant: the note leads from the nodes below `j` that have trips, and their links are
-- written, with the nodes from which their ways set out. The measure is what is left of the nodes.
use Prim.Native.Nat.{◌-◌, ◌≤◌}
use mathlib.Core.Path.{◌≡◌}
use mathlib.Core.Bool.{true}
use lib.ListN.{get_or}
use Rattle.notes.specs.Followed.{row_leads, Followed, Origins}
use Rattle.notes.proofs.following.follow_row.Given as goal

abbrev pub invariant-loop-j : goal.invariant-loop-j
invariant-loop-j l =
    (l.j ≤ l.nodes)
    × (row_leads l.nodes l.links l.commodity l.note l.first (λ i. get_or l.trips i 0) l.j ≡ true)
    × Followed l.nodes l.links l.commodity l.note l.first (λ i. get_or l.trips i 0) l.j l.next
    × Origins l.nodes l.j l.next l.origin

abbrev pub decreases-loop-j : goal.decreases-loop-j
decreases-loop-j l = l.nodes - l.j
