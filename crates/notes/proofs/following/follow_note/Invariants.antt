-- `notes::following::follow_note` meets its contract. The invariant: the note leads to the destinations of the commodities before `k`, and the rows
-- of their links are written. The measure is what is left of the commodities.
use Prim.Native.Nat.{◌-◌, ◌≤◌}
use mathlib.Core.Path.{◌≡◌}
use mathlib.Core.Bool.{true}
use lib.ListN.{length}
use Rattle.notes.specs.Followed.{note_follows, AllFollowed}
use Rattle.notes.proofs.following.follow_note.Given as goal

abbrev pub invariant-loop-k : goal.invariant-loop-k
invariant-loop-k l =
    (l.k ≤ length l.commodities)
    × (note_follows l.nodes l.links l.commodities l.trips l.note l.k ≡ true)
    × AllFollowed l.nodes l.links l.commodities l.trips l.note l.k l.next
    × (length l.origin ≡ 128)
    × (length l.next ≡ length l.initial.next)

abbrev pub decreases-loop-k : goal.decreases-loop-k
decreases-loop-k l = length l.commodities - l.k
