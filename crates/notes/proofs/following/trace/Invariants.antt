-- `notes::following::trace` meets its contract. The invariant: the way stands at `j` after `steps` steps, and its links are written. The measure is
-- how many steps it may still take.
use Prim.Native.Nat.{◌-◌}
use Rattle.notes.specs.Followed.{Tracing}
use Rattle.notes.proofs.following.trace.Given as goal

abbrev pub invariant-loop-l : goal.invariant-loop-l
invariant-loop-l l = Tracing l.nodes l.links l.commodity l.note l.first l.from l.initial.next l.j l.steps l.next l.origin

abbrev pub decreases-loop-l : goal.decreases-loop-l
decreases-loop-l l = l.nodes - l.steps
