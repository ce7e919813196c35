-- `questions::reach::mark_tails` meets its contract: the first l links have marked their tails.
use Prim.Native.Nat.{◌-◌, ◌≤◌}
use lib.ListN.{length}
use mathlib.Core.Path.{◌≡◌}
use Rattle.questions.specs.Reach.{Tails}
use Rattle.questions.proofs.reach.mark_tails.Given as goal

abbrev pub invariant-loop-l : goal.invariant-loop-l
invariant-loop-l l = (l.l ≤ length l.links) × (length l.rows ≡ length l.initial.rows) × Tails l.nodes l.links l.lorries l.l l.rows

abbrev pub decreases-loop-l : goal.decreases-loop-l
decreases-loop-l l = length l.links - l.l
