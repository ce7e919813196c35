-- `put_no_links` meets its contract. The invariant: `i` marks for no link stand behind the first number. The measure is what is left of the
-- count.
use Prim.Native.Nat.{◌+◌, ◌-◌, ◌≤◌}
use lib.ListN.{replicate}
use Rattle.theory.specs.Study.{no_link}
use Rattle.text.specs.Put.{Put}
use Rattle.notes.proofs.writing.put_no_links.Given as goal

abbrev pub invariant-loop-i : goal.invariant-loop-i
invariant-loop-i l = (l.i ≤ l.count) × Put l.initial.note 1 (replicate l.i no_link) l.note (1 + l.i)

abbrev pub decreases-loop-i : goal.decreases-loop-i
decreases-loop-i l = l.count - l.i
