-- `put_no_links` meets its contract. The invariant: `i` marks for no link stand behind the first number. The measure is what is left of the
-- count.
use mathlib.Core.Path.{◌≡◌}
use native.Mathlib.Omega.{arith}
use borrow.Author.Rules.{rules}
use lib.ListN.{length}
use Rattle.notes.specs.Laws.Written.{note-long, note-written, once_more}
use Rattle.notes.proofs.writing.put_no_links.Goals as goal
use Rattle.notes.proofs.writing.put_no_links.Goals.{At-loop-i}

-- The note is as long as it was.
long : (c : At-loop-i) → length c.loop-i.note ≡ length c.args.note.now
long c = note-long c.args.note.now 0 c.loop-i.invariant.1

pub offset_bounds-note-i : goal.offset_bounds-note-i
offset_bounds-note-i c = omega (arith, long (goal.at.offset_bounds-note-i c).At-loop-i)

pub bounds-note-i : goal.bounds-note-i
bounds-note-i c = omega (arith, long (goal.at.bounds-note-i c).At-loop-i)

pub loop-i-preserved : goal.loop-i-preserved
loop-i-preserved c = (search rules, once_more _ _ c.loop-i.invariant.1)

pub shape_of-note : goal.shape_of-note
shape_of-note c = long (goal.at.shape_of-note c).At-loop-i

pub returns : goal.returns
returns c =
    let all : c.loop-i.i ≡ c.args.count = omega arith in
    note-written _ _ (rw all at c.loop-i.invariant.1) (search rules)
