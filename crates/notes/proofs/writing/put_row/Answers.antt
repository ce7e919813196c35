-- `put_row` meets its contract. The invariant: the next links of the first `j` nodes are put. The measure is what is left of the nodes.
use mathlib.Core.Path.{◌≡◌}
use native.Mathlib.Omega.{arith}
use borrow.Author.Rules.{rules}
use Rattle.text.specs.Laws.Put as puts
use Rattle.notes.proofs.writing.put_row.Goals as goal

pub offset_bounds-note-at : goal.offset_bounds-note-at
offset_bounds-note-at c = omega (arith, puts.same_length c.loop-j.invariant.1)

pub bounds-note-at : goal.bounds-note-at
bounds-note-at c = omega (arith, puts.same_length c.loop-j.invariant.1)

pub loop-j-preserved : goal.loop-j-preserved
loop-j-preserved c = (search rules, puts.text-more _ (search rules) c.loop-j.invariant.1)

pub shape_of-note : goal.shape_of-note
shape_of-note c = puts.same_length c.loop-j.invariant.1

pub returns : goal.returns
returns c = let all : c.loop-j.j ≡ c.args.nodes = omega arith in rw all at c.loop-j.invariant.1
