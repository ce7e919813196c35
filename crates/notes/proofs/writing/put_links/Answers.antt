-- `put_links` meets its contract. The invariant: the rows of the first `k` commodities stand behind the first number. The measure is what is
-- left of the commodities.
use mathlib.Core.Path.{◌≡◌}
use native.Mathlib.Omega.{arith}
use borrow.Author.Rules.{rules}
use Rattle.notes.specs.Laws.Written.{note-long, links-none, links-more, links-room, links-written}
use Rattle.notes.proofs.writing.put_links.Goals as goal

pub loop-k-init : goal.loop-k-init
loop-k-init c = (search rules, links-none _ _ _ _)

pub put_row-at-requires : goal.put_row-at-requires
put_row-at-requires c =
    let inside = c.loop-k-test.true in (
      c.requires.0.few-nodes,
      c.requires.0.long _ inside,
      links-room c.requires.0 c.args.note.now c.args.j c.requires.1 inside c.loop-k.invariant.1,
    )

pub loop-k-preserved : goal.loop-k-preserved
loop-k-preserved c =
    (search rules, links-more _ _ _ c.loop-k.invariant.1 c.put_row-at.ensures)

pub shape_of-note : goal.shape_of-note
shape_of-note c = note-long c.args.note.now c.args.j c.loop-k.invariant.1

pub returns : goal.returns
returns c =
    let all : c.loop-k.k ≡ c.args.p = omega arith in
    links-written c.requires.0 _ _ c.requires.1 (rw all at c.loop-k.invariant.1)
