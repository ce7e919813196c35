-- `notes::following::may_follow` meets its contract.
use mathlib.Core.Path.{sym, ◌∙◌}
use Rattle.notes.specs.Laws.Followed.{past-links, other-tail, own-link, row-may-use}
use Rattle.notes.proofs.following.may_follow.Goals as goal

pub returns-then-links-i : goal.returns-then-links-i
returns-then-links-i c = let x = c.args in past-links x.links.now x.commodity x.j c.index-i.ensures c.if-links-i.true

pub returns-then-index-j : goal.returns-then-index-j
returns-then-index-j c =
    let x = c.args in
    other-tail x.links.now x.commodity x.j c.index-i.ensures c.if-links-i.false c.index.ensures c.if-index-j.true

pub returns : goal.returns
returns c =
    let x = c.args in
    c.may_use.ensures
    ∙ row-may-use x.links.now x.commodity _
    ∙ sym
    (own-link x.links.now x.commodity x.j c.index-i.ensures c.if-links-i.false c.index.ensures c.if-index-j.false)
