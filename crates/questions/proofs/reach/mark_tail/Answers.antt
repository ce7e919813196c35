-- `questions::reach::mark_tail` meets its contract.
use lib.ListN.{length}
use mathlib.Core.Path.{◌≡◌, refl, sym, ◌∙◌}
use native.Mathlib.Omega.{arith}
use Rattle.theory.specs.Study.{barred_to}
use Rattle.questions.specs.Laws.Questions.{Ends, ends-below}
use Rattle.questions.specs.Laws.Reach.{tails-barred, tails-more, row-there}
use Rattle.questions.specs.Reach.{row_of}
use Rattle.questions.proofs.reach.mark_tail.Goals as goal
use Rattle.questions.proofs.reach.mark_tail.Goals.{After-barred_to, After-row_place-i, Start}

-- Whether the class is barred from the link.
answer : (c : After-barred_to) → let x = c.args in c.barred_to.result ≡ barred_to x.links.now x.lorries x.l
unfolding barred_to
answer c = c.barred_to.ensures

pub returns-then-barred_to : goal.returns-then-barred_to
returns-then-barred_to c = (refl, tails-barred c.requires.l_in_bounds.2 (sym (answer (goal.at.returns-then-barred_to c).After-barred_to) ∙ c.if-barred_to.true))

-- The links' ends are nodes.
ends : (c : Start) → Ends c.args.nodes c.args.links.now
ends c = ends-below _ _ c.requires.nodes_bound.1

pub row_place-i-requires : goal.row_place-i-requires
row_place-i-requires c = (
  c.requires.nodes_bound.0,
  omega (arith, c.node.ensures, (ends (goal.at.row_place-i-requires c).Start).head-node c.args.l c.requires.l_in_bounds.0),
  λ is_open. c.requires.nodes_bound.2 is_open c.args.l c.requires.l_in_bounds.0,
)

-- The row of the link.
at_row : (c : After-row_place-i) → let x = c.args in c.row_place-i.result ≡ row_of x.nodes x.links.now x.l
at_row c = rw c.node.ensures at c.row_place-i.ensures

pub mark-requires : goal.mark-requires
mark-requires c =
    let x = c.args in
    let place = row-there (ends (goal.at.mark-requires c).Start) x.l c.requires.l_in_bounds.0 x.all_open (length x.rows.now) c.requires.nodes_bound.2 c.requires.l_in_bounds.1 in (
      omega (arith, at_row (goal.at.mark-requires c).After-row_place-i, place),
      omega (arith, c.node-2.ensures, (ends (goal.at.mark-requires c).Start).tail-node x.l c.requires.l_in_bounds.0, c.requires.nodes_bound.0),
      c.requires.l_in_bounds.2.pairs,
    )

pub shape_of-rows : goal.shape_of-rows
shape_of-rows c = c.mark.ensures.size

pub returns : goal.returns
returns c =
    let marks = rw (at_row (goal.at.returns c).After-row_place-i, c.node-2.ensures) at c.mark.ensures in
    (marks.size, tails-more c.requires.l_in_bounds.2 (sym (answer (goal.at.returns c).After-barred_to) ∙ c.if-barred_to.false) marks)
