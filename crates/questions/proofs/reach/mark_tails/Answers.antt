-- `questions::reach::mark_tails` meets its contract: the first l links have marked their tails.
use lib.ListN.{length}
use mathlib.Core.Path.{◌≡◌, refl, ◌∙◌}
use native.Mathlib.Omega.{arith}
use borrow.Author.Rules.{rules}
use Rattle.questions.specs.Laws.Reach.{tails-none}
use Rattle.questions.proofs.reach.mark_tails.Goals as goal

pub loop-l-init : goal.loop-l-init
loop-l-init c = (search rules, refl, tails-none c.requires.room.1)

pub mark_tail-requires : goal.mark_tail-requires
mark_tail-requires c =
    let inv = c.loop-l.invariant in
    record { nodes_bound = c.requires.nodes_bound; l_in_bounds = (search rules, rw inv.1 c.requires.room.0, inv.2) }

pub loop-l-preserved : goal.loop-l-preserved
loop-l-preserved c =
    let inv = c.loop-l.invariant in
    let (size, tails) = c.mark_tail.ensures in
    (search rules, size ∙ inv.1, tails)

pub shape_of-rows : goal.shape_of-rows
shape_of-rows c = c.loop-l.invariant.1

pub returns : goal.returns
returns c = let last : c.loop-l.l ≡ length c.args.links.now = omega arith in (c.loop-l.invariant.1, rw last at c.loop-l.invariant.2)
