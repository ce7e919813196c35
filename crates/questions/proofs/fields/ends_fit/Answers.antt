-- `questions::questions::ends_fit` meets its contract: the links before l fit.
use borrow.Author.Rules.{rules}
use mathlib.Core.Path.{◌≡◌, refl, sym, ◌∙◌}
use Rattle.study.proofs.Flags.{was-yes, was-no}
use Rattle.theory.specs.Finite.{all}
use Rattle.questions.specs.Laws.Questions.{all_more, all-failed, all_held, ends_test, ends-all}
use Rattle.questions.proofs.fields.ends_fit.Goals as goal
use Rattle.questions.proofs.fields.ends_fit.Goals.{After-link_ends_fit}

pub loop-l-init : goal.loop-l-init
unfolding all
loop-l-init c = (search rules, refl)

-- The test of link l.
tested : (c : After-link_ends_fit) → c.link_ends_fit.result ≡ ends_test c.args.nodes c.args.links.now c.loop-l.l
unfolding ends_test
tested c = c.link_ends_fit.ensures ∙ rw (c.node-in-loop-l.ensures, c.node.ensures)

pub returns-then-not-link_ends_fit : goal.returns-then-not-link_ends_fit
returns-then-not-link_ends_fit c = all-failed _ _ _ (search rules) (was-no (tested (goal.at.returns-then-not-link_ends_fit c).After-link_ends_fit) c.if-not-link_ends_fit.true) ∙ sym (ends-all _ _)

pub loop-l-preserved : goal.loop-l-preserved
loop-l-preserved c =
    (search rules, all_more _ _ c.loop-l.invariant.1 (was-yes (tested (goal.at.loop-l-preserved c).After-link_ends_fit) c.if-not-link_ends_fit.false))

pub returns : goal.returns
returns c = all_held _ _ c.loop-l.invariant.0 c.loop-l-test.false c.loop-l.invariant.1 ∙ sym (ends-all _ _)
