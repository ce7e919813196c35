-- `questions::fields::powers_fit` meets its contract: the powers of the links before l fit.
use borrow.Author.Rules.{rules}
use mathlib.Core.Path.{◌≡◌, refl}
use Rattle.study.proofs.Flags.{was-yes, was-no}
use Rattle.theory.specs.Finite.{all}
use Rattle.questions.specs.Fields.{power_test, powers_fit}
use Rattle.questions.specs.Laws.Questions.{all_more, all-failed, all_held}
use Rattle.questions.proofs.fields.powers_fit.Goals as goal
use Rattle.questions.proofs.fields.powers_fit.Goals.{After-within}

pub loop-l-init : goal.loop-l-init
unfolding all
loop-l-init c = (search rules, refl)

-- The test of link l.
tested : (c : After-within) → c.within.result ≡ power_test c.args.links.now c.loop-l.l
unfolding power_test
tested c = c.within.ensures

pub returns-then-not-within : goal.returns-then-not-within
unfolding powers_fit
returns-then-not-within c = all-failed _ _ _ (search rules) (was-no (tested (goal.at.returns-then-not-within c).After-within) c.if-not-within.true)

pub loop-l-preserved : goal.loop-l-preserved
loop-l-preserved c =
    (search rules, all_more _ _ c.loop-l.invariant.1 (was-yes (tested (goal.at.loop-l-preserved c).After-within) c.if-not-within.false))

pub returns : goal.returns
unfolding powers_fit
returns c = all_held _ _ c.loop-l.invariant.0 c.loop-l-test.false c.loop-l.invariant.1
