-- `questions::fields::roads_fit` meets its contract: the links before l fit.
use borrow.Author.Rules.{rules}
use mathlib.Core.Path.{◌≡◌, refl}
use Rattle.study.proofs.Flags.{was-yes, was-no}
use Rattle.theory.specs.Finite.{all}
use Rattle.questions.specs.Fields.{road_test, roads_fit}
use Rattle.questions.specs.Laws.Questions.{all_more, all-failed, all_held}
use Rattle.questions.proofs.fields.roads_fit.Goals as goal
use Rattle.questions.proofs.fields.roads_fit.Goals.{After-road_fits}

pub loop-l-init : goal.loop-l-init
unfolding all
loop-l-init c = (search rules, refl)

-- The test of link l.
tested : (c : After-road_fits) → c.road_fits.result ≡ road_test c.args.links.now c.loop-l.l
unfolding road_test
tested c = c.road_fits.ensures

pub returns-then-not-road_fits : goal.returns-then-not-road_fits
unfolding roads_fit
returns-then-not-road_fits c = all-failed _ _ _ (search rules) (was-no (tested (goal.at.returns-then-not-road_fits c).After-road_fits) c.if-not-road_fits.true)

pub loop-l-preserved : goal.loop-l-preserved
loop-l-preserved c =
    (search rules, all_more _ _ c.loop-l.invariant.1 (was-yes (tested (goal.at.loop-l-preserved c).After-road_fits) c.if-not-road_fits.false))

pub returns : goal.returns
unfolding roads_fit
returns c = all_held _ _ c.loop-l.invariant.0 c.loop-l-test.false c.loop-l.invariant.1
