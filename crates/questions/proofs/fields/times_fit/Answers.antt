-- `questions::fields::times_fit` meets its contract: question 7 is both its halves, and links of power 4 pass the second.
use mathlib.Core.Path.{◌≡◌}
use mathlib.Core.Bool.{true}
use Rattle.study.proofs.Flags.{was-yes, was-no}
use Rattle.questions.specs.Fields.{roads_fit}
use Rattle.questions.specs.Laws.Questions.{times-both, fourth-fit}
use Rattle.questions.proofs.fields.times_fit.Goals as goal
use Rattle.questions.proofs.fields.times_fit.Goals.{Else-not-roads_fit}

pub returns-then-not-roads_fit : goal.returns-then-not-roads_fit
returns-then-not-roads_fit c = rw (times-both, was-no c.roads_fit.ensures c.if-not-roads_fit.true)

-- The first half is passed.
passed : (c : Else-not-roads_fit) → roads_fit c.args.links.now ≡ true
passed c = was-yes c.roads_fit.ensures c.if-not-roads_fit.false

pub returns-then-all_fourth : goal.returns-then-all_fourth
returns-then-all_fourth c = rw (times-both, passed (goal.at.returns-then-all_fourth c).Else-not-roads_fit, fourth-fit _ (c.requires c.if-all_fourth.true))

pub returns : goal.returns
returns c = rw (times-both, passed (goal.at.returns c).Else-not-roads_fit) c.powers_fit.ensures
