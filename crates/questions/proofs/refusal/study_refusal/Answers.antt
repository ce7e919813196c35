-- `questions::study_refusal` meets its contract: each question that is passed was answered yes, and the first that is not gives its number.
use mathlib.Core.Bool.{true, false}
use borrow.Author.Tests.{eqb-true}
use mathlib.Core.Path.{◌≡◌, ◌∙◌}
use native.Mathlib.Omega.{arith}
use Rattle.study.proofs.Flags.{was-yes, was-no}
use Rattle.theory.specs.Study.{network}
use Rattle.calls.specs.Questions.{ends_fit, times_fit, destinations_fit, marks_fit, no_trips_within, total_fits, trips_reach, study_questions}
use Rattle.questions.specs.Sized.{ToNodes}
use Rattle.questions.specs.Laws.Questions.{entries_fit, ends-answer, within-answer, total-answer}
use Rattle.questions.specs.Laws.Commodities.{cars-within, to-nodes, cars-alike, lorries-alike}
use Rattle.questions.specs.Laws.Reach.{none-closed}
use Rattle.questions.proofs.refusal.study_refusal.Goals as goal
use Rattle.questions.proofs.refusal.study_refusal.Goals.{Else-not-classes_reach, Else-not-destinations_fit, Else-not-ends_fit, Else-not-marks_fit, Else-not-marks_fit-2, Else-not-no_trips_within, Else-not-times_fit, Else-not-total_fits}

-- The answer to each question that is passed is yes.
yes-6 : (c : Else-not-ends_fit) → ends_fit (network c.args.nodes c.args.links.now c.args.commodities.now c.args.trips.now) ≡ true
yes-6 c = was-yes (c.ends_fit.ensures ∙ ends-answer _ _ _ _) c.if-not-ends_fit.false

yes-7 : (c : Else-not-times_fit) → times_fit c.args.links.now ≡ true
yes-7 c = search was-yes

yes-8 : (c : Else-not-destinations_fit) → destinations_fit c.args.nodes c.args.destinations.now ≡ true
yes-8 c = search was-yes

yes-19 : (c : Else-not-marks_fit) → marks_fit c.args.closed.now ≡ true
yes-19 c = search was-yes

yes-23 : (c : Else-not-marks_fit-2) → marks_fit c.args.barred.now ≡ true
yes-23 c = search was-yes

yes-9 : (c : Else-not-no_trips_within) → no_trips_within (network c.args.nodes c.args.links.now c.args.commodities.now c.args.trips.now) ≡ true
yes-9 c = was-yes (c.no_trips_within.ensures ∙ within-answer _ _ _ _) c.if-not-no_trips_within.false

yes-10 : (c : Else-not-total_fits) → total_fits (network c.args.nodes c.args.links.now c.args.commodities.now c.args.trips.now) ≡ true
yes-10 c = was-yes (c.total_fits.ensures ∙ total-answer _ _ _ _ c.requires.sized.0) c.if-not-total_fits.false

yes-11 : (c : Else-not-classes_reach) → trips_reach (network c.args.nodes c.args.links.now c.args.commodities.now c.args.trips.now) ≡ true
yes-11 c = search was-yes

pub returns-then-not-ends_fit : goal.returns-then-not-ends_fit
unfolding study_questions
returns-then-not-ends_fit c =
    let refused : ends_fit (network c.args.nodes c.args.links.now c.args.commodities.now c.args.trips.now) ≡ false = was-no (c.ends_fit.ensures ∙ ends-answer _ _ _ _) c.if-not-ends_fit.true in
    rw (refused)

pub returns-then-not-times_fit : goal.returns-then-not-times_fit
unfolding study_questions
returns-then-not-times_fit c =
    let refused : times_fit c.args.links.now ≡ false = search was-no in
    rw (yes-6 (goal.at.returns-then-not-times_fit c).Else-not-ends_fit, refused)

pub returns-then-not-destinations_fit : goal.returns-then-not-destinations_fit
unfolding study_questions
returns-then-not-destinations_fit c =
    let refused : destinations_fit c.args.nodes c.args.destinations.now ≡ false = search was-no in
    rw (yes-6 (goal.at.returns-then-not-destinations_fit c).Else-not-ends_fit, yes-7 (goal.at.returns-then-not-destinations_fit c).Else-not-times_fit, refused)

pub returns-then-not-marks_fit : goal.returns-then-not-marks_fit
unfolding study_questions
returns-then-not-marks_fit c =
    let refused : marks_fit c.args.closed.now ≡ false = search was-no in
    rw (yes-6 (goal.at.returns-then-not-marks_fit c).Else-not-ends_fit, yes-7 (goal.at.returns-then-not-marks_fit c).Else-not-times_fit, yes-8 (goal.at.returns-then-not-marks_fit c).Else-not-destinations_fit, refused)

pub returns-then-not-marks_fit-2 : goal.returns-then-not-marks_fit-2
unfolding study_questions
returns-then-not-marks_fit-2 c =
    let refused : marks_fit c.args.barred.now ≡ false = search was-no in
    rw (yes-6 (goal.at.returns-then-not-marks_fit-2 c).Else-not-ends_fit, yes-7 (goal.at.returns-then-not-marks_fit-2 c).Else-not-times_fit, yes-8 (goal.at.returns-then-not-marks_fit-2 c).Else-not-destinations_fit, yes-19 (goal.at.returns-then-not-marks_fit-2 c).Else-not-marks_fit, refused)

-- The destination of every commodity is a node.
nodes-to : (c : Else-not-destinations_fit) → ToNodes c.args.nodes c.args.commodities.now
nodes-to c = to-nodes _ _ c.requires.destinations_len_bound.1 _ c.requires.sized.0.few-nodes (yes-8 c)

pub no_trips_within-requires : goal.no_trips_within-requires
no_trips_within-requires c = record { trips_len = c.requires.sized.0.entries-long; to_nodes = nodes-to (goal.at.no_trips_within-requires c).Else-not-destinations_fit }

pub returns-then-not-no_trips_within : goal.returns-then-not-no_trips_within
unfolding study_questions
returns-then-not-no_trips_within c =
    let refused : no_trips_within (network c.args.nodes c.args.links.now c.args.commodities.now c.args.trips.now) ≡ false = was-no (c.no_trips_within.ensures ∙ within-answer _ _ _ _) c.if-not-no_trips_within.true in
    rw (yes-6 (goal.at.returns-then-not-no_trips_within c).Else-not-ends_fit, yes-7 (goal.at.returns-then-not-no_trips_within c).Else-not-times_fit, yes-8 (goal.at.returns-then-not-no_trips_within c).Else-not-destinations_fit, yes-19 (goal.at.returns-then-not-no_trips_within c).Else-not-marks_fit, yes-23 (goal.at.returns-then-not-no_trips_within c).Else-not-marks_fit-2, refused)

pub total_fits-requires : goal.total_fits-requires
total_fits-requires c =
    let size = c.requires.sized.0 in
    omega (arith, entries_fit size.few-nodes size.few-commodities)

pub returns-then-not-total_fits : goal.returns-then-not-total_fits
unfolding study_questions
returns-then-not-total_fits c =
    let refused : total_fits (network c.args.nodes c.args.links.now c.args.commodities.now c.args.trips.now) ≡ false = was-no (c.total_fits.ensures ∙ total-answer _ _ _ _ c.requires.sized.0) c.if-not-total_fits.true in
    rw (yes-6 (goal.at.returns-then-not-total_fits c).Else-not-ends_fit, yes-7 (goal.at.returns-then-not-total_fits c).Else-not-times_fit, yes-8 (goal.at.returns-then-not-total_fits c).Else-not-destinations_fit, yes-19 (goal.at.returns-then-not-total_fits c).Else-not-marks_fit, yes-23 (goal.at.returns-then-not-total_fits c).Else-not-marks_fit-2, yes-9 (goal.at.returns-then-not-total_fits c).Else-not-no_trips_within, refused)

pub classes_reach-requires : goal.classes_reach-requires
classes_reach-requires c =
    let given = c.requires.destinations_len_bound.1 in
    let few = c.requires.sized.0.few-nodes in
    record { sized = (c.requires.sized.0, λ none. none-closed c.args.links.now c.args.closed.now c.requires.sized.1 (eqb-true _ _ none)); links_value = ends-answer _ _ _ _ ∙ yes-6 (goal.at.classes_reach-requires c).Else-not-ends_fit; cars_in_bounds = (cars-within _ _ given, nodes-to (goal.at.classes_reach-requires c).Else-not-destinations_fit); one_class = (cars-alike _ _ given _ few (yes-8 (goal.at.classes_reach-requires c).Else-not-destinations_fit), lorries-alike _ _ given) }

pub returns-then-not-classes_reach : goal.returns-then-not-classes_reach
unfolding study_questions
returns-then-not-classes_reach c =
    let refused : trips_reach (network c.args.nodes c.args.links.now c.args.commodities.now c.args.trips.now) ≡ false = search was-no in
    rw (yes-6 (goal.at.returns-then-not-classes_reach c).Else-not-ends_fit, yes-7 (goal.at.returns-then-not-classes_reach c).Else-not-times_fit, yes-8 (goal.at.returns-then-not-classes_reach c).Else-not-destinations_fit, yes-19 (goal.at.returns-then-not-classes_reach c).Else-not-marks_fit, yes-23 (goal.at.returns-then-not-classes_reach c).Else-not-marks_fit-2, yes-9 (goal.at.returns-then-not-classes_reach c).Else-not-no_trips_within, yes-10 (goal.at.returns-then-not-classes_reach c).Else-not-total_fits, refused)

pub returns : goal.returns
unfolding study_questions
returns c = rw (yes-6 (goal.at.returns c).Else-not-ends_fit, yes-7 (goal.at.returns c).Else-not-times_fit, yes-8 (goal.at.returns c).Else-not-destinations_fit, yes-19 (goal.at.returns c).Else-not-marks_fit, yes-23 (goal.at.returns c).Else-not-marks_fit-2, yes-9 (goal.at.returns c).Else-not-no_trips_within, yes-10 (goal.at.returns c).Else-not-total_fits, yes-11 (goal.at.returns c).Else-not-classes_reach)
