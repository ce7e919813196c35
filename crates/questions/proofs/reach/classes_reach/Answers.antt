-- `questions::reach::classes_reach` meets its contract: question 11 is put to each class by itself.
use Prim.Native.Nat.{◌*◌, ◌≤◌}
use lib.ListN.{length, length-take}
use mathlib.Core.Path.{◌∙◌}
use native.Mathlib.Omega.{arith}
use Rattle.study.proofs.Flags.{was-yes, was-no}
use Rattle.questions.specs.Laws.Commodities.{past-within, trips-few, first-sized, last-sized, first-nodes, last-nodes, last-alike, first-fails, first-is-all, others-answer}
use Rattle.questions.proofs.reach.classes_reach.Goals as goal
use Rattle.questions.proofs.reach.classes_reach.Goals.{Start}

-- The cars' trips are within all, and few.
past :
    (c : Start) →
    let x = c.args in
    (x.cars * x.nodes ≤ length x.trips.now) × (length x.trips.now ≤ 8192)
past c =
    let x = c.args in (
      past-within x.nodes x.links.now x.cars x.commodities.now x.trips.now c.requires.cars_in_bounds.0 c.requires.sized.0,
      trips-few x.nodes x.links.now x.cars x.commodities.now x.trips.now c.requires.cars_in_bounds.0 c.requires.sized.0,
    )

pub overflow_mul-past : goal.overflow_mul-past
overflow_mul-past c = omega (arith, past (goal.at.overflow_mul-past c).Start)

pub slice_bounds-trips_reach-end : goal.slice_bounds-trips_reach-end
slice_bounds-trips_reach-end c = omega (arith, length-take c.args.cars c.args.commodities.now, c.requires.cars_in_bounds.0)

pub slice_bounds-trips_reach-end-2 : goal.slice_bounds-trips_reach-end-2
slice_bounds-trips_reach-end-2 c = omega (arith, length-take (c.args.cars * c.args.nodes) c.args.trips.now, past (goal.at.slice_bounds-trips_reach-end-2 c).Start)

pub trips_reach-requires : goal.trips_reach-requires
trips_reach-requires c =
    let some = c.requires.cars_in_bounds.0 in
    let sized = c.requires.sized.0 in record { sized = (first-sized _ _ _ _ _ some sized, c.requires.sized.1); links_value = c.requires.links_value; to_nodes = (first-nodes _ c.args.links.now _ _ c.args.trips.now some sized c.requires.cars_in_bounds.1, c.requires.one_class.0) }

pub returns-then-not-trips_reach : goal.returns-then-not-trips_reach
returns-then-not-trips_reach c =
    first-fails _ _ _ _ _ c.requires.cars_in_bounds.0 c.requires.sized.0 (was-no c.trips_reach.ensures c.if-not-trips_reach.true)

pub returns-then-commodities-cars : goal.returns-then-commodities-cars
returns-then-commodities-cars c =
    first-is-all _ _ _ _ _ c.requires.cars_in_bounds.0 c.requires.sized.0 c.if-commodities-cars.true (was-yes c.trips_reach.ensures c.if-not-trips_reach.false)

pub offset_bounds-trips-past : goal.offset_bounds-trips-past
offset_bounds-trips-past c = omega (arith, past (goal.at.offset_bounds-trips-past c).Start)

pub slice_bounds-trips_reach-count-2 : goal.slice_bounds-trips_reach-count-2
slice_bounds-trips_reach-count-2 c = omega (arith, past (goal.at.slice_bounds-trips_reach-count-2 c).Start)

pub slice_bounds-trips_reach-start-2 : goal.slice_bounds-trips_reach-start-2
slice_bounds-trips_reach-start-2 c = omega (arith, past (goal.at.slice_bounds-trips_reach-start-2 c).Start)

pub trips_reach-requires-2 : goal.trips_reach-requires-2
trips_reach-requires-2 c =
    let some = c.requires.cars_in_bounds.0 in
    let sized = c.requires.sized.0 in record { sized = (last-sized _ _ _ _ _ some sized, c.requires.sized.1); links_value = c.requires.links_value; to_nodes = (last-nodes _ c.args.links.now _ _ c.args.trips.now some sized c.requires.cars_in_bounds.1, last-alike _ c.args.links.now _ _ c.args.trips.now some sized c.requires.one_class.1) }

pub returns : goal.returns
returns c =
    c.trips_reach-2.ensures
    ∙ others-answer _ _ _ _ _ c.requires.cars_in_bounds.0 c.requires.sized.0 (was-yes c.trips_reach.ensures c.if-not-trips_reach.false)
