-- `least_times` meets its contract: the sum is that of the cars and that of the lorries.
use Prim.Native.Nat.{◌+◌}
use native.Mathlib.Omega.{arith}
use mathlib.Core.Path.{◌≡◌}
use Rattle.search.specs.Groups.{least_over}
use Rattle.judging.specs.Study.{study_of}
use Rattle.judging.specs.Classes.{HasLorries}
use Rattle.judging.specs.Laws.Study.{chainable}
use Rattle.judging.specs.Laws.Least.{least-small}
use Rattle.judging.specs.Laws.Counted.{middle-within, middle-small, cars-asked, cars-chain, cars-trips, lorries-asked, lorries-chain, lorries-trips, counted-least, both-least}
use Rattle.judging.proofs.classes.least_times.Goals as goal
use Rattle.judging.proofs.classes.least_times.Goals.{After-least_times-others, Else-commodities-cars}

some-lorries :
    (c : Else-commodities-cars) → let x = c.args in HasLorries (study_of x.nodes x.links.now x.commodities.now x.trips.now)
some-lorries c = omega (arith, c.if-commodities-cars.false, c.car_count-cars.ensures.0)

pub overflow_mul-middle : goal.overflow_mul-middle
overflow_mul-middle c = omega (arith, middle-small c.requires.0 c.car_count-cars.ensures.0)

pub into_chain-into-requires : goal.into_chain-into-requires
into_chain-into-requires c = chainable c.requires.0

pub least_times-least-requires : goal.least_times-least-requires
least_times-least-requires c =
    let (ready, fit) = c.requires in
    let e = c.car_count-cars.ensures.0 in
    record { all_searchable = (cars-asked ready e fit, cars-chain ready e c.into_chain-into.ensures); trips_len = cars-trips ready e }

pub returns-then-commodities-cars : goal.returns-then-commodities-cars
returns-then-commodities-cars c =
    counted-least c.requires.0 c.car_count-cars.ensures.0 c.args.times.now c.least_times-least.ensures c.if-commodities-cars.true

pub into_chain-into-requires-2 : goal.into_chain-into-requires-2
into_chain-into-requires-2 c = chainable c.requires.0

pub offset_bounds-trips-middle : goal.offset_bounds-trips-middle
offset_bounds-trips-middle c =
    omega (arith, middle-small c.requires.0 c.car_count-cars.ensures.0)

pub slice_bounds-least_times-start-2 : goal.slice_bounds-least_times-start-2
slice_bounds-least_times-start-2 c = middle-within c.requires.0 c.car_count-cars.ensures.0

pub least_times-others-requires : goal.least_times-others-requires
least_times-others-requires c =
    let (ready, fit) = c.requires in
    let e = c.car_count-cars.ensures.0 in
    let some = some-lorries (goal.at.least_times-others-requires c).Else-commodities-cars in
    record { all_searchable = (lorries-asked ready e fit some, lorries-chain ready e some c.into_chain-into-2.ensures); trips_len = lorries-trips ready e }

-- Both sums are that of all commodities.
both :
    (c : After-least_times-others) →
    let x = c.args in
    c.least_times-least.result + c.least_times-others.result ≡ least_over x.nodes x.links.now x.commodities.now x.trips.now x.times.now
both c =
    both-least c.requires.0 c.car_count-cars.ensures.0 c.args.times.now c.least_times-least.ensures c.least_times-others.ensures

pub overflow_add-result : goal.overflow_add-result
overflow_add-result c =
    omega (arith, both (goal.at.overflow_add-result c).After-least_times-others, least-small c.requires.0 c.requires.1)

pub returns : goal.returns
returns c = both (goal.at.returns c).After-least_times-others
