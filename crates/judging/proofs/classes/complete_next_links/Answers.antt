-- `complete_next_links` meets its contract: the cars' rows are completed, and then the lorries'.
use native.Mathlib.Omega.{arith}
use mathlib.Core.Path.{◌≡◌, sym, ◌∙◌}
use mathlib.Core.List.{◌++◌}
use lib.ListN.{length, drop}
use lib.Seq.{length-take-le}
use Rattle.theory.specs.Laws.Parts.{length-behind}
use Rattle.judging.specs.Study.{study_of}
use Rattle.judging.specs.Classes.{HasLorries}
use Rattle.judging.specs.Laws.Chains.{two-rows}
use Rattle.judging.specs.Laws.Counted.{middle-within, middle-small, cars-asked, cars-linked, cars-trips, lorries-asked, lorries-linked, lorries-trips, cars-found, lorries-found, full-cars, full-both}
use Rattle.judging.proofs.classes.complete_next_links.Goals as goal
use Rattle.judging.proofs.classes.complete_next_links.Goals.{After-car_count-cars, After-complete_table, Then-cars-commodities}

some-lorries :
    (c : Then-cars-commodities) → let x = c.args in HasLorries (study_of x.nodes x.links.now x.commodities.now x.trips.now)
some-lorries c = omega (arith, c.if-cars-commodities.true, c.car_count-cars.ensures.0)

-- As many rows are completed as there are commodities of cars.
rows_long : (c : After-complete_table) → length c.complete_table.new.table ≡ c.car_count-cars.result
rows_long c =
    c.complete_table.ensures.table_len_unchanged
    ∙ length-take-le c.car_count-cars.result c.args.next.now (omega (arith, c.car_count-cars.ensures.1, c.requires.class_chains.1.size))

pub overflow_mul-middle : goal.overflow_mul-middle
overflow_mul-middle c = omega (arith, middle-small c.requires.ready.0 c.car_count-cars.ensures.0)

pub slice_bounds-complete_table-end-3 : goal.slice_bounds-complete_table-end-3
slice_bounds-complete_table-end-3 c =
    sym (length-take-le 2 c.args.chains.now (two-rows c.requires.class_chains.0))

pub complete_table-requires : goal.complete_table-requires
complete_table-requires c =
    let (ready, fit) = c.requires.ready in let (chains, nexts) = c.requires.class_chains in
    let e = c.car_count-cars.ensures.0 in
    record { all_searchable = (cars-asked ready e fit, cars-linked ready e chains); trips_len = cars-trips ready e; nexts = cars-found ready e nexts }

pub offset_bounds-trips-middle : goal.offset_bounds-trips-middle
offset_bounds-trips-middle c =
    omega (arith, middle-small c.requires.ready.0 c.car_count-cars.ensures.0)

pub slice_bounds-complete_table-start-then-cars-commodities : goal.slice_bounds-complete_table-start-then-cars-commodities
slice_bounds-complete_table-start-then-cars-commodities c = middle-within c.requires.ready.0 c.car_count-cars.ensures.0

pub slice_bounds-complete_table-count-then-cars-commodities-2 : goal.slice_bounds-complete_table-count-then-cars-commodities-2
slice_bounds-complete_table-count-then-cars-commodities-2 c = two-rows c.requires.class_chains.0

pub slice_bounds-complete_table-start-then-cars-commodities-2 : goal.slice_bounds-complete_table-start-then-cars-commodities-2
slice_bounds-complete_table-start-then-cars-commodities-2 c = two-rows c.requires.class_chains.0

pub complete_table-requires-then-cars-commodities : goal.complete_table-requires-then-cars-commodities
complete_table-requires-then-cars-commodities c =
    let (ready, fit) = c.requires.ready in let (chains, nexts) = c.requires.class_chains in
    let e = c.car_count-cars.ensures.0 in
    let some = some-lorries (goal.at.complete_table-requires-then-cars-commodities c).Then-cars-commodities in
    let rows = rows_long (goal.at.complete_table-requires-then-cars-commodities c).After-complete_table in
    record {
      all_searchable = (lorries-asked ready e fit some, lorries-linked ready e chains some);
      trips_len = lorries-trips ready e;
      nexts = lorries-found ready e nexts c.complete_table.new.table rows some;
    }

pub returns-then-cars-commodities : goal.returns-then-cars-commodities
returns-then-cars-commodities c =
    let (ready, fit) = c.requires.ready in let (chains, nexts) = c.requires.class_chains in
    let first = c.complete_table in
    let rows = first.new.table in
    let others = c.complete_table-then-cars-commodities.new.table in
    full-both ready c.car_count-cars.ensures.0 nexts rows (rows_long (goal.at.returns-then-cars-commodities c).After-complete_table) first.ensures.all_nexts others
    (c.complete_table-then-cars-commodities.ensures.table_len_unchanged ∙ length-behind (rows ++ drop c.car_count-cars.result c.args.next.now) c.car_count-cars.result)
    c.complete_table-then-cars-commodities.ensures.all_nexts

pub returns-else-cars-commodities : goal.returns-else-cars-commodities
returns-else-cars-commodities c =
    let (ready, fit) = c.requires.ready in let (chains, nexts) = c.requires.class_chains in
    full-cars ready c.car_count-cars.ensures.0 nexts c.complete_table.new.table (rows_long (goal.at.returns-else-cars-commodities c).After-complete_table) c.complete_table.ensures.all_nexts
    (omega (arith, c.if-cars-commodities.false))
