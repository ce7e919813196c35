-- `put_next_links` meets its contract: the cars' next links are put into the first rows, and the lorries' into those behind.
use native.Mathlib.Omega.{arith}
use mathlib.Core.Path.{sym, ◌∙◌}
use lib.Seq.{length-take-le}
use Rattle.theory.specs.Laws.Parts.{length-behind, length-behind-replaced}
use Rattle.judging.specs.Study.{study_of}
use Rattle.judging.specs.Classes.{HasLorries}
use Rattle.judging.specs.Laws.Chains.{two-rows}
use Rattle.judging.specs.Laws.Counted.{middle-within, middle-small, cars-asked, cars-linked, cars-trips, lorries-asked, lorries-linked, lorries-trips, counted-cars, counted-both}
use Rattle.judging.proofs.classes.put_next_links.Goals as goal
use Rattle.judging.proofs.classes.put_next_links.Goals.{Then-cars-commodities}

some-lorries :
    (c : Then-cars-commodities) → let x = c.args in HasLorries (study_of x.nodes x.links.now x.commodities.now x.trips.now)
some-lorries c = omega (arith, c.if-cars-commodities.true, c.car_count-cars.ensures.0)

pub overflow_mul-middle : goal.overflow_mul-middle
overflow_mul-middle c = omega (arith, middle-small c.requires.ready.0 c.car_count-cars.ensures.0)

pub slice_bounds-next_table-end-3 : goal.slice_bounds-next_table-end-3
slice_bounds-next_table-end-3 c =
    sym (length-take-le 2 c.args.chains.now (two-rows c.requires.class_chains.0))

pub next_table-requires : goal.next_table-requires
next_table-requires c =
    let (ready, fit) = c.requires.ready in let (chains, long) = c.requires.class_chains in
    let e = c.car_count-cars.ensures.0 in record {
      all_searchable = (cars-asked ready e fit, cars-linked ready e chains);
      trips_len = (
        cars-trips ready e,
        omega (arith, long, c.car_count-cars.ensures.1, length-take-le c.car_count-cars.result c.args.commodities.now c.car_count-cars.ensures.1),
      );
    }

pub offset_bounds-trips-middle : goal.offset_bounds-trips-middle
offset_bounds-trips-middle c =
    omega (arith, middle-small c.requires.ready.0 c.car_count-cars.ensures.0)

pub slice_bounds-next_table-start-then-cars-commodities : goal.slice_bounds-next_table-start-then-cars-commodities
slice_bounds-next_table-start-then-cars-commodities c = middle-within c.requires.ready.0 c.car_count-cars.ensures.0

pub slice_bounds-next_table-count-then-cars-commodities-2 : goal.slice_bounds-next_table-count-then-cars-commodities-2
slice_bounds-next_table-count-then-cars-commodities-2 c = two-rows c.requires.class_chains.0

pub slice_bounds-next_table-start-then-cars-commodities-2 : goal.slice_bounds-next_table-start-then-cars-commodities-2
slice_bounds-next_table-start-then-cars-commodities-2 c = two-rows c.requires.class_chains.0

pub next_table-requires-then-cars-commodities : goal.next_table-requires-then-cars-commodities
next_table-requires-then-cars-commodities c =
    let (ready, fit) = c.requires.ready in let (chains, long) = c.requires.class_chains in
    let e = c.car_count-cars.ensures.0 in
    let n = c.car_count-cars.result in
    let some = some-lorries (goal.at.next_table-requires-then-cars-commodities c).Then-cars-commodities in
    record {
      all_searchable = (lorries-asked ready e fit some, lorries-linked ready e chains some);
      trips_len = (
        lorries-trips ready e,
        omega (
          arith,
          long,
          c.next_table.ensures.table_len_unchanged,
          length-behind c.args.commodities.now n,
          length-behind c.next_table.new.table n,
        ),
      );
    }

pub returns-then-cars-commodities : goal.returns-then-cars-commodities
returns-then-cars-commodities c =
    let long = c.requires.class_chains.1 in
    let n = c.car_count-cars.result in
    let first = c.next_table in
    let same = first.ensures.table_len_unchanged in
    let nexts = first.new.table in
    let other = c.next_table-then-cars-commodities in
    let rows = other.new.table in
    let rows_long = other.ensures.table_len_unchanged ∙ length-behind nexts n in
    record {
      class_nexts =
          counted-both c.requires.ready.0 c.car_count-cars.ensures.0 (omega (arith, long, same)) first.ensures.nexts rows rows_long other.ensures.nexts;
      next_len_unchanged =
          length-behind-replaced nexts n (omega (arith, long, same, c.car_count-cars.ensures.1)) rows rows_long ∙ same;
    }

pub returns-else-cars-commodities : goal.returns-else-cars-commodities
returns-else-cars-commodities c =
    let same = c.next_table.ensures.table_len_unchanged in
    record {
      class_nexts =
          counted-cars c.requires.ready.0 c.car_count-cars.ensures.0 (omega (arith, c.requires.class_chains.1, same)) c.next_table.ensures.nexts
          (omega (arith, c.if-cars-commodities.false));
      next_len_unchanged = same;
    }
