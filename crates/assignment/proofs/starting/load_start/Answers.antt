-- `assignment::load_start` meets its contract: the places that it lends hold all that is loaded.
use Rattle.std.proofs.Common.{◌≤◌, arith}
use Rattle.judging.specs.Study.{Study, study_of, commodity_count}
use Rattle.judging.specs.Classes.{cars_in}
use Rattle.judging.specs.Laws.Classes.{few-commodities}
use Rattle.judging.specs.Laws.Chains.{room-both, room-cars}
use Rattle.assignment.proofs.starting.load_start.Goals as goal
use Rattle.assignment.proofs.starting.load_start.Goals.{Start}

abbrev study : Start → Study
study c = let x = c.args in study_of x.nodes x.links.now x.commodities.now x.trips.now

pub load_start_in-requires : goal.load_start_in-requires
load_start_in-requires c =
    let (ready, curves) = c.requires.ready in
    record {
      ready = (ready, curves);
      links_in_bounds = c.requires.links_in_bounds;
      chain_room = (room-both _, (few-commodities ready, few-commodities ready));
    }

pub load_start_in-requires-2 : goal.load_start_in-requires-2
load_start_in-requires-2 c =
    let (ready, curves) = c.requires.ready in
    let d = study (goal.at.load_start_in-requires-2 c).Start in
    let no-lorries : commodity_count d ≤ cars_in d = omega (arith, c.if-car_count-commodities.false, c.car_count.ensures.0) in
    let few : commodity_count d ≤ 32 = omega (arith, no-lorries, ready.few-cars) in
    record {
      ready = (ready, curves);
      links_in_bounds = c.requires.links_in_bounds;
      chain_room = (room-cars d no-lorries, (few, few));
    }
