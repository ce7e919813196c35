-- `pass_table` meets its contract: the places that it lends hold all that is judged.
use Prim.Native.Nat.{◌≤◌}
use native.Mathlib.Omega.{arith}
use Rattle.judging.specs.Study.{Study, study_of, commodity_count}
use Rattle.judging.specs.Classes.{cars_in}
use Rattle.judging.specs.Laws.Classes.{few-commodities}
use Rattle.judging.specs.Laws.Chains.{room-both, room-cars}
use Rattle.judging.proofs.pass.pass_table.Goals as goal
use Rattle.judging.proofs.pass.pass_table.Goals.{Start}

abbrev study : Start → Study
study c = let x = c.args in study_of x.nodes x.links.now x.commodities.now x.trips.now

pub pass_in-requires : goal.pass_in-requires
pass_in-requires c =
    let few = few-commodities c.requires.judgeable.ready in
    record {
      judgeable = c.requires.judgeable;
      flows_value = c.requires.flows_value;
      curve_room = c.requires.curve_room;
      chain_room = (room-both _, (few, few));
    }

pub pass_in-requires-2 : goal.pass_in-requires-2
pass_in-requires-2 c =
    let d = study (goal.at.pass_in-requires-2 c).Start in
    let no-lorries : commodity_count d ≤ cars_in d = omega (arith, c.if-car_count-commodities.false, c.car_count.ensures.0) in
    let few : commodity_count d ≤ 32 = omega (arith, no-lorries, c.requires.judgeable.ready.few-cars) in
    record {
      judgeable = c.requires.judgeable;
      flows_value = c.requires.flows_value;
      curve_room = c.requires.curve_room;
      chain_room = (room-cars d no-lorries, (few, few));
    }
