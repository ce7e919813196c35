-- `assignment::turns` meets its contract: the rows that it lends hold all that is judged.
use Rattle.std.proofs.Common.{◌≤◌, length, arith}
use Rattle.judging.specs.Study.{Study, study_of, commodity_count, Ready}
use Rattle.judging.specs.Classes.{cars_in}
use Rattle.judging.specs.Laws.Classes.{few-commodities}
use Rattle.judging.specs.Laws.Chains.{room-both, room-cars}
use Rattle.assignment.specs.Laws.Runs.{run-ready}
use Rattle.assignment.proofs.running.turns.Goals as goal
use Rattle.assignment.proofs.running.turns.Goals.{Start}

abbrev study : Start → Study
study c = let x = c.args in study_of x.nodes x.links.now x.commodities.now x.trips.now

pub turns_in-requires : goal.turns_in-requires
turns_in-requires c =
    let few : length c.args.commodities.now ≤ 8 = c.if-commodities-le-FEW_COMMODITIES.true in
    record { parts_of = c.requires.parts_of; sets_out = c.requires.sets_out; curves_len = c.requires.curves_len; chain_room = (room-both _, (few, few)) }

pub turns_in-requires-then-car_count-commodities : goal.turns_in-requires-then-car_count-commodities
turns_in-requires-then-car_count-commodities c =
    let few = few-commodities (run-ready c.requires.parts_of.0 _ _ 0 c.requires.parts_of.1) in
    record { parts_of = c.requires.parts_of; sets_out = c.requires.sets_out; curves_len = c.requires.curves_len; chain_room = (room-both _, (few, few)) }

pub turns_in-requires-2 : goal.turns_in-requires-2
turns_in-requires-2 c =
    let d = study (goal.at.turns_in-requires-2 c).Start in
    let ready : Ready d = run-ready c.requires.parts_of.0 _ _ 0 c.requires.parts_of.1 in
    let no-lorries : commodity_count d ≤ cars_in d = omega (arith, c.if-car_count-commodities.false, c.car_count.ensures.0) in
    let few : commodity_count d ≤ 32 = omega (arith, no-lorries, ready.few-cars) in
    record { parts_of = c.requires.parts_of; sets_out = c.requires.sets_out; curves_len = c.requires.curves_len; chain_room = (room-cars d no-lorries, (few, few)) }
