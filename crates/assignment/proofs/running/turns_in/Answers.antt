-- `assignment::turns_in` meets its contract: the run begins with the start's table, and each turn but the last moves the table.
use Rattle.std.proofs.Common.{cond, sym, refl, ap, ◌∙◌, true≢false, mul-le-mul, arith}
use Rattle.theory.specs.Moves.{started}
use Rattle.calls.specs.Calls.{overwritten}
use Rattle.calls.specs.Laws.Questions.{run-both}
use Rattle.travel.specs.Laws.Powers.{link-powers}
use Rattle.judging.specs.Study.{study_of, Judgeable}
use Rattle.judging.specs.Laws.Study.{links-fit}
use Rattle.judging.specs.Laws.Classes.{few-commodities}
use Rattle.judging.specs.Laws.Judged.{zeros-lent, totals-set, totals-lent, share-fits, holds, totals-within, cost-is, over-is}
use Rattle.assignment.specs.Runs.{Running}
use Rattle.refusals.specs.Laws.Parts.{network-is, parts-sized}
use Rattle.refusals.specs.Laws.Places.{curve-room, parts-room, run-passed}
use Rattle.refusals.specs.Laws.Ready.{start-holds}
use Rattle.assignment.specs.Laws.Runs.{sets-out, run-ready, limit_is, limit-fits, turn-judgeable, turn-runs, still-judgeable, turn-ends}
use Rattle.assignment.proofs.running.turns_in.Goals as goal
use Rattle.assignment.proofs.running.turns_in.Goals.{After-first_table, At-loop-flows, In_default}

pub total_trips-requires : goal.total_trips-requires
total_trips-requires c =
    let few = parts-sized c.requires.parts_of.0 in
    omega (arith, few.entries-long, mul-le-mul few.few-commodities few.few-nodes)

pub overflow_mul-limit : goal.overflow_mul-limit
overflow_mul-limit c =
    omega (arith, limit-fits c.requires.parts_of.0 _ _ c.args.course.excess c.requires.parts_of.1 c.total_trips.ensures (omega arith))

pub put_powers-requires : goal.put_powers-requires
put_powers-requires c =
    (curve-room _ (run-passed _ _ _ c.requires.parts_of.1) c.requires.curves_len).room

pub put_reciprocals-requires : goal.put_reciprocals-requires
put_reciprocals-requires c =
    (links-fit (run-ready c.requires.parts_of.0 _ _ 0 c.requires.parts_of.1), link-powers (parts-room c.requires.parts_of.0 (run-passed _ _ _ c.requires.parts_of.1) c.requires.curves_len) c.put_powers.ensures)

pub put_class_chains-requires : goal.put_class_chains-requires
put_class_chains-requires c =
    (run-ready c.requires.parts_of.0 _ _ 0 c.requires.parts_of.1, c.requires.chain_room.0)

pub first_table-requires : goal.first_table-requires
first_table-requires c =
    record {
      ready = (run-ready c.requires.parts_of.0 _ _ 0 c.requires.parts_of.1, record { chains-are = c.put_class_chains.ensures; powers-are = c.put_reciprocals.ensures.0.powers });
      links_in_bounds = start-holds _ _ c.requires.parts_of.0 (run-both _ _ _ c.requires.parts_of.1).0;
      lent = (zeros-lent _ c.requires.chain_room.1.0 c.requires.chain_room.1.1 refl refl, refl);
    }

-- The run sets out from this table.
begins : (c : After-first_table) → let at = c.args.course in Running c.args.file.now c.args.table.now at.budget at.excess at.moves c.first_table.new.table at.share
begins c =
    sets-out _ _ c.args.course c.requires.parts_of.1 c.requires.sets_out (
    c.first_table.ensures.table_after
    ∙ ap (λ g. cond c.args.course.resumed c.args.table.now (overwritten (started g).table c.args.table.now)) (network-is c.requires.parts_of.0)
    )

pub write_totals-requires : goal.write_totals-requires
write_totals-requires c =
    let (parts, accepted) = c.requires.parts_of in
    let study = run-ready parts _ _ 0 accepted in
    let limit = limit_is parts c.args.table.now c.args.course.budget c.args.course.excess accepted c.total_trips.ensures in (
      few-commodities study,
      study.few-links,
      holds (turn-judgeable parts _ _ c.args.course.excess accepted _ _ _ _ limit (begins (goal.at.write_totals-requires c).After-first_table)),
      c.first_table.ensures.lent_2.1,
    )

pub loop-flows-init : goal.loop-flows-init
loop-flows-init c =
    let lent = c.first_table.ensures.lent_2.0 in
    record {
      under-way = begins (goal.at.loop-flows-init c).After-first_table;
      known = λ e. absurd (true≢false (sym e));
      lent = totals-lent _ lent refl;
      totals-are = (totals-set c.first_table.new.flows _ lent.flows_long refl).totals-are ∙ c.write_totals.ensures.0;
    }

-- The table can be judged.
judgeable :
    (c : At-loop-flows) →
    let x = c.args in
    Judgeable (study_of x.nodes x.links.now x.commodities.now x.trips.now) c.loop-flows.table c.loop-flows.share
judgeable c =
    let (parts, accepted) = c.requires.parts_of in
    let limit = limit_is parts c.args.table.now c.args.course.budget c.args.course.excess accepted c.total_trips.ensures in
    turn-judgeable parts _ _ c.args.course.excess accepted _ _ _ _ limit c.loop-flows.invariant.under-way

pub turn_table-turn-requires : goal.turn_table-turn-requires
turn_table-turn-requires c =
    let was = c.loop-flows.invariant in
    record {
      judgeable = (
        judgeable (goal.at.turn_table-turn-requires c).At-loop-flows,
        record { chains-are = c.put_class_chains.ensures; powers-are = c.put_reciprocals.ensures.0.powers },
        c.put_reciprocals.ensures.0,
      );
      lent = was.lent;
      stands = record {
        limit-fits = limit-fits c.requires.parts_of.0 _ _ _ c.requires.parts_of.1 c.total_trips.ensures (omega arith);
        totals-are = was.totals-are;
        known = was.known;
      };
    }

-- A turn that ends the run left its table, which can still be judged.
still :
    (c : In_default) →
    let x = c.args in
    Judgeable (study_of x.nodes x.links.now x.commodities.now x.trips.now) c.turn_table-turn.new.table c.loop-flows.share
still c =
    let (parts, accepted) = c.requires.parts_of in
    let limit = limit_is parts c.args.table.now c.args.course.budget c.args.course.excess accepted c.total_trips.ensures in
    still-judgeable parts _ _ c.args.course.excess accepted _ _ _ _ limit c.loop-flows.invariant.under-way refl refl refl
    c.turn_table-turn.ensures.turned
    c.in_default.not-Moved

pub cost-costs-requires : goal.cost-costs-requires
cost-costs-requires c =
    let judged = still (goal.at.cost-costs-requires c).In_default in
    record {
      links_fit = (links-fit judged.ready, share-fits judged, totals-within judged c.turn_table-turn.ensures.left.totals-are);
      link_powers = c.put_reciprocals.ensures.0.powers;
    }

pub returns-in_default : goal.returns-in_default
returns-in_default c =
    let (parts, accepted) = c.requires.parts_of in
    let limit = limit_is parts c.args.table.now c.args.course.budget c.args.course.excess accepted c.total_trips.ensures in
    let judged = still (goal.at.returns-in_default c).In_default in
    let left = c.turn_table-turn.ensures.left in
    let (value, table_after) =
    turn-ends parts _ _ c.args.course.excess accepted _ _ _ _ limit c.loop-flows.invariant.under-way refl refl refl
    c.turn_table-turn.ensures.turned
    c.in_default.not-Moved
    (c.cost-costs.ensures.cost_value ∙ cost-is judged left.totals-are)
    (c.cost-costs.ensures.over_value ∙ over-is judged left.totals-are)
    c.ended.ensures
    in
    record { value = value; table_after = table_after }

pub loop-flows-preserved : goal.loop-flows-preserved
loop-flows-preserved c =
    let (parts, accepted) = c.requires.parts_of in
    let limit = limit_is parts c.args.table.now c.args.course.budget c.args.course.excess accepted c.total_trips.ensures in
    let left = c.turn_table-turn.ensures.left in
    record {
      under-way = turn-runs parts _ _ c.args.course.excess accepted _ _ _ _ limit c.loop-flows.invariant.under-way refl refl refl
          c.turn_table-turn.ensures.turned
          c.in-Moved.is;
      known = left.known;
      lent = left.lent;
      totals-are = left.totals-are;
    }
