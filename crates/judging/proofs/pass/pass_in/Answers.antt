-- `pass_in` meets its contract: the table is judged by what is computed of it, and moved by the chosen j.
use mathlib.Core.Path.{refl, ◌∙◌, ap}
use mathlib.Core.List.{[]}
use lib.ListN.{length, get_or}
use Rattle.theory.specs.Laws.Cases.{true-false}
use Rattle.travel.specs.Laws.Powers.{link-powers}
use Rattle.calls.specs.Calls.{share_after, table_after}
use Rattle.judging.specs.Study.{Study, study_of}
use Rattle.judging.specs.Judged.{TotalsOf}
use Rattle.judging.specs.Laws.Study.{links-fit}
use Rattle.judging.specs.Laws.Judged.{zeros-lent, share-fits, totals-within, cost-is, over-is, totals-are, gap_is, gap-fits, move-fits, movable, move-is, moves-is, notable, note-is}
use Rattle.judging.proofs.pass.pass_in.Goals as goal
use Rattle.judging.proofs.pass.pass_in.Goals.{Start}

-- The study.
abbrev study : Start → Study
study c = let x = c.args in study_of x.nodes x.links.now x.commodities.now x.trips.now

-- The totals that are lent.
totals-were : (c : Start) → TotalsOf (study c) c.args.table.now c.args.flows.now
totals-were c = ap (λ rows. get_or rows 0 []) c.requires.flows_value

pub put_reciprocals-requires : goal.put_reciprocals-requires
put_reciprocals-requires c =
    (links-fit c.requires.judgeable.ready, link-powers c.requires.curve_room.0 c.put_powers.ensures)

pub judge-requires : goal.judge-requires
judge-requires c = let given = c.requires.judgeable in
    let flows = c.requires.flows_value in
    let room = c.requires.chain_room.1 in
    record {
      ready = (
        given.ready,
        share-fits given,
        record { chains-are = c.put_class_chains.ensures; powers-are = c.put_reciprocals.ensures.0.powers },
      );
      known = λ e. true-false e refl;
      lent = (
        zeros-lent _ room.0 room.1 (ap length flows) (ap (λ rows. get_or rows 1 []) flows),
        totals-within given (totals-were (goal.at.judge-requires c).Start),
      );
    }

pub gap_of-gap-requires : goal.gap_of-gap-requires
gap_of-gap-requires c = gap-fits c.requires.judgeable c.judge.ensures (totals-were (goal.at.gap_of-gap-requires c).Start)

pub chosen-j-requires : goal.chosen-j-requires
chosen-j-requires c = (move-fits c.requires.judgeable c.judge.ensures (totals-were (goal.at.chosen-j-requires c).Start), c.put_reciprocals.ensures.0)

pub move_table-after-requires : goal.move_table-after-requires
move_table-after-requires c = movable c.requires.judgeable c.judge.ensures (totals-were (goal.at.move_table-after-requires c).Start) c.chosen-j.ensures

pub put_note-requires : goal.put_note-requires
put_note-requires c = (
  notable c.requires.judgeable c.judge.ensures (totals-were (goal.at.put_note-requires c).Start) c.chosen-j.ensures c.args.note.now c.requires.curve_room.1,
  c.put_class_chains.ensures,
)

pub cost-costs-requires : goal.cost-costs-requires
cost-costs-requires c = let given = c.requires.judgeable in
    let totals = totals-are given c.judge.ensures (totals-were (goal.at.cost-costs-requires c).Start) in
    record { links_fit = (links-fit given.ready, share-fits given, totals-within given totals); link_powers = c.put_reciprocals.ensures.0.powers }

pub returns : goal.returns
returns c = let judgeable = c.requires.judgeable in
    let known = c.judge.ensures in
    let sums = totals-were (goal.at.returns c).Start in
    let next = move-is judgeable known sums c.chosen-j.ensures in
    record {
      moved-is = c.can_move-moved.ensures ∙ moves-is judgeable known sums c.chosen-j.ensures;
      share-is = c.move_table-after.ensures.value ∙ ap (share_after c.args.share) next;
      gap_is = c.gap_of-gap.ensures ∙ gap_is judgeable known sums;
      cost-is = c.cost-costs.ensures.cost_value ∙ cost-is judgeable (totals-are judgeable known sums);
      over-is = c.cost-costs.ensures.over_value ∙ over-is judgeable (totals-are judgeable known sums);
      table_is = c.move_table-after.ensures.table_after ∙ ap (table_after c.args.table.now) next;
      note-is = c.put_note.ensures ∙ note-is judgeable known sums c.chosen-j.ensures c.args.note.now;
    }
