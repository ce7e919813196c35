-- `assignment::run_in` meets its contract: it runs a study that its questions accept, and leaves the table of any other.
use Rattle.std.proofs.Common.{◌≡◌, sym, ◌∙◌, arith}
use Rattle.calls.specs.Calls.{run_number}
use Rattle.calls.specs.Laws.Calls.{run-kept}
use Rattle.network.specs.Laws.Decoding.{trips-few, links-counted, commodities-counted, trips-counted}
use Rattle.refusals.specs.Laws.Parts.{parts-decoded, parts-opened}
use Rattle.assignment.specs.Laws.Answers.{run-refusal, run-opened}
use Rattle.assignment.proofs.running.run_in.Goals as goal
use Rattle.assignment.proofs.running.run_in.Goals.{Else-refusal-ne0}

pub slice_bounds-links-end-2 : goal.slice_bounds-links-end-2
slice_bounds-links-end-2 c = links-counted c.decode-opening.ensures

pub slice_bounds-commodities-end : goal.slice_bounds-commodities-end
slice_bounds-commodities-end c = commodities-counted c.decode-opening.ensures

pub overflow_mul-trips : goal.overflow_mul-trips
overflow_mul-trips c = omega (arith, trips-few c.decode-opening.ensures)

pub slice_bounds-trips-end-2 : goal.slice_bounds-trips-end-2
slice_bounds-trips-end-2 c = trips-counted c.decode-opening.ensures

pub run_refusal-refusal-requires : goal.run_refusal-refusal-requires
run_refusal-refusal-requires c = parts-decoded c.decode-opening.ensures

pub returns-then-refusal-ne0 : goal.returns-then-refusal-ne0
returns-then-refusal-ne0 c =
    let number = c.run_refusal-refusal.ensures in
    record {
      value = c.refused_run.ensures ∙ run-refusal _ _ _ _ _ number c.if-refusal-ne0.true;
      table_after = sym (run-kept _ _ _ _ (λ e. c.if-refusal-ne0.true (number ∙ e)));
    }

accepted : (c : Else-refusal-ne0) → run_number c.args.file.now c.args.table.now c.args.course.budget ≡ 0
accepted c = sym c.run_refusal-refusal.ensures ∙ c.if-refusal-ne0.false

pub turns-requires : goal.turns-requires
turns-requires c =
    let good = accepted (goal.at.turns-requires c).Else-refusal-ne0 in
    record {
      parts_of = (parts-opened (parts-decoded c.decode-opening.ensures) (run-opened _ _ _ good), good);
      curves_len = c.requires.room.1;
      sets_out = c.requires.sets_out;
    }
