-- `assignment::start_in` meets its contract: it fills a table that its questions accept, and leaves any other.
use Rattle.std.proofs.Common.{◌≡◌, sym, ◌∙◌, arith}
use Rattle.calls.specs.Calls.{start_number}
use Rattle.calls.specs.Laws.Calls.{start-kept}
use Rattle.network.specs.Laws.Decoding.{trips-few, commodities-counted, trips-counted}
use Rattle.refusals.specs.Laws.Places.{parts-room, start-passed}
use Rattle.refusals.specs.Laws.Parts.{parts-decoded}
use Rattle.refusals.specs.Laws.Ready.{start-ready, start-holds}
use Rattle.assignment.specs.Laws.Answers.{start-leaves}
use Rattle.assignment.proofs.starting.start_in.Goals as goal
use Rattle.assignment.proofs.starting.start_in.Goals.{Else-refusal-ne0}

pub slice_bounds-commodities-end : goal.slice_bounds-commodities-end
slice_bounds-commodities-end c = commodities-counted c.decode-opening.ensures

pub overflow_mul-trips : goal.overflow_mul-trips
overflow_mul-trips c = omega (arith, trips-few c.decode-opening.ensures)

pub slice_bounds-trips-end-2 : goal.slice_bounds-trips-end-2
slice_bounds-trips-end-2 c = trips-counted c.decode-opening.ensures

pub returns-then-refusal-ne0 : goal.returns-then-refusal-ne0
returns-then-refusal-ne0 c =
    let number = c.start_refusal-refusal.ensures in
    record { value = number; table_after = sym (start-kept _ _ (λ e. c.if-refusal-ne0.true (number ∙ e))) }

accepted : (c : Else-refusal-ne0) → start_number c.args.file.now c.args.table.now ≡ 0
accepted c = sym c.start_refusal-refusal.ensures ∙ c.if-refusal-ne0.false

pub load_start-requires : goal.load_start-requires
load_start-requires c =
    let parts = parts-decoded c.decode-opening.ensures in
    let good = accepted (goal.at.load_start-requires c).Else-refusal-ne0 in
    record {
      ready = (start-ready _ _ parts good, parts-room parts (start-passed _ _ good) c.requires.1);
      links_in_bounds = start-holds _ _ parts good;
    }

pub returns : goal.returns
returns c =
    let good = accepted (goal.at.returns c).Else-refusal-ne0 in
    record { value = sym good; table_after = start-leaves _ _ (parts-decoded c.decode-opening.ensures) _ good c.load_start.ensures }
