-- `assignment::audit_in` meets its contract: it judges a table that its questions accept.
use Rattle.std.proofs.Common.{◌≡◌, sym, refl, ◌∙◌, arith}
use Rattle.calls.specs.Calls.{table_number}
use Rattle.network.specs.Laws.Decoding.{trips-few, links-counted, commodities-counted, trips-counted}
use Rattle.refusals.specs.Laws.Parts.{parts-decoded}
use Rattle.refusals.specs.Laws.Places.{parts-room, table-passed}
use Rattle.refusals.specs.Laws.Ready.{table-ready}
use Rattle.assignment.specs.Laws.Answers.{audit-refusal, audit-answers}
use Rattle.assignment.proofs.auditing.audit_in.Goals as goal
use Rattle.assignment.proofs.auditing.audit_in.Goals.{Else-refusal-ne0}

pub slice_bounds-links-end-2 : goal.slice_bounds-links-end-2
slice_bounds-links-end-2 c = links-counted c.decode-opening.ensures

pub slice_bounds-commodities-end : goal.slice_bounds-commodities-end
slice_bounds-commodities-end c = commodities-counted c.decode-opening.ensures

pub overflow_mul-trips : goal.overflow_mul-trips
overflow_mul-trips c = omega (arith, trips-few c.decode-opening.ensures)

pub slice_bounds-trips-end-2 : goal.slice_bounds-trips-end-2
slice_bounds-trips-end-2 c = trips-counted c.decode-opening.ensures

pub totals_refusal-refusal-requires : goal.totals_refusal-refusal-requires
totals_refusal-refusal-requires c = (parts-decoded c.decode-opening.ensures, refl)

pub returns-then-refusal-ne0 : goal.returns-then-refusal-ne0
returns-then-refusal-ne0 c = c.refused_audit.ensures ∙ audit-refusal _ _ _ _ c.totals_refusal-refusal.ensures.value c.if-refusal-ne0.true

accepted : (c : Else-refusal-ne0) → table_number c.args.file.now c.args.table.now c.args.share ≡ 0
accepted c = sym c.totals_refusal-refusal.ensures.value ∙ c.if-refusal-ne0.false

pub audit_table-sums-requires : goal.audit_table-sums-requires
audit_table-sums-requires c =
    let parts = parts-decoded c.decode-opening.ensures in
    let good = accepted (goal.at.audit_table-sums-requires c).Else-refusal-ne0 in
    record {
      judgeable = table-ready _ _ parts _ good;
      totals_value = c.totals_refusal-refusal.ensures.totals_after c.if-refusal-ne0.false;
      curve_room = parts-room parts (table-passed _ _ _ good) c.requires.1;
    }

pub returns : goal.returns
returns c =
    audit-answers _ _ (parts-decoded c.decode-opening.ensures) _ (accepted (goal.at.returns c).Else-refusal-ne0) _ c.audit_table-sums.ensures
