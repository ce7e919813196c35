-- `passes::pass_in` meets its contract: it judges and moves a table that its questions accept, and leaves any other.
use native.Mathlib.Omega.{arith}
use mathlib.Core.Path.{◌≡◌, refl, sym, ◌∙◌, ap}
use mathlib.Core.List.{[], ◌∷◌}
use lib.ListN.{replicate}
use Rattle.calls.specs.Calls.{pass_number}
use Rattle.calls.specs.Laws.Calls.{pass_kept, note-kept}
use Rattle.network.specs.Laws.Decoding.{trips-few, links-counted, commodities-counted, trips-counted}
use Rattle.refusals.specs.Laws.Parts.{parts-decoded}
use Rattle.refusals.specs.Laws.Places.{parts-room, table-passed}
use Rattle.passes.specs.Laws.{pass-refusal, table-accepted, pass-ready, note-room, pass-answers, pass-leaves, pass-notes}
use Rattle.passes.proofs.passing.pass_in.Goals as goal
use Rattle.passes.proofs.passing.pass_in.Goals.{Else-refused}

pub slice_bounds-links-end-2 : goal.slice_bounds-links-end-2
slice_bounds-links-end-2 c = links-counted c.decode-opening.ensures

pub slice_bounds-commodities-end : goal.slice_bounds-commodities-end
slice_bounds-commodities-end c = commodities-counted c.decode-opening.ensures

pub overflow_mul-trips : goal.overflow_mul-trips
overflow_mul-trips c = omega (arith, trips-few c.decode-opening.ensures)

pub slice_bounds-trips-end-2 : goal.slice_bounds-trips-end-2
slice_bounds-trips-end-2 c = trips-counted c.decode-opening.ensures

pub note_refusal-refusal-requires : goal.note_refusal-refusal-requires
note_refusal-refusal-requires c = (parts-decoded c.decode-opening.ensures, refl)

pub returns-then-refused : goal.returns-then-refused
returns-then-refused c =
    let number = c.note_refusal-refusal.ensures.value in
    record {
      value = c.refused_pass.ensures ∙ pass-refusal _ _ _ _ _ number c.if-refused.true;
      table_after = sym (pass_kept _ _ _ _ (λ e. c.if-refused.true (number ∙ e)));
      note_after = sym (note-kept _ _ _ _ (λ e. c.if-refused.true (number ∙ e)));
    }

accepted : (c : Else-refused) → let x = c.args in pass_number x.file.now x.table.now x.share x.note.now ≡ 0
accepted c = sym c.note_refusal-refusal.ensures.value ∙ c.if-refused.false

pub pass_table-passed-requires : goal.pass_table-passed-requires
pass_table-passed-requires c =
    let parts = parts-decoded c.decode-opening.ensures in
    let good = accepted (goal.at.pass_table-passed-requires c).Else-refused in
    record {
      judgeable = pass-ready _ _ _ _ parts good;
      flows_value = ap (λ totals. totals ∷ replicate 512 0 ∷ []) (c.note_refusal-refusal.ensures.totals_after c.if-refused.false);
      curve_room = (parts-room parts (table-passed _ _ _ (table-accepted _ _ _ _ parts good)) c.requires.1, note-room _ _ _ _ parts good);
    }

pub returns : goal.returns
returns c =
    let passed = c.pass_table-passed.ensures in
    let parts = parts-decoded c.decode-opening.ensures in
    let good = accepted (goal.at.returns c).Else-refused in
    record {
      value = rw c.outcome_of-outcome.ensures (pass-answers _ _ _ _ parts good _ _ _ passed);
      table_after = pass-leaves _ _ _ _ parts good _ _ _ passed;
      note_after = pass-notes _ _ _ _ parts good _ _ _ passed;
    }
