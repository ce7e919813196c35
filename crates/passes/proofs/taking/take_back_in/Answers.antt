-- `passes::take_back_in` meets its contract: it takes the note's loading back out of a table that its questions accept, and leaves any other.
use native.Mathlib.Omega.{arith}
use mathlib.Core.Path.{◌≡◌, refl, sym, ◌∙◌}
use Rattle.calls.specs.Calls.{pass_number}
use Rattle.network.specs.Laws.Decoding.{trips-few, links-counted, commodities-counted, trips-counted}
use Rattle.refusals.specs.Laws.Parts.{parts-decoded}
use Rattle.passes.specs.Laws.{back-refused, back-kept, takeable, few-cars, back-answers, back-leaves}
use Rattle.passes.proofs.taking.take_back_in.Goals as goal
use Rattle.passes.proofs.taking.take_back_in.Goals.{Else-refusal-ne0}

pub slice_bounds-links-end-2 : goal.slice_bounds-links-end-2
slice_bounds-links-end-2 c = links-counted c.decode-opening.ensures

pub slice_bounds-commodities-end : goal.slice_bounds-commodities-end
slice_bounds-commodities-end c = commodities-counted c.decode-opening.ensures

pub overflow_mul-trips : goal.overflow_mul-trips
overflow_mul-trips c = omega (arith, trips-few c.decode-opening.ensures)

pub slice_bounds-trips-end-2 : goal.slice_bounds-trips-end-2
slice_bounds-trips-end-2 c = trips-counted c.decode-opening.ensures

pub note_refusal-refusal-requires : goal.note_refusal-refusal-requires
note_refusal-refusal-requires c = (parts-decoded c.decode-opening.ensures, refl)

pub returns-then-refusal-ne0 : goal.returns-then-refusal-ne0
returns-then-refusal-ne0 c =
    let number = c.note_refusal-refusal.ensures.value in
    record {
      value = c.refused_take_back.ensures ∙ back-refused _ _ _ _ number c.if-refusal-ne0.true;
      table_after = back-kept _ _ _ _ number c.if-refusal-ne0.true;
    }

accepted : (c : Else-refusal-ne0) → let x = c.args in pass_number x.file.now x.table.now x.share x.note.now ≡ 0
accepted c = sym c.note_refusal-refusal.ensures.value ∙ c.if-refusal-ne0.false

pub take_by_note-taken-requires : goal.take_by_note-taken-requires
take_by_note-taken-requires c =
    let parts = parts-decoded c.decode-opening.ensures in
    let good = accepted (goal.at.take_by_note-taken-requires c).Else-refusal-ne0 in
    (takeable _ _ _ _ parts good, few-cars _ _ _ _ parts good)

pub returns : goal.returns
returns c =
    let taken = c.take_by_note-taken.ensures in
    let parts = parts-decoded c.decode-opening.ensures in
    let good = accepted (goal.at.returns c).Else-refusal-ne0 in
    record { value = back-answers _ _ _ _ parts good _ _ taken; table_after = back-leaves _ _ _ _ parts good _ _ taken }
