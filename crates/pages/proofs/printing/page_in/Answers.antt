-- `pages::page_in` meets its contract: it prints a table that its questions accept.
use native.Mathlib.Omega.{arith}
use mathlib.Core.Path.{◌≡◌, sym, ◌∙◌}
use Rattle.calls.specs.Calls.{page_number}
use Rattle.calls.specs.Laws.Calls.{page-kept}
use Rattle.calls.specs.Laws.Questions.{Passed}
use Rattle.network.specs.Laws.Decoding.{decoded-counts, links-counted}
use Rattle.travel.specs.Laws.Powers.{link-powers}
use Rattle.refusals.specs.Laws.Parts.{parts-decoded}
use Rattle.refusals.specs.Laws.Places.{curve-room, parts-room, table-passed}
use Rattle.pages.specs.Laws.{page-audited, page-numbered, page-room, page-printable, page-leaves}
use Rattle.pages.proofs.printing.page_in.Goals as goal
use Rattle.pages.proofs.printing.page_in.Goals.{After-page_refusal-refusal}

pub overflow_mul-links : goal.overflow_mul-links
overflow_mul-links c =
    let d = c.decode-opening.ensures in
    omega (arith, links-counted d, (decoded-counts d).links-most)

number :
    (c : After-page_refusal-refusal) →
    c.page_refusal-refusal.result ≡ page_number c.args.file.now c.args.table.now c.args.share c.args.page.now
number c = page-numbered (parts-decoded c.decode-opening.ensures) _ _ _ c.totals_refusal-audited.ensures.value c.page_refusal-refusal.ensures

pub returns-then-refusal-ne0 : goal.returns-then-refusal-ne0
returns-then-refusal-ne0 c =
    record { value = number (goal.at.returns-then-refusal-ne0 c).After-page_refusal-refusal; page_after = sym (page-kept _ _ _ _ (λ e. c.if-refusal-ne0.true (number (goal.at.returns-then-refusal-ne0 c).After-page_refusal-refusal ∙ e))) }

-- So the study of an accepted page passes its questions.
passed : (c : After-page_refusal-refusal) → c.page_refusal-refusal.result ≡ 0 → Passed c.args.file.now
passed c none =
    let audited = c.totals_refusal-audited.ensures.value in
    table-passed _ _ _ (sym audited ∙ page-audited _ _ _ _ audited (sym (number c) ∙ none))

pub put_powers-requires : goal.put_powers-requires
put_powers-requires c =
    (curve-room _ (passed (goal.at.put_powers-requires c).After-page_refusal-refusal c.if-refusal-ne0.false) c.requires.1).room

pub put_lines-requires : goal.put_lines-requires
put_lines-requires c =
    let parts = parts-decoded c.decode-opening.ensures in
    let accepted : page_number c.args.file.now c.args.table.now c.args.share c.args.page.now ≡ 0 = sym (number (goal.at.put_lines-requires c).After-page_refusal-refusal) ∙ c.if-refusal-ne0.false in
    let audited = c.totals_refusal-audited.ensures in (
      page-printable parts _ _ _ accepted (audited.totals_after (page-audited _ _ _ _ audited.value accepted)),
      link-powers (parts-room parts (passed (goal.at.put_lines-requires c).After-page_refusal-refusal c.if-refusal-ne0.false) c.requires.1) c.put_powers.ensures,
      page-room parts _ _ _ accepted,
    )

pub returns : goal.returns
returns c =
    let parts = parts-decoded c.decode-opening.ensures in
    let accepted : page_number c.args.file.now c.args.table.now c.args.share c.args.page.now ≡ 0 = sym (number (goal.at.returns c).After-page_refusal-refusal) ∙ c.if-refusal-ne0.false in
    let audited = c.totals_refusal-audited.ensures in
    record { value = sym accepted; page_after = page-leaves parts _ _ _ accepted (audited.totals_after (page-audited _ _ _ _ audited.value accepted)) c.put_lines.ensures }
