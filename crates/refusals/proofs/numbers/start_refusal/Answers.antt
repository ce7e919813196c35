-- `refusals::start_refusal` meets its contract: questions 1 to 5 of the file, then 6 to 11 of its parts, then 12 of the table.
use Rattle.std.proofs.Common.{ℕ, List}
use borrow.Author.Tests.{ltb-true}
use native.Mathlib.Nat.{mul-le-mul}
use native.Mathlib.Omega.{arith}
use mathlib.Core.Path.{◌≡◌, sym, ◌∙◌, ap}
use Rattle.study.specs.Questions.{first_no, refusal}
use Rattle.study.specs.Header.{destination_field}
use Rattle.study.specs.Sections.{destinations}
use Rattle.study.specs.Laws.{accepted, destinations-field}
use Rattle.calls.specs.Calls.{check_number}
use Rattle.network.specs.Laws.Checking.{check-refused, check-opened}
use Rattle.refusals.specs.Parts.{PartsOf}
use Rattle.refusals.specs.Laws.Parts.{parts-sized, parts-closed, parts-fourth, parts-destinations, parts-counted, parts-commodities, asked_is, size_is}
use Rattle.refusals.specs.Laws.Numbers.{start-checked, start-short, start-long}
use Rattle.refusals.proofs.numbers.start_refusal.Goals as goal
use Rattle.refusals.proofs.numbers.start_refusal.Goals.{After-study_refusal-refusal}

pub returns-then-opening-ne0 : goal.returns-then-opening-ne0
returns-then-opening-ne0 c =
    let parts = c.requires in
    let number = parts.opening-is ∙ sym (check-refused _ (λ e. c.if-opening-ne0.true (parts.opening-is ∙ e))) in
    number ∙ sym (start-checked _ _ (λ e. c.if-opening-ne0.true (number ∙ e)))

module _ {file : List ℕ} {opening n : ℕ} {links : List (List ℕ)} {commodities entries : List ℕ} (parts : PartsOf file opening n links commodities entries)
    (none : opening ≡ 0) where
  -- Questions 1 to 5 are passed then,
  opened : refusal file ≡ 0
  opened = sym parts.opening-is ∙ none

  -- and the field is p.
  counted : {p : ℕ} → p ≡ destination_field file → p ≡ destinations file
  counted is = is ∙ sym (destinations-field _ opened)

pub destination_field-p-requires : goal.destination_field-p-requires
destination_field-p-requires c = (accepted _ (opened c.requires c.if-opening-ne0.false)).length-least

pub slice_bounds-study_refusal-end : goal.slice_bounds-study_refusal-end
slice_bounds-study_refusal-end c = parts-counted c.requires (counted c.requires c.if-opening-ne0.false c.destination_field-p.ensures.0)

pub study_refusal-refusal-requires : goal.study_refusal-refusal-requires
study_refusal-refusal-requires c =
    let parts = c.requires in record { sized = (parts-sized parts, parts-closed parts c.accepted_section.ensures); destinations_len_bound = parts-commodities parts (counted c.requires c.if-opening-ne0.false c.destination_field-p.ensures.0); all_fourth = λ short. parts-fourth parts (rw c.link_size.ensures at (ltb-true c.link_size.result 12 short)) }

-- The number of questions 6 to 11 is check's, since 1 to 5 are passed.
asked : (c : After-study_refusal-refusal) → c.study_refusal-refusal.result ≡ check_number c.args.file.now
asked c =
    let parts = c.requires in
    c.study_refusal-refusal.ensures
    ∙ ap first_no
    (asked_is parts (parts-destinations parts (counted parts c.if-opening-ne0.false c.destination_field-p.ensures.0)) c.accepted_section.ensures
    c.accepted_section-2.ensures)
    ∙ sym (check-opened _ (opened parts c.if-opening-ne0.false))

pub returns-then-refusal-ne0 : goal.returns-then-refusal-ne0
returns-then-refusal-ne0 c = asked (goal.at.returns-then-refusal-ne0 c).After-study_refusal-refusal ∙ sym (start-checked _ _ (λ e. c.if-refusal-ne0.true (asked (goal.at.returns-then-refusal-ne0 c).After-study_refusal-refusal ∙ e)))

pub overflow_mul-commodities : goal.overflow_mul-commodities
overflow_mul-commodities c =
    let few = parts-sized c.requires in
    omega (arith, mul-le-mul few.few-commodities few.few-links)

pub returns-then-table-commodities : goal.returns-then-table-commodities
returns-then-table-commodities c = sym (start-short _ _ (sym (asked (goal.at.returns-then-table-commodities c).After-study_refusal-refusal) ∙ c.if-refusal-ne0.false) (omega (arith, c.if-table-commodities.true, size_is c.requires)))

pub returns : goal.returns
returns c = sym (start-long _ _ (sym (asked (goal.at.returns c).After-study_refusal-refusal) ∙ c.if-refusal-ne0.false) (omega (arith, c.if-table-commodities.false, size_is c.requires)))
