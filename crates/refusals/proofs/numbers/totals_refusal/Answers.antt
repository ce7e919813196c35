-- `refusals::totals_refusal` meets its contract: the questions of a start, and then the judging's of the table and the share.
use native.Mathlib.Nat.{mul-le-mul}
use native.Mathlib.Omega.{arith}
use mathlib.Core.Path.{◌≡◌, sym, ◌∙◌}
use Rattle.calls.specs.Calls.{start_number}
use Rattle.questions.specs.Laws.Questions.{total_of}
use Rattle.refusals.specs.Laws.Parts.{parts-sized}
use Rattle.refusals.specs.Laws.Numbers.{table-started}
use Rattle.refusals.specs.Laws.Ready.{start-ready, table-asks, table-numbered}
use Rattle.refusals.proofs.numbers.totals_refusal.Goals as goal
use Rattle.refusals.proofs.numbers.totals_refusal.Goals.{Else-refusal-ne0}

pub returns-then-refusal-ne0 : goal.returns-then-refusal-ne0
returns-then-refusal-ne0 c =
    let number = c.start_refusal-refusal.ensures in
    record { value = number ∙ sym (table-started _ _ _ (λ e. c.if-refusal-ne0.true (number ∙ e))); totals_after = λ e. absurd (c.if-refusal-ne0.true e) }

started : (c : Else-refusal-ne0) → start_number c.args.file.now c.args.table.now ≡ 0
started c = sym c.start_refusal-refusal.ensures ∙ c.if-refusal-ne0.false

pub total_trips-total-requires : goal.total_trips-total-requires
total_trips-total-requires c =
    let few = parts-sized c.requires.0 in
    omega (arith, few.entries-long, mul-le-mul few.few-commodities few.few-nodes)

pub table_refusal-requires : goal.table_refusal-requires
table_refusal-requires c =
    let parts = c.requires.0 in
    let total = c.total_trips-total.ensures ∙ total_of (parts-sized parts) in
    record { table_fits = table-asks _ _ parts (started (goal.at.table_refusal-requires c).Else-refusal-ne0); total_value = (total, omega (arith, total, (start-ready _ _ parts (started (goal.at.table_refusal-requires c).Else-refusal-ne0)).few-trips), c.requires.1) }

pub returns : goal.returns
returns c =
    record { value = c.table_refusal.ensures.value ∙ table-numbered _ _ c.requires.0 _ (started (goal.at.returns c).Else-refusal-ne0); totals_after = c.table_refusal.ensures.totals_after }
