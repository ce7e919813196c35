-- `refusals::note_refusal` meets its contract: where the note is too short, the questions of a start, and then 12; otherwise the audit's.
use native.Mathlib.Nat.{mul-le-mul}
use native.Mathlib.Omega.{arith}
use mathlib.Core.Path.{sym, ◌∙◌}
use Rattle.refusals.specs.Laws.Parts.{parts-sized, note-short, note-long}
use Rattle.refusals.specs.Laws.Numbers.{pass-long, pass-short, pass-started}
use Rattle.refusals.proofs.numbers.note_refusal.Goals as goal

pub overflow_mul-commodities : goal.overflow_mul-commodities
overflow_mul-commodities c =
    let few = parts-sized c.requires.0 in
    omega (arith, mul-le-mul few.few-commodities few.few-nodes)

pub returns-then-refusal-ne0 : goal.returns-then-refusal-ne0
returns-then-refusal-ne0 c =
    let number = c.start_refusal-refusal.ensures in
    let short = note-short c.requires.0 c.args.note.now c.if-note-commodities.true in
    record { value = number ∙ sym (pass-started _ _ _ _ short (λ e. c.if-refusal-ne0.true (number ∙ e))); totals_after = λ e. absurd (c.if-refusal-ne0.true e) }

pub returns-then-note-commodities : goal.returns-then-note-commodities
returns-then-note-commodities c =
    let number = c.start_refusal-refusal.ensures in
    let short = note-short c.requires.0 c.args.note.now c.if-note-commodities.true in
    record { value = sym (pass-short _ _ _ _ short (sym number ∙ c.if-refusal-ne0.false)); totals_after = λ e. absurd (omega arith) }

pub returns : goal.returns
returns c =
    let long = note-long c.requires.0 c.args.note.now c.if-note-commodities.false in
    record { value = c.totals_refusal.ensures.value ∙ sym (pass-long _ _ _ _ long); totals_after = c.totals_refusal.ensures.totals_after }
