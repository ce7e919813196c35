-- `refusals::run_refusal` meets its contract: the questions of a start, and then the budget's.
use mathlib.Core.Path.{◌≡◌, sym, ◌∙◌}
use mathlib.Core.Bool.{cond}
use Rattle.calls.specs.Calls.{run_number}
use Rattle.refusals.specs.Laws.Numbers.{run-started, run-budget}
use Rattle.refusals.proofs.numbers.run_refusal.Goals as goal
use Rattle.refusals.proofs.numbers.run_refusal.Goals.{After-budget_fits}

pub returns-then-refusal-ne0 : goal.returns-then-refusal-ne0
returns-then-refusal-ne0 c =
    let number = c.start_refusal-refusal.ensures in
    number ∙ sym (run-started _ _ _ (λ e. c.if-refusal-ne0.true (number ∙ e)))

-- Question 13 decides, and the code turns on its answer.
asked : (c : After-budget_fits) → run_number c.args.file.now c.args.table.now c.args.budget ≡ cond c.budget_fits.result 0 13
asked c = rw c.budget_fits.ensures (run-budget _ _ _ (sym c.start_refusal-refusal.ensures ∙ c.if-refusal-ne0.false))

pub returns-then-not-budget_fits : goal.returns-then-not-budget_fits
returns-then-not-budget_fits c = sym (asked (goal.at.returns-then-not-budget_fits c).After-budget_fits ∙ rw (c.if-not-budget_fits.true))

pub returns : goal.returns
returns c = sym (asked (goal.at.returns c).After-budget_fits ∙ rw (c.if-not-budget_fits.false))
