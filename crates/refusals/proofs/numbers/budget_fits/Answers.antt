-- `refusals::budget_fits` meets its contract.
use borrow.Author.Tests.{le-leb, lt-leb}
use Rattle.calls.specs.Questions.{budget_fits}
use Rattle.refusals.proofs.numbers.budget_fits.Goals as goal

pub returns-then-budget-ge1 : goal.returns-then-budget-ge1
unfolding budget_fits
returns-then-budget-ge1 c = rw (le-leb _ _ c.if-budget-ge1.true)

pub returns-else-budget-ge1 : goal.returns-else-budget-ge1
unfolding budget_fits
returns-else-budget-ge1 c = rw (lt-leb _ _ c.if-budget-ge1.false)
