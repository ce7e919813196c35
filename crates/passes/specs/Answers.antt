-- What a pass answers, from what the judging of a table gives.
use Rattle.std.specs.Prelude.{Bool, true, false}
use Rattle.calls.specs.declared.Outcome.{Outcome}
use Rattle.calls.specs.declared.Outcome.TheVariants as outcome

-- Its outcome, by whether it moved the table.
abbrev pub outcome_of : Bool → Outcome
outcome_of true = outcome.Moved
outcome_of false = outcome.Finest
