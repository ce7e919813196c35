-- The answers of accepted calls, from what the judging of a table gives.
use Rattle.std.specs.Prelude.{ℕ}
use Rattle.calls.specs.declared.Ending.{Ending}
use Rattle.calls.specs.declared.Ending.TheVariants as ending
use Rattle.calls.specs.declared.RunAnswer.{RunAnswer}
use Rattle.judging.specs.declared.Step.{Step}
use Rattle.judging.specs.declared.Step.TheVariants as step

-- How a run ends, by the step of its last turn. A step that moves ends nothing.
abbrev pub ending_of : Step → Ending
ending_of step.Reached = ending.Reached
ending_of step.Finest = ending.Finest
ending_of step.Spent = ending.Spent
ending_of step.Moved = ending.Refused

-- The answer of a run by its last turn: the step, how many tables were judged, and the share, gap, cost and links over of the last.
abbrev pub ended_answer : Step → ℕ → ℕ → ℕ → ℕ → ℕ → RunAnswer
ended_answer last judged share gap cost over =
    record {
      refusal = 0;
      ending = ending_of last;
      judged = judged;
      share = share;
      gap = gap;
      cost = cost;
      over = over;
    }
