-- `questions::reach::reach` meets its contract: what is reached so far, and the rows that were filled on the way.
use Rattle.theory.specs.Laws.Marks.{lacking}
use Rattle.questions.specs.Reach.{Grown, Rows, Reaching}
use Rattle.questions.proofs.reach.reach.Given as goal

abbrev pub invariant-loop-tails : goal.invariant-loop-tails
invariant-loop-tails l = Grown l.initial.rows l.rows × Rows l.nodes l.whole l.rows × Reaching l.initial.rows l.s l.tails l.reached

abbrev pub decreases-loop-tails : goal.decreases-loop-tails
decreases-loop-tails l = lacking l.reached
