-- `study::questions::counts_fit` meets its contract: the code's four tests are the definition's.
use Rattle.std.proofs.Common.{arith}
use Rattle.std.proofs.lemmas.Grind.{common_steps}
use Rattle.study.specs.Questions.{counts_fit}
use Rattle.study.proofs.questions.counts_fit.Goals as goal

pub returns-then-destinations : goal.returns-then-destinations
unfolding counts_fit
returns-then-destinations c = grind (arith, common_steps)

pub returns-else-destinations : goal.returns-else-destinations
unfolding counts_fit
returns-else-destinations c = grind (arith, common_steps)
