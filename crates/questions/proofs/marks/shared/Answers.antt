-- `questions::marks::shared` meets its contract.
use mathlib.Core.Path.{refl}
use Rattle.theory.specs.Marks.{common}
use Rattle.questions.proofs.marks.shared.Goals as goal

pub returns : goal.returns
unfolding common
returns c = refl
