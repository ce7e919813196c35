-- `questions::marks::both` meets its contract.
use mathlib.Core.Path.{refl}
use Rattle.theory.specs.Marks.{union}
use Rattle.questions.proofs.marks.both.Goals as goal

pub returns : goal.returns
unfolding union
returns c = refl
