-- `questions::marks::is_marked` meets its contract.
use mathlib.Core.Path.{sym, ◌∙◌}
use Rattle.theory.specs.Laws.Bits.{read-bit}
use Rattle.theory.specs.Laws.Marks.{marked-low, marked-high}
use Rattle.questions.proofs.marks.is_marked.Goals as goal

pub returns-then-j-lt64 : goal.returns-then-j-lt64
returns-then-j-lt64 c = read-bit _ _ ∙ sym (marked-low _ _ c.if-j-lt64.true)

pub returns-else-j-lt64 : goal.returns-else-j-lt64
returns-else-j-lt64 c = read-bit _ _ ∙ sym (marked-high _ _ c.if-j-lt64.false)
