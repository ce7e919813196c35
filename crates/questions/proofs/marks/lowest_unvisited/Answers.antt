-- `questions::marks::lowest_unvisited` meets its contract.
use Rattle.theory.specs.Laws.Marks.{lowest-low, lowest-high}
use Rattle.questions.proofs.marks.lowest_unvisited.Goals as goal

pub returns-then-low-lt64 : goal.returns-then-low-lt64
returns-then-low-lt64 c = lowest-low _ _ _ c.lowest_bit-low.ensures.0 c.if-low-lt64.true

pub returns : goal.returns
returns c = lowest-high _ _ _ _ c.lowest_bit-low.ensures.0 c.if-low-lt64.false c.lowest_bit.ensures.0
