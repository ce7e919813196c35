-- `count_less` meets its contract. The invariant: those of the first `l` numbers that are less are counted. The measure is what is left of the
-- numbers.
use mathlib.Core.Path.{◌≡◌}
use native.Mathlib.Omega.{arith}
use borrow.Author.Rules.{rules}
use Rattle.notes.specs.Laws.Lessened.{less_none, less-next}
use Rattle.notes.proofs.lessening.count_less.Goals as goal

pub loop-l-init : goal.loop-l-init
loop-l-init c = (search rules, less_none _ _)

pub overflow_add-less : goal.overflow_add-less
overflow_add-less c = omega (arith, less-next _ _ _ c.loop-l.invariant.1 c.one_if-less.ensures)

pub loop-l-preserved : goal.loop-l-preserved
loop-l-preserved c = (search rules, (less-next _ _ _ c.loop-l.invariant.1 c.one_if-less.ensures).0)

pub returns : goal.returns
returns c = let all : c.loop-l.l ≡ c.args.m = omega arith in rw all at c.loop-l.invariant.1
