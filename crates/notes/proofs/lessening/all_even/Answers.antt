-- `all_even` meets its contract. The invariant: the odd ones of the first `i` numbers are counted. The measure is what is left of the numbers.
use mathlib.Core.Path.{◌≡◌, refl, ◌∙◌, ap}
use native.Mathlib.Omega.{arith}
use borrow.Author.Rules.{rules}
use lib.Dec.{eqb}
use Rattle.theory.specs.Finite.{sum}
use Rattle.notes.specs.Laws.Lessened.{sum-next, sum-none, odds-most}
use Rattle.notes.proofs.lessening.all_even.Goals as goal

pub loop-i-init : goal.loop-i-init
unfolding sum
loop-i-init c = (search rules, refl)

pub overflow_add-odd : goal.overflow_add-odd
overflow_add-odd c = omega (arith, odds-most c.args.table.now c.loop-i.i)

pub loop-i-preserved : goal.loop-i-preserved
loop-i-preserved c = (search rules, sum-next _ _ c.loop-i.invariant.1 refl)

pub returns : goal.returns
returns c =
    let all : c.loop-i.i ≡ c.args.size = omega arith in
    ap (λ odd. eqb odd 0) (rw all at c.loop-i.invariant.1) ∙ sum-none _ _
