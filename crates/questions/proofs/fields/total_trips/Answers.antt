-- `questions::total_trips` meets its contract: the total of the entries before i.
use borrow.Author.Rules.{rules}
use lib.ListN.{length, get_or}
use mathlib.Core.Path.{◌≡◌, refl, ◌∙◌}
use native.Mathlib.Omega.{arith}
use Rattle.theory.specs.Finite.{sum}
use Rattle.theory.specs.Laws.Finite.{sum-suc}
use Rattle.questions.proofs.fields.total_trips.Goals as goal

pub loop-i-init : goal.loop-i-init
unfolding sum
loop-i-init c = (search rules, refl, search rules)

pub overflow_add-total : goal.overflow_add-total
overflow_add-total c = omega arith

pub overflow_add-i : goal.overflow_add-i
overflow_add-i c = omega arith

pub loop-i-preserved : goal.loop-i-preserved
loop-i-preserved c =
    let i = c.loop-i.i in
    let more = sum-suc i (λ e. get_or c.args.trips.now e 0) in
    (search rules, omega arith, omega arith)

pub overflow_cast-result : goal.overflow_cast-result
overflow_cast-result c = omega arith

pub returns : goal.returns
returns c =
    let last : length c.args.trips.now ≡ c.loop-i.i = omega arith in
    c.loop-i.invariant.1 ∙ rw last
