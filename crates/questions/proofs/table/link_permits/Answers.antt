-- `link_permits` meets its contract: the link may carry the flow of each commodity before k.
use Prim.Native.Nat.{◌+◌, ◌*◌, ◌<◌}
use mathlib.Core.Path.{◌≡◌, refl, sym, ◌∙◌}
use native.Mathlib.Omega.{arith}
use borrow.Author.Rules.{rules}
use lib.Arith.{digits_lt}
use lib.ListN.{length}
use Rattle.study.proofs.Flags.{was-yes, was-no}
use Rattle.theory.specs.Finite.{all}
use Rattle.theory.specs.Study.{may_use, barred_to}
use Rattle.questions.specs.Laws.Questions.{all_more, all-failed, all_held}
use Rattle.questions.specs.Laws.Rows.{carry_test, permits-all}
use Rattle.questions.proofs.table.link_permits.Goals as goal
use Rattle.questions.proofs.table.link_permits.Goals.{After-may_carry, In-loop-k}

pub loop-k-init : goal.loop-k-init
unfolding all
loop-k-init c = (search rules, refl)

-- The entry of commodity k stands in the table.
place :
    (c : In-loop-k) →
    let x = c.args in
    c.loop-k.k * length x.links.now + x.l < length x.table.now
place c =
    omega (arith, digits_lt c.loop-k-test.true c.requires.0, c.requires.1)

pub overflow_mul-k : goal.overflow_mul-k
overflow_mul-k c = omega (arith, place (goal.at.overflow_mul-k c).In-loop-k)

pub overflow_add-k : goal.overflow_add-k
overflow_add-k c = omega (arith, place (goal.at.overflow_add-k c).In-loop-k)

pub offset_bounds-table-k : goal.offset_bounds-table-k
offset_bounds-table-k c = omega (arith, place (goal.at.offset_bounds-table-k c).In-loop-k)

pub bounds-table-k : goal.bounds-table-k
bounds-table-k c = place (goal.at.bounds-table-k c).In-loop-k

-- The test of commodity k.
tested :
    (c : After-may_carry) →
    let x = c.args in
    c.may_carry.result ≡ carry_test x.links.now x.commodities.now x.table.now x.l c.loop-k.k
unfolding carry_test may_use barred_to
tested c = c.may_carry.ensures

pub returns-then-not-may_carry : goal.returns-then-not-may_carry
returns-then-not-may_carry c = all-failed _ _ _ (search rules) (was-no (tested (goal.at.returns-then-not-may_carry c).After-may_carry) c.if-not-may_carry.true) ∙ sym (permits-all _ _ _ _)

pub loop-k-preserved : goal.loop-k-preserved
loop-k-preserved c = (search rules, all_more _ _ c.loop-k.invariant.1 (was-yes (tested (goal.at.loop-k-preserved c).After-may_carry) c.if-not-may_carry.false))

pub returns : goal.returns
returns c =
    all_held _ _ c.loop-k.invariant.0 c.loop-k-test.false c.loop-k.invariant.1 ∙ sym (permits-all _ _ _ _)
