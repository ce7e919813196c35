-- `move_totals` meets its contract. The invariant of each loop: the first `l` totals are moved. The measure is what is left of the links.
use mathlib.Core.Path.{◌≡◌, refl}
use native.Mathlib.Omega.{arith}
use borrow.Author.Rules.{rules}
use Rattle.moves.specs.Laws.Totals.{moved_none, total-fits, load_fits, moved-adds, moved-doubles}
use Rattle.moves.proofs.moves.move_totals.Goals as goal

pub loop-l-init : goal.loop-l-init
loop-l-init c = (search rules, moved_none c.requires)

pub overflow_mul-flows : goal.overflow_mul-flows
overflow_mul-flows c = omega (arith, load_fits c.requires c.loop-l-test.true c.loop-l.invariant.1)

pub overflow_add-flows : goal.overflow_add-flows
overflow_add-flows c = let given = c.requires in
    omega (
      arith,
      total-fits given c.loop-l-test.true c.loop-l.invariant.1,
      load_fits given c.loop-l-test.true c.loop-l.invariant.1,
    )

pub loop-l-preserved : goal.loop-l-preserved
loop-l-preserved c = (search rules, moved-adds c.requires c.loop-l-test.true c.loop-l.invariant.1 c.if-j-gt0.true refl)

pub returns-then-j-gt0 : goal.returns-then-j-gt0
returns-then-j-gt0 c = let all : c.loop-l.l ≡ c.args.m = omega arith in
    rw all at c.loop-l.invariant.1

pub loop-l-2-init : goal.loop-l-2-init
loop-l-2-init c = (search rules, moved_none c.requires)

pub overflow_mul-flows-in-loop-l-2 : goal.overflow_mul-flows-in-loop-l-2
overflow_mul-flows-in-loop-l-2 c = omega (arith, total-fits c.requires c.loop-l-2-test.true c.loop-l-2.invariant.1)

pub loop-l-2-preserved : goal.loop-l-2-preserved
loop-l-2-preserved c = (search rules, moved-doubles c.requires c.loop-l-2-test.true c.loop-l-2.invariant.1 c.if-j-gt0.false refl)

pub returns : goal.returns
returns c = let all : c.loop-l-2.l ≡ c.args.m = omega arith in
    rw all at c.loop-l-2.invariant.1
