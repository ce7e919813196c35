-- `lessen_row` meets its contract. The invariant: the first `l` numbers are lessened. The measure is what is left of the numbers.
use mathlib.Core.Path.{◌≡◌}
use native.Mathlib.Omega.{arith}
use borrow.Author.Rules.{rules}
use lib.ListN.{length, get_or}
use Rattle.moves.specs.Laws.Front.{front-none, front-more}
use Rattle.notes.specs.Laws.Lessened.{so-far-long, next-own}
use Rattle.notes.proofs.lessening.lessen_row.Goals as goal
use Rattle.notes.proofs.lessening.lessen_row.Goals.{At-loop-l}

pub loop-l-init : goal.loop-l-init
loop-l-init c = (search rules, front-none _ _)

-- The row is as long as it was, and holds its own number at `l` still.
long : (c : At-loop-l) → length c.loop-l.row ≡ length c.args.row.now
long c = so-far-long _ _ _ c.loop-l.invariant.1 (search rules)

own : (c : At-loop-l) → get_or c.loop-l.row c.loop-l.l 0 ≡ get_or c.args.row.now c.loop-l.l 0
own c = next-own _ _ _ c.loop-l.invariant.1

pub bounds-row-l : goal.bounds-row-l
bounds-row-l c = omega (arith, long (goal.at.bounds-row-l c).At-loop-l)

pub overflow_sub-row : goal.overflow_sub-row
overflow_sub-row c = omega (arith, own (goal.at.overflow_sub-row c).At-loop-l, c.requires.2 c.loop-l.l (search rules))

pub bounds-row-l-in-loop-l : goal.bounds-row-l-in-loop-l
bounds-row-l-in-loop-l c = omega (arith, long (goal.at.bounds-row-l-in-loop-l c).At-loop-l)

pub loop-l-preserved : goal.loop-l-preserved
loop-l-preserved c =
    (search rules, front-more _ _ _ _ _ (search rules) c.loop-l.invariant.1 (rw (own (goal.at.loop-l-preserved c).At-loop-l)))

pub shape_of-row : goal.shape_of-row
shape_of-row c = long (goal.at.shape_of-row c).At-loop-l

pub returns : goal.returns
returns c = let all : c.loop-l.l ≡ c.args.m = omega arith in rw all at c.loop-l.invariant.1
