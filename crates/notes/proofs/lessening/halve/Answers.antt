-- `halve` meets its contract. The invariant: the first `i` numbers are halved. The measure is what is left of the numbers.
use Prim.Native.Nat.{◌/◌}
use mathlib.Core.Path.{◌≡◌, ap}
use native.Mathlib.Omega.{arith}
use borrow.Author.Rules.{rules}
use lib.ListN.{length}
use Rattle.moves.specs.Laws.Front.{front-none, front-more}
use Rattle.notes.specs.Laws.Lessened.{so-far-long, next-own}
use Rattle.notes.proofs.lessening.halve.Goals as goal
use Rattle.notes.proofs.lessening.halve.Goals.{At-loop-i}

pub loop-i-init : goal.loop-i-init
loop-i-init c = (search rules, front-none _ _)

-- The table is as long as it was.
long : (c : At-loop-i) → length c.loop-i.table ≡ length c.args.table.now
long c = so-far-long _ _ _ c.loop-i.invariant.1 (search rules)

pub offset_bounds-table-i : goal.offset_bounds-table-i
offset_bounds-table-i c = omega (arith, long (goal.at.offset_bounds-table-i c).At-loop-i)

pub bounds-table-i : goal.bounds-table-i
bounds-table-i c = omega (arith, long (goal.at.bounds-table-i c).At-loop-i)

pub offset_bounds-table-i-in-loop-i : goal.offset_bounds-table-i-in-loop-i
offset_bounds-table-i-in-loop-i c = omega (arith, long (goal.at.offset_bounds-table-i-in-loop-i c).At-loop-i)

pub bounds-table-i-in-loop-i : goal.bounds-table-i-in-loop-i
bounds-table-i-in-loop-i c = omega (arith, long (goal.at.bounds-table-i-in-loop-i c).At-loop-i)

pub loop-i-preserved : goal.loop-i-preserved
loop-i-preserved c =
    (search rules, front-more _ _ _ _ _ (search rules) c.loop-i.invariant.1 (ap (λ x. x / 2) (next-own _ _ _ c.loop-i.invariant.1)))

pub shape_of-table : goal.shape_of-table
shape_of-table c = long (goal.at.shape_of-table c).At-loop-i

pub returns : goal.returns
returns c = let all : c.loop-i.i ≡ c.args.size = omega arith in rw all at c.loop-i.invariant.1
