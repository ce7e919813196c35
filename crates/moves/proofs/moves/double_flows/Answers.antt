-- `double_flows` meets its contract. The invariant: the first `i` numbers are doubled. The measure is what is left of the numbers.
use Prim.Native.Nat.{◌*◌}
use mathlib.Core.Path.{◌≡◌, ◌∙◌, ap}
use native.Mathlib.Omega.{arith}
use borrow.Author.Rules.{rules}
use lib.ListN.{length, get_or}
use Rattle.moves.specs.Laws.Front.{front-none, front-more, front-past, length_front}
use Rattle.moves.proofs.moves.double_flows.Goals as goal
use Rattle.moves.proofs.moves.double_flows.Goals.{At-loop-i}

pub loop-i-init : goal.loop-i-init
loop-i-init c = (search rules, front-none _ _)

-- The table is as long as it was, and holds its own number at `i` still.
long : (c : At-loop-i) → length c.loop-i.table ≡ length c.args.table.now
long c = ap length c.loop-i.invariant.1 ∙ length_front c.loop-i.i _ _ (search rules)

entry : (c : At-loop-i) → get_or c.loop-i.table c.loop-i.i 0 ≡ get_or c.args.table.now c.loop-i.i 0
entry c = ap (λ xs. get_or xs c.loop-i.i 0) c.loop-i.invariant.1 ∙ front-past c.loop-i.i _ _ c.loop-i.i (search rules)

pub offset_bounds-table-i : goal.offset_bounds-table-i
offset_bounds-table-i c = omega (arith, long (goal.at.offset_bounds-table-i c).At-loop-i)

pub bounds-table-i : goal.bounds-table-i
bounds-table-i c = omega (arith, long (goal.at.bounds-table-i c).At-loop-i)

pub overflow_mul-table : goal.overflow_mul-table
overflow_mul-table c = let i = c.loop-i.i in
    omega (arith, entry (goal.at.overflow_mul-table c).At-loop-i, c.requires.1 i (search rules))

pub offset_bounds-table-i-in-loop-i : goal.offset_bounds-table-i-in-loop-i
offset_bounds-table-i-in-loop-i c = omega (arith, long (goal.at.offset_bounds-table-i-in-loop-i c).At-loop-i)

pub bounds-table-i-in-loop-i : goal.bounds-table-i-in-loop-i
bounds-table-i-in-loop-i c = omega (arith, long (goal.at.bounds-table-i-in-loop-i c).At-loop-i)

pub loop-i-preserved : goal.loop-i-preserved
loop-i-preserved c = (search rules, front-more _ _ _ _ _ (search rules) c.loop-i.invariant.1 (ap (λ x. 2 * x) (entry (goal.at.loop-i-preserved c).At-loop-i)))

pub shape_of-table : goal.shape_of-table
shape_of-table c = long (goal.at.shape_of-table c).At-loop-i

pub returns : goal.returns
returns c = let all : c.loop-i.i ≡ c.args.size = omega arith in rw all at c.loop-i.invariant.1
