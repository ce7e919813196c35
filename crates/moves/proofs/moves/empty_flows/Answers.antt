-- `empty_flows` meets its contract. The invariant: the first `i` numbers are 0. The measure is what is left of the numbers.
use mathlib.Core.Path.{◌≡◌, refl, ◌∙◌, ap}
use native.Mathlib.Omega.{arith}
use borrow.Author.Rules.{rules}
use lib.ListN.{length}
use Rattle.moves.specs.Laws.Front.{front-none, front-more, length_front}
use Rattle.moves.proofs.moves.empty_flows.Goals as goal
use Rattle.moves.proofs.moves.empty_flows.Goals.{At-loop-i}

pub loop-i-init : goal.loop-i-init
loop-i-init c = (search rules, front-none _ _)

-- The table is as long as it was.
long : (c : At-loop-i) → length c.loop-i.table ≡ length c.args.table.now
long c = ap length c.loop-i.invariant.1 ∙ length_front c.loop-i.i _ _ (search rules)

pub offset_bounds-table-i : goal.offset_bounds-table-i
offset_bounds-table-i c = omega (arith, long (goal.at.offset_bounds-table-i c).At-loop-i)

pub bounds-table-i : goal.bounds-table-i
bounds-table-i c = omega (arith, long (goal.at.bounds-table-i c).At-loop-i)

pub loop-i-preserved : goal.loop-i-preserved
loop-i-preserved c = (search rules, front-more _ _ _ _ _ (search rules) c.loop-i.invariant.1 refl)

pub shape_of-table : goal.shape_of-table
shape_of-table c = long (goal.at.shape_of-table c).At-loop-i

pub returns : goal.returns
returns c = let all : c.loop-i.i ≡ c.args.size = omega arith in rw all at c.loop-i.invariant.1
