-- `add_loadings` meets its contract. The invariant: the rows before `k` have their loading. The measure is what is left of the rows.
use Prim.Native.Nat.{◌+◌, ◌*◌, ◌≤◌, ◌<◌}
use mathlib.Core.Path.{◌≡◌}
use native.Mathlib.Omega.{arith}
use borrow.Author.Rules.{rules}
use lib.ListN.{length}
use Rattle.moves.specs.Laws.Loading.{rows_none, rows-length, rows-within, row-scatterable, rows_more}
use Rattle.theory.specs.Laws.Parts.{row-most}
use Rattle.moves.proofs.loads.add_loadings.Goals as goal
use Rattle.moves.proofs.loads.add_loadings.Goals.{In-loop-k}

pub loop-k-init : goal.loop-k-init
loop-k-init c = (search rules, rows_none _ _ _ _)

-- The row of a turn is within the table, and small.
within :
    (c : In-loop-k) →
    let x = c.args in
    let k = c.loop-k.k in
    (k * x.m + x.m ≤ length c.loop-k.table) × (k * x.m + x.m ≤ 32768)
within c =
    let given = c.requires in
    let inside = c.loop-k-test.true in
    (rows-within given inside c.loop-k.invariant.1, row-most 64 512 inside given.few-commodities given.few-links)

few : (c : In-loop-k) → c.loop-k.k < 64
few c = omega (arith, c.requires.few-commodities, c.loop-k-test.true)

pub overflow_mul-start : goal.overflow_mul-start
overflow_mul-start c = omega (arith, within (goal.at.overflow_mul-start c).In-loop-k)

pub overflow_add-end : goal.overflow_add-end
overflow_add-end c = omega (arith, within (goal.at.overflow_add-end c).In-loop-k)

pub offset_bounds-table-start : goal.offset_bounds-table-start
offset_bounds-table-start c = omega (arith, within (goal.at.offset_bounds-table-start c).In-loop-k)

pub slice_bounds-add_volumes-start : goal.slice_bounds-add_volumes-start
slice_bounds-add_volumes-start c = omega (arith, within (goal.at.slice_bounds-add_volumes-start c).In-loop-k)

pub slice_bounds-add_volumes-end : goal.slice_bounds-add_volumes-end
slice_bounds-add_volumes-end c = omega (arith, within (goal.at.slice_bounds-add_volumes-end c).In-loop-k)

pub offset_bounds-next-k : goal.offset_bounds-next-k
offset_bounds-next-k c = omega (arith, few (goal.at.offset_bounds-next-k c).In-loop-k)

pub bounds-next-k : goal.bounds-next-k
bounds-next-k c =
    omega (arith, c.requires.has-rows.0, c.loop-k-test.true)

pub offset_bounds-volumes-k : goal.offset_bounds-volumes-k
offset_bounds-volumes-k c = omega (arith, few (goal.at.offset_bounds-volumes-k c).In-loop-k)

pub bounds-volumes-k : goal.bounds-volumes-k
bounds-volumes-k c =
    omega (arith, c.requires.has-rows.1, c.loop-k-test.true)

pub add_volumes-requires : goal.add_volumes-requires
add_volumes-requires c =
    row-scatterable c.requires c.loop-k-test.true c.loop-k.invariant.1

pub loop-k-preserved : goal.loop-k-preserved
loop-k-preserved c =
    let given = c.requires in
    (search rules, rows_more given c.loop-k-test.true c.loop-k.invariant.1 c.add_volumes.ensures)

pub shape_of-table : goal.shape_of-table
shape_of-table c = rows-length c.requires c.loop-k.invariant.0 c.loop-k.invariant.1

pub returns : goal.returns
returns c =
    let all : c.loop-k.k ≡ c.args.p = omega arith in
    rw all at c.loop-k.invariant.1
