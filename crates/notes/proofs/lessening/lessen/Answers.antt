-- `lessen` meets its contract. The invariant: the rows before `k` are lessened. The measure is what is left of the rows.
use Prim.Native.Nat.{◌+◌, ◌*◌, ◌≤◌}
use mathlib.Core.Path.{◌≡◌, ◌∙◌}
use native.Mathlib.Omega.{arith}
use borrow.Author.Rules.{rules}
use lib.ListN.{length}
use Rattle.notes.specs.Laws.Lessened.{none-lessened, lessened-long, small-end, now-within, length-row, row-scatterable, row-lessenable, idle-lessened, one-more-lessened}
use Rattle.notes.proofs.lessening.lessen.Goals as goal
use Rattle.notes.proofs.lessening.lessen.Goals.{After-put_part, then-any_trips, else-any_trips}

pub loop-k-init : goal.loop-k-init
loop-k-init c = (search rules, none-lessened _ _ _)

-- Its row is within the table, and small.
within :
    (c : After-put_part) →
    let m = c.args.m in
    let at = c.loop-k in
    (at.k * m + m ≤ length at.table) × (at.k * m + m ≤ 32768)
within c =
    let given = c.requires.lessenable in
    let inside = c.loop-k-test.true in
    (now-within given inside c.loop-k.invariant.1, small-end given inside)

pub put_part-requires : goal.put_part-requires
put_part-requires c = row-scatterable c.requires.lessenable c.loop-k-test.true

pub overflow_mul-start : goal.overflow_mul-start
overflow_mul-start c = omega (arith, within (goal.at.overflow_mul-start c).After-put_part)

pub overflow_add-end : goal.overflow_add-end
overflow_add-end c = omega (arith, within (goal.at.overflow_add-end c).After-put_part)

pub offset_bounds-table-start : goal.offset_bounds-table-start
offset_bounds-table-start c = omega (arith, within (goal.at.offset_bounds-table-start c).After-put_part)

pub slice_bounds-lessen_row-start : goal.slice_bounds-lessen_row-start
slice_bounds-lessen_row-start c = omega (arith, within (goal.at.slice_bounds-lessen_row-start c).After-put_part)

pub slice_bounds-lessen_row-end : goal.slice_bounds-lessen_row-end
slice_bounds-lessen_row-end c = omega (arith, within (goal.at.slice_bounds-lessen_row-end c).After-put_part)

pub lessen_row-requires : goal.lessen_row-requires
lessen_row-requires c =
    let given = c.requires in
    let inside = c.loop-k-test.true in
    let so_far = c.loop-k.invariant.1 in
    (given.lessenable.few-links, omega (arith, length-row given.lessenable inside so_far), row-lessenable given.lessenable inside c.put_part.ensures so_far given.by_index)

pub loop-k-preserved : goal.loop-k-preserved
loop-k-preserved c =
    let given = c.requires.lessenable in
    let inside = c.loop-k-test.true in
    let before = c.loop-k.invariant.1 in (
      search rules,
      elim c.if-any_trips.branch [
        | then-any_trips w ↦ w.table-is ∙ one-more-lessened given inside w.put_part.ensures before w.lessen_row.ensures
        | else-any_trips w ↦
            -- Where no trips leave any node of the commodity, its volumes are 0.
            w.table-is ∙ idle-lessened given inside (λ i h. c.any_trips.ensures w.if-any_trips.false i (omega arith)) before
      ],
    )

pub shape_of-table : goal.shape_of-table
shape_of-table c = lessened-long c.requires.lessenable c.loop-k.invariant.0 c.loop-k.invariant.1

pub returns : goal.returns
returns c =
    let all : c.loop-k.k ≡ c.args.p = omega arith in
    rw all at c.loop-k.invariant.1
