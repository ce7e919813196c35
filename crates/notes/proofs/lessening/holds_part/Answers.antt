-- `holds_part` meets its contract. The invariant: the rows before `k` hold their part of the loading. The measure is what is left of the rows.
use Prim.Native.Nat.{◌+◌, ◌*◌, ◌≤◌}
use mathlib.Core.Path.{◌≡◌, refl}
use native.Mathlib.Omega.{arith}
use borrow.Author.Rules.{rules}
use lib.ListN.{length}
use Rattle.theory.specs.Finite.{all}
use Rattle.notes.specs.Laws.Lessened.{all_hold, table-within, row-long, small-end, row-scatterable, idle-holds, one-more-holds, one-fails}
use Rattle.notes.proofs.lessening.holds_part.Goals as goal
use Rattle.notes.proofs.lessening.holds_part.Goals.{After-put_part, then-any_trips+else-count_less-ne0, else-any_trips}

pub loop-k-init : goal.loop-k-init
unfolding all
loop-k-init c = (search rules, refl)

-- Its row is within the table, and small.
within :
    (c : After-put_part) →
    let x = c.args in
    let k = c.loop-k.k in
    (k * x.m + x.m ≤ length x.table.now) × (k * x.m + x.m ≤ 32768)
within c =
    let given = c.requires in
    let inside = c.loop-k-test.true in
    (table-within given inside, small-end given inside)

pub put_part-requires : goal.put_part-requires
put_part-requires c = row-scatterable c.requires c.loop-k-test.true

pub overflow_mul-start : goal.overflow_mul-start
overflow_mul-start c = omega (arith, within (goal.at.overflow_mul-start c).After-put_part)

pub overflow_add-end : goal.overflow_add-end
overflow_add-end c = omega (arith, within (goal.at.overflow_add-end c).After-put_part)

pub offset_bounds-table-start : goal.offset_bounds-table-start
offset_bounds-table-start c = omega (arith, within (goal.at.offset_bounds-table-start c).After-put_part)

pub slice_bounds-count_less-start : goal.slice_bounds-count_less-start
slice_bounds-count_less-start c = omega (arith, within (goal.at.slice_bounds-count_less-start c).After-put_part)

pub slice_bounds-count_less-end : goal.slice_bounds-count_less-end
slice_bounds-count_less-end c = omega (arith, within (goal.at.slice_bounds-count_less-end c).After-put_part)

pub count_less-requires : goal.count_less-requires
count_less-requires c =
    let given = c.requires in
    (given.few-links, row-long given c.loop-k-test.true)

pub returns-then-count_less-ne0 : goal.returns-then-count_less-ne0
returns-then-count_less-ne0 c =
    one-fails c.requires c.loop-k-test.true c.put_part.ensures c.count_less.ensures c.if-count_less-ne0.true

pub loop-k-preserved : goal.loop-k-preserved
loop-k-preserved c =
    let given = c.requires in
    let inside = c.loop-k-test.true in
    let before = c.loop-k.invariant.1 in (
      search rules,
      elim c.if-any_trips.branch [
        | then-any_trips+else-count_less-ne0 w ↦ one-more-holds given inside w.put_part.ensures w.count_less.ensures before w.if-count_less-ne0.false
        | else-any_trips w ↦
            -- Where no trips leave any node of the commodity, its volumes are 0.
            idle-holds given inside (λ i h. c.any_trips.ensures w.if-any_trips.false i (omega arith)) before
      ],
    )

pub returns : goal.returns
returns c =
    let all-rows : c.loop-k.k ≡ c.args.p = omega arith in
    all_hold c.requires (rw all-rows at c.loop-k.invariant.1)
