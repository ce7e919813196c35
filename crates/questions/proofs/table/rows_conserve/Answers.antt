-- `rows_conserve` meets its contract. The invariant: the rows before `k` balance, and the sums are 0 past the nodes. The measure is what is
-- left of the rows.
use Prim.Native.Nat.{◌+◌, ◌*◌, ◌≤◌}
use mathlib.Core.Path.{sym, ◌∙◌}
use native.Mathlib.Omega.{arith}
use borrow.Author.Rules.{rules}
use lib.ListN.{length}
use Rattle.questions.specs.Laws.Rows.{rows_none, rows_pass, rows-fail, rows_all}
use Rattle.travel.specs.Laws.Padded.{zeros-past}
use Rattle.theory.specs.Laws.Parts.{row_within, row-most, length_part}
use Rattle.questions.proofs.table.rows_conserve.Goals as goal
use Rattle.questions.proofs.table.rows_conserve.Goals.{In-loop-k}

pub loop-k-init : goal.loop-k-init
loop-k-init c = (search rules, rows_none _ _ _ _ _ _, (zeros-past 128 _, zeros-past 128 _))

-- The part of the trips and the row of a turn are within the whole, and few.
within :
    (c : In-loop-k) →
    let x = c.args in
    let k = c.loop-k.k in
    let m = length x.links.now in
    (k * x.nodes + x.nodes ≤ length x.trips.now) × (k * x.nodes + x.nodes ≤ 8192)
    × (k * m + m ≤ length x.table.now) × (k * m + m ≤ 32768)
within c =
    let x = c.args in
    let given = c.requires.0 in
    let inside = c.loop-k-test.true in (
      omega (arith, row_within x.nodes inside, given.has-trips),
      row-most 64 128 inside given.few-commodities given.few-nodes,
      omega (arith, row_within (length x.links.now) inside, given.holds),
      row-most 64 512 inside given.few-commodities given.few-links,
    )

pub overflow_mul-start : goal.overflow_mul-start
overflow_mul-start c = omega (arith, within (goal.at.overflow_mul-start c).In-loop-k)

pub overflow_add-end : goal.overflow_add-end
overflow_add-end c = omega (arith, within (goal.at.overflow_add-end c).In-loop-k)

pub overflow_mul-first : goal.overflow_mul-first
overflow_mul-first c = omega (arith, within (goal.at.overflow_mul-first c).In-loop-k)

pub overflow_add-past : goal.overflow_add-past
overflow_add-past c = omega (arith, within (goal.at.overflow_add-past c).In-loop-k)

pub offset_bounds-trips-first : goal.offset_bounds-trips-first
offset_bounds-trips-first c = omega (arith, within (goal.at.offset_bounds-trips-first c).In-loop-k)

pub slice_bounds-row_balances-end : goal.slice_bounds-row_balances-end
slice_bounds-row_balances-end c = omega (arith, within (goal.at.slice_bounds-row_balances-end c).In-loop-k)

pub offset_bounds-table-start : goal.offset_bounds-table-start
offset_bounds-table-start c = omega (arith, within (goal.at.offset_bounds-table-start c).In-loop-k)

pub slice_bounds-row_balances-end-in-loop-k : goal.slice_bounds-row_balances-end-in-loop-k
slice_bounds-row_balances-end-in-loop-k c = omega (arith, within (goal.at.slice_bounds-row_balances-end-in-loop-k c).In-loop-k)

pub row_balances-requires : goal.row_balances-requires
row_balances-requires c = let x = c.args in
    let given = c.requires.0 in
    let k = c.loop-k.k in record {
      row_fits = (
        record {
          few-nodes = given.few-nodes;
          few-links = given.few-links;
          tail-node = given.tail-node;
          head-node = given.head-node;
          trips-long = length_part x.trips.now (k * x.nodes) x.nodes (within (goal.at.row_balances-requires c).In-loop-k).0;
          row-long = length_part x.table.now (k * length x.links.now) (length x.links.now) (within (goal.at.row_balances-requires c).In-loop-k).2;
        },
        search rules,
      );
      clear_past = c.loop-k.invariant.2;
    }

pub returns-then-not-row_balances : goal.returns-then-not-row_balances
returns-then-not-row_balances c = sym
    (rows-fail _ _ _ _ _ _ c.loop-k.k _ c.node_of-s.ensures c.loop-k-test.true
    (sym c.row_balances.ensures.value ∙ c.if-not-row_balances.true))

pub loop-k-preserved : goal.loop-k-preserved
loop-k-preserved c = (
  search rules,
  rows_pass _ _ _ _ _ _ c.loop-k.k _ c.node_of-s.ensures c.loop-k.invariant.1
      (sym c.row_balances.ensures.value ∙ c.if-not-row_balances.false),
  c.row_balances.ensures.clear_past_2,
)

pub returns : goal.returns
returns c = sym (rows_all _ _ _ _ _ _ c.loop-k.k (omega arith) c.loop-k.invariant.1)
