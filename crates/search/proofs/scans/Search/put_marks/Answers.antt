-- `scans::Search::put_marks` meets its contract. The search sets out with all marks unreached, and with no node scanned.
use Rattle.std.proofs.Common.{◌≡◌, arith}
use Rattle.search.specs.Lanes.{all_rows_unreached}
use Rattle.theory.specs.Laws.Cases.{true-false}
use Rattle.search.specs.Laws.Lanes.{set-none, set_more, set_all, enter-all, above_at, sweep-scans, sweep-skips, sweep-found}
use Rattle.search.proofs.scans.Search.put_marks.Goals as goal
use Rattle.search.proofs.scans.Search.put_marks.Goals.{then-has_fallen, else-has_fallen}

pub loop-k-init : goal.loop-k-init
unfolding all_rows_unreached
loop-k-init c = set-none c.args.self.searchable

pub loop-k-preserved : goal.loop-k-preserved
loop-k-preserved c = set_more c.args.self.searchable c.loop-k-test.true c.node_of.ensures c.loop-k.invariant

pub enter-requires : goal.enter-requires
enter-requires c =
    let all : c.loop-k.k ≡ 8 = omega arith in set_all c.args.self.searchable (rw all at c.loop-k.invariant)

pub loop-j-init : goal.loop-j-init
unfolding all_rows_unreached
loop-j-init c = enter-all c.args.self.searchable c.enter.ensures

pub returns : goal.returns
returns c =
    let all : c.loop-j-2.j ≡ c.args.self.nodes = omega arith in
    sweep-found c.args.self.searchable (rw (all, c.if-not-fallen.true) at c.loop-j-2.invariant)

-- A node that the sweep is at is one of 128.
pub has_fallen-requires : goal.has_fallen-requires
has_fallen-requires c =
    let g = c.args.self.searchable in
    above_at g c.loop-j-2.invariant.scans (omega (arith, c.loop-j-2-test.true, (g.each 0 (omega arith)).roads.few-nodes))

pub loop-j-2-preserved : goal.loop-j-2-preserved
loop-j-2-preserved c =
    let g = c.args.self.searchable in
    let w = c.loop-j-2.invariant in
    elim c.if-has_fallen.branch [
      | then-has_fallen u ↦ rw (u.marks-is, u.scanned-is, u.fallen-is) (sweep-scans g w u.scan_node.ensures)
      | else-has_fallen u ↦
          rw (u.marks-is, u.scanned-is, u.fallen-is)
          (sweep-skips g w (omega (arith, c.loop-j-2-test.true, (g.each 0 (omega arith)).roads.few-nodes))
          (λ some. true-false (c.has_fallen.ensures.1 some) u.if-has_fallen.false))
    ]

pub has_fallen-requires-in-loop-j-3 : goal.has_fallen-requires-in-loop-j-3
has_fallen-requires-in-loop-j-3 c =
    let g = c.args.self.searchable in
    above_at g c.loop-j-3.invariant.0 (omega (arith, c.loop-j-3-test.true, c.loop-j-3.auto.j, (g.each 0 (omega arith)).roads.few-nodes))
