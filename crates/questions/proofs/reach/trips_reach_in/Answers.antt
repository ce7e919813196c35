-- `questions::reach::trips_reach_in` meets its contract: the destinations of the commodities before k are reached from every node with trips to them, and rows have grown.
use Prim.Native.Nat.{◌+◌, ◌*◌, ◌<◌, ◌≤◌}
use lib.ListN.{get_or, length}
use mathlib.Core.Path.{◌≡◌, refl, sym, ◌∙◌, ap}
use native.Mathlib.Omega.{arith}
use borrow.Author.Rules.{rules}
use Rattle.study.proofs.Flags.{was-yes, was-no}
use Rattle.theory.specs.Finite.{all}
use Rattle.theory.specs.Marks.{marked}
use Rattle.theory.specs.Study.{node_of}
use Rattle.questions.specs.Laws.Questions.{ends-below, all_more, all-failed, all_held}
use Rattle.questions.specs.Laws.Reach.{rows-first, tails-below, grown-next, search-answer, reach_test, reach-all, trips-there, trips-count, marks-answer}
use Rattle.questions.specs.Laws.Reach.{grown-none}
use Rattle.questions.proofs.reach.trips_reach_in.Goals as goal
use Rattle.questions.proofs.reach.trips_reach_in.Goals.{After-trips_marked, In-loop-k}

pub mark_tails-requires : goal.mark_tails-requires
mark_tails-requires c = record { nodes_bound = (c.requires.sized.0.few-nodes, c.requires.links_value, c.requires.sized.1); room = c.requires.room }

pub loop-k-init : goal.loop-k-init
unfolding all
loop-k-init c =
    let (size, tails) = c.mark_tails.ensures in
    (search rules, refl, grown-none, rows-first (ends-below _ _ c.requires.links_value) tails c.requires.sized.0.few-nodes (omega (arith, size, c.requires.room.0.rows-open)))

-- The destination of commodity k is a node, and the trips to it are there.
here : (c : In-loop-k) → node_of (get_or c.args.commodities.now c.loop-k.k 0) < c.args.nodes
here c = c.requires.to_nodes.0 _ c.loop-k-test.true

row : (c : In-loop-k) → let x = c.args in c.loop-k.k * x.nodes + x.nodes ≤ length x.trips.now
row c = trips-there _ c.args.commodities.now c.args.trips.now _ c.loop-k-test.true c.requires.sized.0.entries-long

pub tails_into-tails-requires : goal.tails_into-tails-requires
tails_into-tails-requires c =
    (c.requires.sized.0.few-nodes, omega (arith, here (goal.at.tails_into-tails-requires c).In-loop-k, c.node_of-s.ensures), rw (c.loop-k.invariant.2.size ∙ c.mark_tails.ensures.0) c.requires.room.0)

pub reach-reached-requires : goal.reach-reached-requires
reach-reached-requires c =
    let inv = c.loop-k.invariant in
    (omega (arith, here (goal.at.reach-reached-requires c).In-loop-k, c.node_of-s.ensures), inv.3, λ j e. tails-below inv.3 _ _ j (sym (ap (λ marks. marked marks j) c.tails_into-tails.ensures) ∙ e))

pub overflow_mul-first : goal.overflow_mul-first
overflow_mul-first c = omega (arith, row (goal.at.overflow_mul-first c).In-loop-k)

pub overflow_add-first : goal.overflow_add-first
overflow_add-first c = omega (arith, row (goal.at.overflow_add-first c).In-loop-k)

pub offset_bounds-trips-first : goal.offset_bounds-trips-first
offset_bounds-trips-first c = omega (arith, row (goal.at.offset_bounds-trips-first c).In-loop-k)

pub slice_bounds-trips_marked-end : goal.slice_bounds-trips_marked-end
slice_bounds-trips_marked-end c = row (goal.at.slice_bounds-trips_marked-end c).In-loop-k

pub trips_marked-requires : goal.trips_marked-requires
trips_marked-requires c =
    let size = trips-count _ c.args.commodities.now c.args.trips.now _ c.loop-k-test.true c.requires.sized.0.entries-long in
    omega (arith, c.requires.sized.0.few-nodes)

pub shape_of-rows-then-not-trips_marked : goal.shape_of-rows-then-not-trips_marked
shape_of-rows-then-not-trips_marked c = c.reach-reached.ensures.grown.size ∙ c.loop-k.invariant.2.size ∙ c.mark_tails.ensures.0

-- The test of commodity k.
tested : (c : After-trips_marked) → let x = c.args in c.trips_marked.result ≡ reach_test x.nodes x.links.now x.commodities.now x.trips.now c.loop-k.k
tested c =
    let class = c.lorries_only.ensures ∙ sym (c.requires.to_nodes.1 _ c.loop-k-test.true) in
    let tails = rw class at c.mark_tails.ensures.1 in
    let found = rw (c.tails_into-tails.ensures, c.node_of-s.ensures) at c.reach-reached.ensures in
    let answer = search-answer _ _ _ _ (ends-below _ _ c.requires.links_value) (c.requires.to_nodes.0 _ c.loop-k-test.true) tails c.args.all_open c.requires.sized.1 c.loop-k.invariant.2 _ found.reaching found.tails-reached in
    c.trips_marked.ensures ∙ marks-answer _ _ _ _ c.loop-k-test.true c.requires.sized.0.entries-long _ _ answer

pub returns-then-not-trips_marked : goal.returns-then-not-trips_marked
returns-then-not-trips_marked c = all-failed _ _ _ (search rules) (was-no (tested (goal.at.returns-then-not-trips_marked c).After-trips_marked) c.if-not-trips_marked.true) ∙ sym (reach-all _ _ _ _)

pub loop-k-preserved : goal.loop-k-preserved
loop-k-preserved c =
    let (least, held, grown, rows) = c.loop-k.invariant in
    let reached = c.reach-reached.ensures in
    (search rules, all_more _ _ held (was-yes (tested (goal.at.loop-k-preserved c).After-trips_marked) c.if-not-trips_marked.false), grown-next grown reached.grown, reached.rows)

pub shape_of-rows : goal.shape_of-rows
shape_of-rows c = c.loop-k.invariant.2.size ∙ c.mark_tails.ensures.0

pub returns : goal.returns
returns c = all_held _ _ c.loop-k.invariant.0 c.loop-k-test.false c.loop-k.invariant.1 ∙ sym (reach-all _ _ _ _)
