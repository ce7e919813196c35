-- `questions::reach::search` meets its contract: the nodes reached and visited, and the next.
use Prim.Native.Nat.{◌<◌}
use mathlib.Core.Bool.{true, false}
use mathlib.Core.Path.{◌≡◌}
use native.Mathlib.Nat.{lt_of_le_of_lt}
use native.Mathlib.Omega.{arith}
use Rattle.theory.specs.Laws.Marks.{lacking, lacking-most, lacking-less, marked-own}
use Rattle.theory.specs.Marks.{marked}
use Rattle.questions.specs.Laws.Reach.{next-reached, searching-below, searching-visit, searching-whole, searching-last}
use Rattle.questions.specs.Laws.Reach.{searching-first}
use Rattle.questions.specs.Reach.{Searching}
use Rattle.questions.proofs.reach.search.Goals as goal
use Rattle.questions.proofs.reach.search.Goals.{After-both-first, After-both-seen, In-loop-next}

pub only_node-start-requires : goal.only_node-start-requires
only_node-start-requires c = omega (arith, c.requires.0, c.requires.1.few)

pub offset_bounds-rows-s : goal.offset_bounds-rows-s
offset_bounds-rows-s c = record { fits = omega (arith, c.requires.0, c.requires.1.few) }

pub bounds-rows-s : goal.bounds-rows-s
bounds-rows-s c = omega (arith, c.requires.0, c.requires.1.enough)

-- The search once s is visited,
first : (c : After-both-first) → let x = c.args in Searching x.rows.now x.s c.both-first.result c.only_node-start.result
first c = rw (c.both-first.ensures, c.only_node-start.ensures) (searching-first _ _)

pub whole_row-known-requires : goal.whole_row-known-requires
whole_row-known-requires c = λ j e. omega (arith, searching-below c.requires.1 c.requires.0 (first (goal.at.whole_row-known-requires c).After-both-first) j e, c.requires.1.enough)

pub next_node-next-requires : goal.next_node-next-requires
next_node-next-requires c = c.requires.1.few

pub loop-next-init : goal.loop-next-init
loop-next-init c = (rw (c.both-reached.ensures, c.both-visited.ensures, c.whole_row-known.ensures) (searching-whole c.requires.1 c.requires.0 (first (goal.at.loop-next-init c).After-both-first)), c.next_node-next.ensures)

-- the next node, which is reached and unvisited,
next : (c : In-loop-next) → (c.loop-next.next < 128) × (marked c.loop-next.reached c.loop-next.next ≡ true) × (marked c.loop-next.visited c.loop-next.next ≡ false)
next c = next-reached _ _ _ _ c.loop-next.invariant.1 c.loop-next-test.true

pub offset_bounds-rows-next : goal.offset_bounds-rows-next
offset_bounds-rows-next c = record { fits = omega (arith, (next (goal.at.offset_bounds-rows-next c).In-loop-next).0) }

pub bounds-rows-next : goal.bounds-rows-next
bounds-rows-next c = omega (arith, searching-below c.requires.1 c.requires.0 c.loop-next.invariant.0 _ (next (goal.at.bounds-rows-next c).In-loop-next).1, c.requires.1.enough)

pub only_node-requires : goal.only_node-requires
only_node-requires c = (next (goal.at.only_node-requires c).In-loop-next).0

-- and the search once it is visited.
visited : (c : After-both-seen) → let x = c.args in Searching x.rows.now x.s c.both-wider.result c.both-seen.result
visited c =
    rw (c.both-wider.ensures, c.both-seen.ensures, c.only_node.ensures) (searching-visit c.requires.1 c.requires.0 c.loop-next.invariant.0 _ (next c.before.before.before.before).1)

pub whole_row-other-requires : goal.whole_row-other-requires
whole_row-other-requires c = λ j e. omega (arith, searching-below c.requires.1 c.requires.0 (visited (goal.at.whole_row-other-requires c).After-both-seen) j e, c.requires.1.enough)

pub next_node-next-requires-in-loop-next : goal.next_node-next-requires-in-loop-next
next_node-next-requires-in-loop-next c = c.requires.1.few

pub loop-next-smaller : goal.loop-next-smaller
loop-next-smaller c =
    let (below, is-reached, new) = next (goal.at.loop-next-smaller c).In-loop-next in
    let fewer : lacking c.both-seen.result < lacking c.loop-next.visited = rw (c.both-seen.ensures, c.only_node.ensures) (lacking-less _ _ _ below new (marked-own _)) in
    rw c.both-visited-in-loop-next.ensures (lt_of_le_of_lt (lacking-most _ _) fewer)

pub loop-next-preserved : goal.loop-next-preserved
loop-next-preserved c = (rw (c.both-reached-in-loop-next.ensures, c.both-visited-in-loop-next.ensures, c.whole_row-other.ensures) (searching-whole c.requires.1 c.requires.0 (visited (goal.at.loop-next-preserved c).After-both-seen)), c.next_node-next-in-loop-next.ensures)

pub returns : goal.returns
returns c = searching-last c.requires.1 c.requires.0 c.loop-next.invariant.0 _ c.loop-next.invariant.1 c.loop-next-test.false
