-- `questions::reach::trips_marked` meets its contract: the nodes that have passed.
use Prim.Native.Nat.{◌<◌}
use lib.ListN.{length}
use mathlib.Core.Bool.{true, false}
use mathlib.Core.Path.{◌≡◌, sym, ◌∙◌}
use native.Mathlib.Omega.{arith}
use borrow.Author.Tests.{ltb-true}
use Rattle.theory.specs.Laws.Marks.{lacking-less, marked-own, marked-below, next-unvisited, none-unvisited}
use Rattle.theory.specs.Marks.{marked, nodes_below}
use Rattle.questions.specs.Laws.Reach.{passed_first, passed-next, passed-fails, passed-last}
use Rattle.questions.proofs.reach.trips_marked.Goals as goal
use Rattle.questions.proofs.reach.trips_marked.Goals.{Else-j-eq-NO_NODE}

pub loop-all-init : goal.loop-all-init
loop-all-init c = passed_first

pub returns-then-j-eq-NO_NODE : goal.returns-then-j-eq-NO_NODE
returns-then-j-eq-NO_NODE c = passed-last c.loop-all.invariant c.requires (rw c.nodes_below-all.ensures at (none-unvisited _ _ _ c.lowest_unvisited-j.ensures c.if-j-eq-NO_NODE.true))

-- The next node is one of those below n, and has not yet passed.
next : (c : Else-j-eq-NO_NODE) → (c.lowest_unvisited-j.result < 128) × (marked (nodes_below (length c.args.trips.now)) c.lowest_unvisited-j.result ≡ true) × (marked c.loop-all.passed c.lowest_unvisited-j.result ≡ false)
next c = rw c.nodes_below-all.ensures at (next-unvisited _ _ _ c.lowest_unvisited-j.ensures c.if-j-eq-NO_NODE.false)

there : (c : Else-j-eq-NO_NODE) → c.lowest_unvisited-j.result < length c.args.trips.now
there c = ltb-true _ _ (sym (marked-below _ _) ∙ (next c).1)

pub offset_bounds-trips-j : goal.offset_bounds-trips-j
offset_bounds-trips-j c = record { fits = omega (arith, (next (goal.at.offset_bounds-trips-j c).Else-j-eq-NO_NODE).0) }

pub bounds-trips-j : goal.bounds-trips-j
bounds-trips-j c = there (goal.at.bounds-trips-j c).Else-j-eq-NO_NODE

pub returns-then-trips-j-ne0 : goal.returns-then-trips-j-ne0
returns-then-trips-j-ne0 c = passed-fails c.loop-all.invariant _ (there (goal.at.returns-then-trips-j-ne0 c).Else-j-eq-NO_NODE) (next (goal.at.returns-then-trips-j-ne0 c).Else-j-eq-NO_NODE).2 c.if-trips-j-ne0.true

pub only_node-requires : goal.only_node-requires
only_node-requires c = (next (goal.at.only_node-requires c).Else-j-eq-NO_NODE).0

pub loop-all-smaller : goal.loop-all-smaller
loop-all-smaller c = let (below, is-node, new) = next (goal.at.loop-all-smaller c).Else-j-eq-NO_NODE in rw (c.both-more.ensures, c.only_node.ensures) (lacking-less _ _ _ below new (marked-own _))

pub loop-all-preserved : goal.loop-all-preserved
loop-all-preserved c = rw (c.both-more.ensures, c.only_node.ensures) (passed-next c.loop-all.invariant _ c.if-trips-j-ne0.false)
