-- `questions::reach::reach` meets its contract: what is reached so far, and the rows that were filled on the way.
use Prim.Native.Nat.{◌<◌}
use mathlib.Core.Bool.{true, false}
use mathlib.Core.Path.{◌≡◌, sym, ◌∙◌}
use native.Mathlib.Omega.{arith}
use Rattle.theory.specs.Laws.Marks.{lacking-less, next-unvisited, none-unvisited}
use Rattle.theory.specs.Marks.{marked}
use Rattle.questions.specs.Laws.Reach.{grown-next, reaching-first, reaching-next}
use Rattle.questions.specs.Laws.Reach.{grown-none, reached-tails}
use Rattle.questions.proofs.reach.reach.Goals as goal
use Rattle.questions.proofs.reach.reach.Goals.{Else-tail-eq-NO_NODE}

pub only_node-requires : goal.only_node-requires
only_node-requires c = omega (arith, c.requires.0, c.requires.1.few)

pub all_reached-requires : goal.all_reached-requires
all_reached-requires c = c.requires.1.few

pub returns-then-all_reached : goal.returns-then-all_reached
returns-then-all_reached c =
    let first = rw c.only_node.ensures at c.both-first.ensures in
    rw first (reached-tails c.requires.1 (sym (rw first at c.all_reached.ensures) ∙ c.if-all_reached.true))

pub only_node-reached-requires : goal.only_node-reached-requires
only_node-reached-requires c = omega (arith, c.requires.0, c.requires.1.few)

pub loop-tails-init : goal.loop-tails-init
loop-tails-init c = (grown-none, c.requires.1, rw c.only_node-reached.ensures reaching-first)

pub shape_of-rows-then-tail-eq-NO_NODE : goal.shape_of-rows-then-tail-eq-NO_NODE
shape_of-rows-then-tail-eq-NO_NODE c = c.loop-tails.invariant.0.size

pub returns-then-tail-eq-NO_NODE : goal.returns-then-tail-eq-NO_NODE
returns-then-tail-eq-NO_NODE c =
    let (grown, rows, reaching) = c.loop-tails.invariant in
    record {
      grown = grown;
      rows = rows;
      reaching = reaching;
      tails-reached = λ j e. none-unvisited _ _ _ c.lowest_unvisited-tail.ensures c.if-tail-eq-NO_NODE.true j (omega (arith, c.requires.2 j e, c.requires.1.few)) e;
    }

-- The next tail, which is not yet reached.
next : (c : Else-tail-eq-NO_NODE) → (c.lowest_unvisited-tail.result < 128) × (marked c.args.tails c.lowest_unvisited-tail.result ≡ true) × (marked c.loop-tails.reached c.lowest_unvisited-tail.result ≡ false)
next c = next-unvisited _ _ _ c.lowest_unvisited-tail.ensures c.if-tail-eq-NO_NODE.false

pub fill-requires : goal.fill-requires
fill-requires c = (c.requires.2 _ (next (goal.at.fill-requires c).Else-tail-eq-NO_NODE).1, c.loop-tails.invariant.1)

pub loop-tails-smaller : goal.loop-tails-smaller
loop-tails-smaller c = let (below, is-tail, new) = next (goal.at.loop-tails-smaller c).Else-tail-eq-NO_NODE in rw c.both-more.ensures (lacking-less _ _ _ below new c.fill.ensures.closure.mine)

pub loop-tails-preserved : goal.loop-tails-preserved
loop-tails-preserved c = let (grown, rows, reaching) = c.loop-tails.invariant in let filled = c.fill.ensures in (grown-next grown filled.grown, filled.rows, rw c.both-more.ensures (reaching-next grown reaching _ (next (goal.at.loop-tails-preserved c).Else-tail-eq-NO_NODE).1 filled.closure))
