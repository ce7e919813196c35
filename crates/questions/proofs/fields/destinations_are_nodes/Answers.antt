-- `questions::questions::destinations_are_nodes` meets its contract: the destinations before k are nodes.
use borrow.Author.Rules.{rules}
use mathlib.Core.Path.{refl}
use native.Mathlib.Omega.{arith}
use lib.ListN.{get_or}
use Prim.Native.Nat.{◌≤◌, ◌<◌}
use borrow.Author.Tests.{lt-ltb, le-ltb}
use Rattle.theory.specs.Finite.{all}
use Rattle.questions.specs.Destinations.{all_nodes}
use Rattle.questions.specs.Laws.Questions.{all_more, all-failed, all_held}
use Rattle.questions.proofs.fields.destinations_are_nodes.Goals as goal

pub loop-k-init : goal.loop-k-init
unfolding all
loop-k-init c = (search rules, refl)

pub returns-then-nodes-node : goal.returns-then-nodes-node
unfolding all_nodes
returns-then-nodes-node c =
    let k = c.loop-k.k in
    let beyond : c.args.nodes ≤ get_or c.args.destinations.now k 0 = omega arith in
    all-failed _ _ k (search rules) (le-ltb _ _ beyond)

pub loop-k-preserved : goal.loop-k-preserved
unfolding all_nodes
loop-k-preserved c =
    let k = c.loop-k.k in
    let below : get_or c.args.destinations.now k 0 < c.args.nodes = omega arith in
    (search rules, all_more k _ c.loop-k.invariant.1 (lt-ltb _ _ below))

pub returns : goal.returns
unfolding all_nodes
returns c = all_held _ _ c.loop-k.invariant.0 c.loop-k-test.false c.loop-k.invariant.1
