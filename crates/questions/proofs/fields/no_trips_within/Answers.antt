-- `questions::questions::no_trips_within` meets its contract: the commodities before k have no trips of their own.
use borrow.Author.Rules.{rules}
use mathlib.Core.Path.{◌≡◌, refl, sym, ◌∙◌}
use native.Mathlib.Omega.{arith}
use lib.Dec.{eqb}
use lib.Arith.{digits_lt}
use lib.ListN.{length, get_or}
use Prim.Native.Nat.{◌+◌, ◌*◌, ◌<◌}
use borrow.Author.Tests.{eq-eqb, ne_eqb}
use Rattle.theory.specs.Finite.{all}
use Rattle.questions.specs.Laws.Questions.{all_more, all-failed, all_held, within_test, within_all}
use Rattle.questions.proofs.fields.no_trips_within.Goals as goal
use Rattle.questions.proofs.fields.no_trips_within.Goals.{After-node_of-s}

pub loop-k-init : goal.loop-k-init
unfolding all
loop-k-init c = (search rules, refl)

-- The place of D(s,s) among the entries.
place : (c : After-node_of-s) → c.loop-k.k * c.args.nodes + c.node_of-s.result < length c.args.trips.now
place c =
    let k = c.loop-k.k in
    let node-below : c.node_of-s.result < c.args.nodes = rw c.node_of-s.ensures (c.requires.to_nodes k (search rules)) in
    omega (arith, digits_lt {q = k} {m = length c.args.commodities.now} {r = c.node_of-s.result} {c = c.args.nodes} (search rules) node-below, c.requires.trips_len)

pub overflow_mul-k : goal.overflow_mul-k
overflow_mul-k c = omega (arith, place (goal.at.overflow_mul-k c).After-node_of-s)

pub overflow_add-k : goal.overflow_add-k
overflow_add-k c = omega (arith, place (goal.at.overflow_add-k c).After-node_of-s)

pub offset_bounds-trips-k : goal.offset_bounds-trips-k
offset_bounds-trips-k c = omega (arith, place (goal.at.offset_bounds-trips-k c).After-node_of-s)

pub bounds-trips-k : goal.bounds-trips-k
bounds-trips-k c = place (goal.at.bounds-trips-k c).After-node_of-s

tested : (c : After-node_of-s) → eqb (get_or c.args.trips.now (c.loop-k.k * c.args.nodes + c.node_of-s.result) 0) 0 ≡ within_test c.args.nodes c.args.commodities.now c.args.trips.now c.loop-k.k
unfolding within_test
tested c = rw c.node_of-s.ensures

pub returns-then-trips-k-ne0 : goal.returns-then-trips-k-ne0
returns-then-trips-k-ne0 c =
    all-failed _ _ _ (search rules) (sym (tested (goal.at.returns-then-trips-k-ne0 c).After-node_of-s) ∙ ne_eqb _ _ c.if-trips-k-ne0.true) ∙ sym (within_all _ _ _)

pub loop-k-preserved : goal.loop-k-preserved
loop-k-preserved c =
    (search rules, all_more _ _ c.loop-k.invariant.1 (sym (tested (goal.at.loop-k-preserved c).After-node_of-s) ∙ eq-eqb _ _ c.if-trips-k-ne0.false))

pub returns : goal.returns
returns c = all_held _ _ c.loop-k.invariant.0 c.loop-k-test.false c.loop-k.invariant.1 ∙ sym (within_all _ _ _)
