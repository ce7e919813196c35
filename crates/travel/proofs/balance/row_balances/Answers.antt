-- The sums are those that the definition compares at each node, and no sum here is large. The ends of links are nodes, so past the nodes the sums
-- stay 0.
use Rattle.std.proofs.Common.{◌*◌, ◌<◌, ◌≤◌, length, get_or, sym, mul-le-mul, arith, w16, w32, Fits, rules}
use Rattle.travel.specs.Ranges.{most_flow, ClearPast}
use Rattle.travel.specs.Laws.Padded.{cleared}
use Rattle.travel.specs.Laws.Sums.{sums_none, sums-most, sums-past}
use Rattle.travel.specs.Laws.Balance.{balances-none, balances-there, balances-more, balances-fails}
use Rattle.travel.proofs.balance.row_balances.Goals as goal
use Rattle.travel.proofs.balance.row_balances.Goals.{After-add_at, In-loop-j, else-j-destination-via-then-j-destination+else-out-j, else-j-destination-via-else-j-destination}

node : (c : In-loop-j) → c.loop-j.j < 128
node c = omega (arith, c.requires.row_fits.0.trips-long, c.requires.row_fits.0.few-nodes)

-- W × D(j,s), and the flow into a node.
sent-most : (c : In-loop-j) → c.args.share * get_or c.args.trips.now c.loop-j.j 0 ≤ most_flow
sent-most c =
    let fits : Fits w16 (get_or c.args.trips.now c.loop-j.j 0) = search rules in
    mul-le-mul {n₂ = 1024} {m₂ = 65535} (search rules) (omega arith)

into-most : (c : In-loop-j) → get_or c.add_at.new.into c.loop-j.j 0 ≤ 512 * 4294967295
into-most c =
    let x = c.args in
    omega (
      arith,
      c.add_at.ensures.sums_at_3.at c.loop-j.j (node c),
      c.requires.row_fits.0.few-links,
      sums-most x.links.now 1 x.row.now (length x.links.now) 4294967295 c.loop-j.j (λ i. let fits : Fits w32 (get_or x.row.now i 0) = search rules in omega arith),
    )

clear : (c : After-add_at) → ClearPast 128 c.args.nodes c.add_at.new.out × ClearPast 128 c.args.nodes c.add_at.new.into
clear c =
    let fit = c.requires.row_fits.0 in
    (sums-past _ _ _ _ _ _ fit.tail-node c.add_at.ensures.sums_at_2, sums-past _ _ _ _ _ _ fit.head-node c.add_at.ensures.sums_at_3)

pub add_at-requires-clause-sums_at : goal.add_at-requires-clause-sums_at
add_at-requires-clause-sums_at c =
    let few = c.requires.row_fits.0.few-nodes in (
      sums_none _ _ _ _ (cleared 128 c.args.nodes _ _ few c.requires.clear_past.0 (search rules)),
      sums_none _ _ _ _ (cleared 128 c.args.nodes _ _ few c.requires.clear_past.1 (search rules)),
    )

pub loop-j-init : goal.loop-j-init
loop-j-init c = balances-none _ _ _ _ _

pub overflow_add-into : goal.overflow_add-into
overflow_add-into c =
    let w = (goal.at.overflow_add-into c).In-loop-j in
    rw (c.from.ensures, c.from-in-loop-j.ensures) (omega (arith, sent-most w, into-most w))

pub returns-then-out-j : goal.returns-then-out-j
returns-then-out-j c =
    let w = (goal.at.returns-then-out-j c).In-loop-j in
    let sums = c.add_at.ensures in record {
      value = sym (balances-fails _ _ _ _ _ _ _ sums.sums_at_2 sums.sums_at_3 c.loop-j.j (node w) c.args.nodes (omega (arith, c.requires.row_fits.0.trips-long)) c.if-j-destination.true (rw (c.from.ensures, c.from-in-loop-j.ensures) at c.if-out-j.true));
      clear_past_2 = clear (goal.at.returns-then-out-j c).After-add_at;
    }

pub loop-j-preserved : goal.loop-j-preserved
loop-j-preserved c =
    let w = (goal.at.loop-j-preserved c).In-loop-j in
    let sums = c.add_at.ensures in
    elim c.else-j-destination.branch [
      | else-j-destination-via-then-j-destination+else-out-j v ↦
          balances-more _ _ _ _ _ _ _ sums.sums_at_2 sums.sums_at_3 c.loop-j.j (node w) c.loop-j.invariant (rw (c.from.ensures, c.from-in-loop-j.ensures) at v.if-out-j.false)
      | else-j-destination-via-else-j-destination v ↦ balances-there _ _ _ _ _ c.loop-j.j c.loop-j.invariant v.if-j-destination.false
    ]

pub returns-clause-clear_past_2 : goal.returns-clause-clear_past_2
returns-clause-clear_past_2 c = clear (goal.at.returns-clause-clear_past_2 c).After-add_at
