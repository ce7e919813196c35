-- A node of the order sends to the head of its next link, which changes no node's final volume (`sent-more`).
use Rattle.std.proofs.Common.{◌≡◌, ◌<◌, ◌∙◌, get_or, refl, arith}
use Rattle.theory.specs.Study.{head, no_link}
use Rattle.loading.specs.Sending.{all_zero}
use Rattle.loading.specs.Laws.Leaves.{head-below}
use Rattle.loading.specs.Laws.Sending.{movable, sent-more}
use Rattle.loading.proofs.sending.Trips.send_in_order.Goals as goal
use Rattle.loading.proofs.sending.Trips.send_in_order.Goals.{After-from-k, After-from-h}

-- The node whose turn it is.
node : (c : After-from-k) → c.from-k.result < c.args.next.nodes
node c = omega (arith, c.from-k.ensures, c.loop-turn.invariant.1 c.loop-turn.turn c.loop-turn-test.true)

-- It has a next link, and this is its head.
head_at : (c : After-from-h) → c.from-k.result < c.args.next.nodes →
    let l = get_or c.args.next.next.now c.from-k.result 0 in
    (l ≡ no_link → ⊥) × (c.from-h.result ≡ head c.args.next.links.now l)
head_at c below = let is = rw c.in-Some.is at (c.put_heads.ensures c.from-k.result below) in (is.0, c.from-h.ensures ∙ is.1)

pub put_heads-requires : goal.put_heads-requires
unfolding all_zero
put_heads-requires c = refl

pub send-requires : goal.send-requires
send-requires c =
    let at = goal.at.send-requires c in
    let below = node at.After-from-k in
    let is = head_at at.After-from-h below in
    movable c.args.next.followable c.loop-turn.invariant.2.sending below is.0 is.1

pub loop-turn-preserved-then-joined-lt128 : goal.loop-turn-preserved-then-joined-lt128
loop-turn-preserved-then-joined-lt128 c =
    let at = goal.at.loop-turn-preserved-then-joined-lt128 c in
    let below = node at.After-from-k in
    let is = head_at at.After-from-h below in
    let to_node : c.from-h.result < c.args.next.nodes = omega (arith, is.1, head-below c.args.next.followable c.from-k.result below is.0) in (
      omega arith,
      c.put_if-joined-then-joined-lt128.ensures.nodes c.args.next.nodes to_node c.loop-turn.invariant.1,
      rw (c.send.ensures.trips, c.send.ensures.volume) (sent-more c.args.next.followable c.loop-turn.invariant.2 below is.0 is.1),
    )

pub loop-turn-preserved-else-joined-lt128 : goal.loop-turn-preserved-else-joined-lt128
loop-turn-preserved-else-joined-lt128 c =
    let at = goal.at.loop-turn-preserved-else-joined-lt128 c in
    let below = node at.After-from-k in
    let is = head_at at.After-from-h below in (
      c.loop-turn.invariant.0,
      c.loop-turn.invariant.1,
      rw (c.send.ensures.trips, c.send.ensures.volume) (sent-more c.args.next.followable c.loop-turn.invariant.2 below is.0 is.1),
    )
