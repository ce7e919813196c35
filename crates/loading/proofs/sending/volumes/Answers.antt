-- What is sent changes no node's final volume, and where no node sends any more the volumes are final (`sending-ends`).
use Rattle.std.proofs.Common.{◌∙◌, cond, ap, refl, arith}
use Rattle.loading.specs.Sending.{all_zero}
use Rattle.loading.specs.Laws.Sending.{final-begins, sending-begins, sending-ends, volumes-none}
use Rattle.loading.proofs.sending.volumes.Goals as goal

pub returns-then-not-any_trips : goal.returns-then-not-any_trips
unfolding all_zero
returns-then-not-any_trips c =
    let x = c.args in
    volumes-none x.nodes x.links.now x.next.now x.trips.now (rw c.requires.has-trips at (c.any_trips.ensures c.if-not-any_trips.true))

pub put_own-requires : goal.put_own-requires
unfolding all_zero
put_own-requires c = (omega (arith, c.requires.has-trips, c.requires.followable.few-nodes), refl)

pub send_in_order-requires : goal.send_in_order-requires
unfolding all_zero
send_in_order-requires c =
    rw c.put_own.ensures.rest
    (sending-begins c.requires (λ i. omega (arith, c.type_inv.trips i)) (rw c.requires.has-trips at c.put_own.ensures.own))

pub loop-next_links-init : goal.loop-next_links-init
unfolding all_zero
loop-next_links-init c = (
  c.send_in_order.ensures.sending,
  c.send_in_order.ensures.same
      ∙ rw c.put_own.ensures.rest (final-begins c.args.links.now c.args.next.now (rw c.requires.has-trips at c.put_own.ensures.own)),
)

pub returns : goal.returns
returns c =
    let all = c.send_waiting.ensures in
    sending-ends all (ap (λ b. cond b 1 0) c.loop-next_links-test.false) ∙ all.sent.same ∙ c.loop-next_links.invariant.1
