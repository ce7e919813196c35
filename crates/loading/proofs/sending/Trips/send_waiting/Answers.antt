-- A node with trips waiting and a next link sends, and any other is passed.
use Rattle.std.proofs.Common.{cond, inl, inr, ◌∙◌, rules}
use Rattle.loading.specs.Laws.Sending.{movable, below-skips, below-sends, below_one}
use Rattle.loading.proofs.sending.Trips.send_waiting.Goals as goal
use Rattle.loading.proofs.sending.Trips.send_waiting.Goals.{then-self-k-ne0+in-Some, then-self-k-ne0+in_default, else-self-k-ne0}

pub send-requires : goal.send-requires
send-requires c = movable c.args.next.followable c.loop-k.invariant.sent.sending (search rules) c.in-Some.ensures.0 (c.from.ensures ∙ c.in-Some.ensures.1)

pub loop-k-preserved : goal.loop-k-preserved
loop-k-preserved c =
    let next = c.args.next in
    let so_far = c.loop-k.invariant in
    elim c.if-self-k-ne0.branch [
      | then-self-k-ne0+in-Some w ↦
          rw (w.self-is, w.any-is, w.send.ensures.trips, w.send.ensures.volume)
          (below_one (cond c.loop-k.any 1 0) (below-sends so_far next.followable c.loop-k-test.true w.if-self-k-ne0.true w.in-Some.ensures.0 (w.from.ensures ∙ w.in-Some.ensures.1)))
      | then-self-k-ne0+in_default w ↦ rw (w.self-is, w.any-is) (below-skips so_far (inr w.in_default.ensures))
      | else-self-k-ne0 w ↦ rw (w.self-is, w.any-is) (below-skips so_far (inl w.if-self-k-ne0.false))
    ]
