-- The invariants of `send_in_order`: what stands in the order are nodes, and no node's final volume has changed. The measure is what is left of
-- the order's 128 places.
use Rattle.std.proofs.Common.{◌-◌, ◌≤◌}
use Rattle.loading.specs.Sending.{AllNodes, Sent}
use Rattle.loading.proofs.sending.Trips.send_in_order.Given as goal

abbrev pub invariant-loop-k : goal.invariant-loop-k
invariant-loop-k l = (l.joined ≤ l.k) × AllNodes l.next.nodes l.joined l.order

abbrev pub invariant-loop-turn : goal.invariant-loop-turn
invariant-loop-turn l =
    (l.joined ≤ 128)
    × AllNodes l.next.nodes l.joined l.order
    × Sent l.next.nodes l.next.links.now l.next.next.now l.initial.self.waiting l.initial.self.volumes l.self.waiting l.self.volumes

abbrev pub decreases-loop-turn : goal.decreases-loop-turn
decreases-loop-turn l = 128 - l.turn
