-- The invariant of `send_waiting`: the nodes below `k` were asked to send.
use Rattle.std.proofs.Common.{cond}
use Rattle.loading.specs.Sending.{SentBelow}
use Rattle.loading.proofs.sending.Trips.send_waiting.Given as goal

abbrev pub invariant-loop-k : goal.invariant-loop-k
invariant-loop-k l =
    SentBelow l.next.nodes l.next.links.now l.next.next.now l.k l.initial.self.waiting l.initial.self.volumes l.self.waiting l.self.volumes (cond l.any 1 0)
