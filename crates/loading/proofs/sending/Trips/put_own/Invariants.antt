-- The invariant: the trips of the nodes below `j` are written.
use Rattle.std.proofs.Common.{◌≡◌}
use Rattle.loading.specs.Sending.{OwnBelow}
use Rattle.loading.proofs.sending.Trips.put_own.Given as goal

abbrev pub invariant-loop-j : goal.invariant-loop-j
invariant-loop-j l = OwnBelow l.j l.trips l.self.waiting × (l.self.volumes ≡ l.initial.self.volumes)
