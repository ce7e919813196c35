-- `desks::waiting::seat_after`, its loop: the waiting desks at the seats before this one are counted off.
use Rattle.std.proofs.Common.{◌≡◌, ◌+◌}
use Rattle.theory.specs.Finite.{count}
use Rattle.desks.specs.Rounds.{waits_at}
use Rattle.desks.proofs.waiting.seat_after.Given as goal

abbrev pub invariant-loop-seat : goal.invariant-loop-seat
invariant-loop-seat l = count l.seat (waits_at l.answers) + l.rest ≡ l.desks
