-- `desks::waiting::turns_made`, its loop: the turns of the seats before this one are added up.
use Rattle.std.proofs.Common.{◌≡◌}
use Rattle.theory.specs.Finite.{sum}
use Rattle.desks.specs.Rounds.{turns_had}
use Rattle.desks.proofs.waiting.turns_made.Given as goal

abbrev pub invariant-loop-seat : goal.invariant-loop-seat
invariant-loop-seat l = l.made ≡ sum l.seat (turns_had l.answers)
