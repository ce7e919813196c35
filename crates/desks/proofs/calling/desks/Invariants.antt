-- `desks::calling::desks`, its rounds: the seats stand as they do after so many visits. The measure is what is left of the allowance.
use Rattle.std.proofs.Common.{◌≡◌, length}
use Rattle.desks.specs.Seats.{desks_of, references}
use Rattle.desks.specs.Standing.{Standing}
use Rattle.desks.proofs.calling.desks.Given as goal

abbrev pub invariant-loop-left : goal.invariant-loop-left
invariant-loop-left l =
    record {
      same-references : references l.seat_0 l.seat_1 l.seat_2 l.seat_3 l.seat_4 l.seat_5 l.seat_6 l.seat_7 ≡ references l.fn.seat_0 l.fn.seat_1 l.fn.seat_2 l.fn.seat_3 l.fn.seat_4 l.fn.seat_5 l.fn.seat_6 l.fn.seat_7;
      answers-long : length l.answers ≡ 8;
      stands : Standing (desks_of l.fn.seat_0 l.fn.seat_1 l.fn.seat_2 l.fn.seat_3 l.fn.seat_4 l.fn.seat_5 l.fn.seat_6 l.fn.seat_7) l.count l.allowance (desks_of l.seat_0 l.seat_1 l.seat_2 l.seat_3 l.seat_4 l.seat_5 l.seat_6 l.seat_7) l.answers l.left;
    }

abbrev pub decreases-loop-left : goal.decreases-loop-left
decreases-loop-left l = l.left
