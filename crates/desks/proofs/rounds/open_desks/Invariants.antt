-- `desks::rounds::open_desks`, its loop: the seats before this one have been visited, and the others are as they were.
use Rattle.std.proofs.Common.{◌≡◌, length}
use Rattle.desks.specs.Seats.{desks_of, references}
use Rattle.desks.specs.Rounds.{every, Going}
use Rattle.desks.proofs.rounds.open_desks.Given as goal

abbrev pub invariant-loop-seat : goal.invariant-loop-seat
invariant-loop-seat l =
    record {
      same-references : references l.seat_0 l.seat_1 l.seat_2 l.seat_3 l.seat_4 l.seat_5 l.seat_6 l.seat_7 ≡ references l.initial.seat_0 l.initial.seat_1 l.initial.seat_2 l.initial.seat_3 l.initial.seat_4 l.initial.seat_5 l.initial.seat_6 l.initial.seat_7;
      answers-long : length l.answers ≡ 8;
      under-way : Going every l.round l.seat (desks_of l.initial.seat_0 l.initial.seat_1 l.initial.seat_2 l.initial.seat_3 l.initial.seat_4 l.initial.seat_5 l.initial.seat_6 l.initial.seat_7) (desks_of l.seat_0 l.seat_1 l.seat_2 l.seat_3 l.seat_4 l.seat_5 l.seat_6 l.seat_7) l.initial.answers l.answers;
    }
