-- `desks::waiting::share_out`, its loop: the waiting desks at the seats before this one are counted, and their turns added up.
use Rattle.std.proofs.Common.{◌≡◌, ◌+◌, cond}
use Rattle.theory.specs.Finite.{sum, count}
use Rattle.desks.specs.Rounds.{turns_had, waits_at}
use Rattle.desks.proofs.waiting.share_out.Given as goal

abbrev pub invariant-loop-seat : goal.invariant-loop-seat
invariant-loop-seat l =
    record {
      counted : l.waiting ≡ count l.seat (waits_at l.answers);
      added : l.turns ≡ l.left + sum l.seat (λ seat. cond (waits_at l.answers seat) (turns_had l.answers seat) 0);
    }
