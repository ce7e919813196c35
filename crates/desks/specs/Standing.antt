-- How the desks stand after so many visits, and what the call answers and leaves.
use Rattle.std.specs.Prelude.{◌≡◌, ℕ, ◌+◌, ◌<◌, List}
use Rattle.theory.specs.Finite.{tabulate}
use Rattle.calls.specs.Desks.{Desk, desk_at, ends_after, seat_answer, seat_table, desks_table}
use Rattle.calls.specs.Laws.Turns.{visits, all-served}
use Rattle.calls.specs.declared.RunAnswer.{RunAnswer}
use Rattle.desks.specs.Seats.{with_table}
use Rattle.desks.specs.Rounds.{answer_at}

-- A seat after so many visits, if the allowance is not used up.
pub record SeatAt (desks : List Desk) (count visit seat : ℕ) (now : List Desk) (answers : List RunAnswer) : Type 0 where
  pub answer-is : answer_at answers seat ≡ seat_answer desks count (visits visit) seat
  pub desk-is : desk_at now seat ≡ with_table (desk_at desks seat) (seat_table desks count (visits visit) seat)

-- All seats, and the turns that are left of the allowance.
pub record Standing (desks : List Desk) (count allowance : ℕ) (now : List Desk) (answers : List RunAnswer) (left : ℕ) : Type 0 where
  pub visit : ℕ
  pub each : (seat : ℕ) → seat < 8 → SeatAt desks count visit seat now answers
  pub left-is : left + all-served (ends_after desks count) visit ≡ allowance

-- The desks as the call leaves them.
abbrev pub desks_left : List Desk → ℕ → ℕ → List Desk
desks_left desks count allowance = tabulate 8 (λ seat. with_table (desk_at desks seat) (desks_table desks count allowance seat))
