-- The seats' answers so far, and how far a round of turns takes each seat.
use Rattle.std.specs.Prelude.{◌≡◌, ℕ, ◌+◌, ◌*◌, ◌≤◌, ◌<◌, Bool, true, ◌&&◌, cond, List, get_or, ltb}
use Rattle.theory.specs.Finite.{sum, count}
use Rattle.calls.specs.Desks.{Desk, desk_at, desk_answer, desk_table, no_answer}
use Rattle.calls.specs.Laws.Desks.{is_waiting}
use Rattle.calls.specs.declared.RunAnswer.{RunAnswer}
use Rattle.desks.specs.declared.Round.{Round}
use Rattle.desks.specs.Seats.{with_table, Waits}

abbrev pub answer_at : List RunAnswer → ℕ → RunAnswer
answer_at answers seat = get_or answers seat no_answer

abbrev pub waits_at : List RunAnswer → ℕ → Bool
waits_at answers seat = is_waiting (answer_at answers seat).ending

-- The turns that the seats have had, and those that the waiting ones have.
abbrev pub turns_had : List RunAnswer → ℕ → ℕ
turns_had answers seat = (answer_at answers seat).judged

unfoldable pub turns_made : List RunAnswer → ℕ
turns_made answers = sum 8 (turns_had answers)

unfoldable pub waiting_count : List RunAnswer → ℕ
waiting_count answers = count 8 (waits_at answers)

-- The sum over the waiting seats.
unfoldable pub waiting_sum : List RunAnswer → (ℕ → ℕ) → ℕ
waiting_sum answers f = sum 8 (λ seat. cond (waits_at answers seat) (f seat) 0)

-- The turns that a seat has had after a round, unless its desk ended, and the visits that these are.
abbrev pub round_turns : Round → ℕ → ℕ
round_turns r seat = r.whole + cond (ltb seat r.before) 1 0

abbrev pub round_visits : Round → ℕ
round_visits r = 8 * r.whole + r.before

-- The seats that a round serves: the first round, all; a later one, those whose desk waits after fewer turns than it gives.
abbrev pub serves : RunAnswer → ℕ → Bool
serves a until = is_waiting a.ending && ltb a.judged until

abbrev pub every : ℕ → Bool
every seat = true

abbrev pub behind : List RunAnswer → Round → ℕ → Bool
behind answers r seat = serves (answer_at answers seat) (round_turns r seat)

-- A seat before a round and after it: passed over, and visited, where it is served or not.
pub record Kept (seat : ℕ) (desks later : List Desk) (answers later_answers : List RunAnswer) : Type 0 where
  pub answer-is : answer_at later_answers seat ≡ answer_at answers seat
  pub desk-is : desk_at later seat ≡ desk_at desks seat

pub record Visited (test : ℕ → Bool) (r : Round) (seat : ℕ) (desks later : List Desk) (answers later_answers : List RunAnswer) : Type 0 where
  pub answer-is : answer_at later_answers seat ≡ cond (test seat) (desk_answer (desk_at desks seat) (round_turns r seat)) (answer_at answers seat)
  pub desk-is : desk_at later seat
      ≡ cond (test seat) (with_table (desk_at desks seat) (desk_table (desk_at desks seat) (round_turns r seat))) (desk_at desks seat)

-- A round under way: the seats before one have been visited, and the others are as they were.
pub record Going (test : ℕ → Bool) (r : Round) (before : ℕ) (desks later : List Desk) (answers later_answers : List RunAnswer) : Type 0 where
  pub visited : (seat : ℕ) → seat < before → Visited test r seat desks later answers later_answers
  pub kept : (seat : ℕ) → before ≤ seat → Kept seat desks later answers later_answers

-- What a round asks of a seat: a desk that waits has its turns behind it.
abbrev pub Stands : Desk → RunAnswer → Type 0
Stands d a = is_waiting a.ending ≡ true → Waits d a
