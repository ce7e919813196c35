-- (A.8) Several desks, one machine: the order of their turns, and what each seat answers and leaves in the flow table that is lent there.
use Rattle.std.specs.Prelude.{ℕ, zero, suc, ◌+◌, ◌*◌, ◌%◌, ◌&&◌, cond, List, [], ◌∷◌, length, replicate, leb, ltb, eqb}
use Rattle.study.specs.Questions.{first_no}
use Rattle.theory.specs.Finite.{tabulate}
use Rattle.calls.specs.Questions.{desks_questions}
use Rattle.calls.specs.Calls.{start_table, run_answer, run_table}
use Rattle.calls.specs.declared.Ending.TheVariants as ending
use Rattle.calls.specs.declared.RunAnswer.{RunAnswer}
use Rattle.calls.specs.declared.DesksAnswer.{DesksAnswer}

-- What is queued at a desk: a study, with its own flow table, budget and excess.
pub record Desk : Type 0 where
  pub file : List ℕ
  pub table : List ℕ
  pub budget : ℕ
  pub excess : ℕ

abbrev nothing_queued : Desk
nothing_queued = record { file = []; table = []; budget = 0; excess = 0 }

-- The desk of a seat, from 0. What is lent at a seat without a desk stands in the list too.
abbrev pub desk_at : List Desk → ℕ → Desk
desk_at [] seat = nothing_queued
desk_at (d ∷ desks) zero = d
desk_at (d ∷ desks) (suc seat) = desk_at desks seat

-- A desk has ended after as many turns as its run by itself judges tables; one whose run would be refused, at once.
unfoldable pub turns_to_end : Desk → ℕ
turns_to_end d = (run_answer d.file d.table d.budget d.excess).judged

-- The turns that each seat takes to end: a seat without a desk has none.
abbrev pub ends_after : List Desk → ℕ → ℕ → ℕ
ends_after desks count seat = cond (ltb seat count) (turns_to_end (desk_at desks seat)) 0

-- How many of the turns are a seat's.
unfoldable pub turns_of : ℕ → List ℕ → ℕ
turns_of seat [] = 0
turns_of seat (served ∷ turns) = cond (eqb served seat) 1 0 + turns_of seat turns

-- The seats that the turns went to, the latest first, after so many visits. Visits go round the eight seats in order. The desk visited has a
-- turn, one judged table, unless it has ended or the allowance is used up.
unfoldable pub turns_after : (ℕ → ℕ) → ℕ → ℕ → List ℕ
turns_after ends allowance zero = []
turns_after ends allowance (suc visit) =
    let turns = turns_after ends allowance visit in
    let seat = visit % 8 in
    cond (ltb (turns_of seat turns) (ends seat) && ltb (length turns) allowance) (seat ∷ turns) turns

-- All turns: while some desk is unfinished each round of eight visits has a turn, so as many rounds as the allowance are enough.
unfoldable pub desk_turns : List Desk → ℕ → ℕ → List ℕ
desk_turns desks count allowance = turns_after (ends_after desks count) allowance (8 * allowance)

-- A desk with no turn: share 1, and 0 in the other numbers.
abbrev pub unserved : RunAnswer
unserved = record { refusal = 0; ending = ending.Waiting; judged = 0; share = 1; gap = 0; cost = 0; over = 0 }

-- What a desk answers after so many turns: ended, what it would if run by itself with its budget; cut off by the allowance, 'waiting' and otherwise
-- what a run of so large a budget would.
unfoldable pub desk_answer : Desk → ℕ → RunAnswer
desk_answer d turns =
    cond (leb (turns_to_end d) turns) (run_answer d.file d.table d.budget d.excess)
    (cond (eqb turns 0) unserved (record (run_answer d.file d.table turns d.excess) { ending = ending.Waiting }))

-- What it holds then: with no turn, its table as started.
unfoldable pub desk_table : Desk → ℕ → List ℕ
desk_table d turns =
    cond (leb (turns_to_end d) turns) (run_table d.file d.table d.budget d.excess)
    (cond (eqb turns 0) (start_table d.file d.table) (run_table d.file d.table turns d.excess))

-- A seat without a desk answers 0 throughout.
abbrev pub no_answer : RunAnswer
no_answer = record { refusal = 0; ending = ending.Refused; judged = 0; share = 0; gap = 0; cost = 0; over = 0 }

-- What each seat answers and holds, if the desks are so many and each seat has had so many turns. A table lent at a seat without a desk stays unchanged.
abbrev pub seat_answer : List Desk → ℕ → (ℕ → ℕ) → ℕ → RunAnswer
seat_answer desks count turns seat = cond (ltb seat count) (desk_answer (desk_at desks seat) (turns seat)) no_answer

abbrev pub seat_table : List Desk → ℕ → (ℕ → ℕ) → ℕ → List ℕ
seat_table desks count turns seat =
    cond (ltb seat count) (desk_table (desk_at desks seat) (turns seat)) (desk_at desks seat).table

-- The call, with what is lent at its eight seats: the total of turns, and what each seat answers.
unfoldable pub desks_number : ℕ → ℕ → ℕ
desks_number count allowance = first_no (desks_questions count allowance)

unfoldable pub desks_answer : List Desk → ℕ → ℕ → DesksAnswer
desks_answer desks count allowance =
    let turns = desk_turns desks count allowance in
    elim (desks_number count allowance) [
      | zero ↦ record { refusal = 0; turns = length turns; seats = tabulate 8 (seat_answer desks count (λ seat. turns_of seat turns)) }
      | suc number ↦ record { refusal = suc number; turns = 0; seats = replicate 8 no_answer }
    ]

-- The flow table that is lent at a seat, afterwards.
unfoldable pub desks_table : List Desk → ℕ → ℕ → ℕ → List ℕ
desks_table desks count allowance seat =
    let turns = desk_turns desks count allowance in
    cond (eqb (desks_number count allowance) 0)
    (seat_table desks count (λ other. turns_of other turns) seat)
    (desk_at desks seat).table
