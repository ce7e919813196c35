-- The desks of the definitions, as they are lent, and what the functions of this crate answer of one.
use Rattle.std.specs.Prelude.{◌≡◌, ℕ, zero, suc, ◌≤◌, ◌<◌, ◌&&◌, true, false, cond, List, [], ◌∷◌, ltb}
use base.Fml.{GName}
use Rattle.calls.specs.Desks.{Desk, turns_to_end, desk_answer, desk_table}
use Rattle.calls.specs.Laws.Desks.{is_spent}
use Rattle.calls.specs.declared.Ending.TheVariants as ending
use Rattle.calls.specs.declared.RunAnswer.{RunAnswer}
use Rattle.assignment.specs.declared.Course.{Course}
use Rattle.desks.specs.declared.Desk.{Desk as LentDesk}

abbrev pub desk_of : List ℕ → List ℕ → ℕ → ℕ → Desk
desk_of file table budget excess = record { file = file; table = table; budget = budget; excess = excess }

abbrev pub queued : LentDesk → Desk
queued d = desk_of d.file.now d.table.now d.budget d.excess

-- A desk with another table.
abbrev pub with_table : Desk → List ℕ → Desk
with_table d table = record d { table = table }

-- What is lent at the eight seats, in order,
abbrev pub desks_of : LentDesk → LentDesk → LentDesk → LentDesk → LentDesk → LentDesk → LentDesk → LentDesk → List Desk
desks_of seat_0 seat_1 seat_2 seat_3 seat_4 seat_5 seat_6 seat_7 =
    queued seat_0 ∷ queued seat_1 ∷ queued seat_2 ∷ queued seat_3 ∷ queued seat_4 ∷ queued seat_5 ∷ queued seat_6 ∷ queued seat_7 ∷ []

-- and the references to the tables, which stay the same.
abbrev reference : LentDesk → GName
reference d = d.table.ghost_name

abbrev pub references : LentDesk → LentDesk → LentDesk → LentDesk → LentDesk → LentDesk → LentDesk → LentDesk → List GName
references seat_0 seat_1 seat_2 seat_3 seat_4 seat_5 seat_6 seat_7 =
    reference seat_0 ∷ reference seat_1 ∷ reference seat_2 ∷ reference seat_3 ∷ reference seat_4 ∷ reference seat_5 ∷ reference seat_6 ∷ reference seat_7 ∷ []

-- The desks with the one at a seat served until it has had so many turns.
abbrev pub served_at : List Desk → ℕ → ℕ → List Desk
served_at [] seat until = []
served_at (d ∷ desks) zero until = with_table d (desk_table d until) ∷ desks
served_at (d ∷ desks) (suc seat) until = d ∷ served_at desks seat until

-- A desk that waits, with what it answers and holds after some turns.
pub record Waits (d : Desk) (a : RunAnswer) : Type 0 where
  pub answer-is : a ≡ desk_answer d a.judged
  pub table_is : d.table ≡ desk_table d a.judged
  pub unfinished : a.judged < turns_to_end d

-- What is asked of a desk that is to be served until it has had so many turns: no turn yet, or waiting after fewer.
pub record Open (d : Desk) (a : RunAnswer) (until : ℕ) : Type 0 where
  pub waits : 1 ≤ a.judged → Waits d a
  pub onward : 1 ≤ a.judged → a.judged < until

-- A run that is spent before the desk's own budget waits.
abbrev pub cut_off : RunAnswer → ℕ → RunAnswer
cut_off a budget = cond (ltb a.judged budget && is_spent a.ending) (record a { ending = ending.Waiting }) a

-- The course of a run that goes on where a desk stands.
abbrev pub course_from : ℕ → RunAnswer → ℕ → ℕ → Course
course_from zero a budget excess = record { budget = budget; excess = excess; moves = 0; share = 1; resumed = false }
course_from (suc moves) a budget excess = record { budget = budget; excess = excess; moves = moves; share = a.share; resumed = true }

abbrev pub course_of : RunAnswer → ℕ → ℕ → Course
course_of a budget excess = course_from a.judged a budget excess
