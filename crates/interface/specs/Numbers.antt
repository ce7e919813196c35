-- The fields of an answer other than the refusal number, as other languages read them: numbers in document 01's order. The number of an
-- ending or an outcome is the one that `calls` gives it.
use Rattle.std.specs.Prelude.{ℕ, suc, List, [], ◌∷◌, slice_index}
use Rattle.std.specs.List.{flat_map}
use Rattle.calls.specs.Calls.{ending_number, outcome_number}
use Rattle.calls.specs.declared.RunAnswer.{RunAnswer}
use Rattle.calls.specs.declared.PassAnswer.{PassAnswer}
use Rattle.calls.specs.declared.AuditAnswer.{AuditAnswer}
use Rattle.calls.specs.declared.TakeBackAnswer.{TakeBackAnswer}
use Rattle.calls.specs.declared.DesksAnswer.{DesksAnswer}
use Rattle.calls.specs.Desks.{Desk}

-- Outcome, gap, cost, share, over.
abbrev pub pass_numbers : PassAnswer → List ℕ
pass_numbers a = outcome_number a.outcome ∷ a.gap ∷ a.cost ∷ a.share ∷ a.over ∷ []

-- The resulting share.
abbrev pub take_back_numbers : TakeBackAnswer → List ℕ
take_back_numbers a = a.share ∷ []

-- Ending, tables judged, share, gap, cost, over.
abbrev pub run_numbers : RunAnswer → List ℕ
run_numbers a = ending_number a.ending ∷ a.judged ∷ a.share ∷ a.gap ∷ a.cost ∷ a.over ∷ []

-- Gap, cost, over.
abbrev pub audit_numbers : AuditAnswer → List ℕ
audit_numbers a = a.gap ∷ a.cost ∷ a.over ∷ []

-- Of a seat: refusal, ending, tables judged, share, gap, cost, over. Of all desks: the turns, and then those of each seat.
abbrev pub seat_numbers : RunAnswer → List ℕ
seat_numbers a = a.refusal ∷ run_numbers a

abbrev pub desks_numbers : DesksAnswer → List ℕ
desks_numbers a = a.turns ∷ flat_map seat_numbers a.seats

-- What is lent at the eight seats: files and tables, and the budgets and excesses in lists of their own.
abbrev pub seat_of : List ℕ → List ℕ → List ℕ → List ℕ → ℕ → Desk
seat_of file table budgets excesses seat = record { file = file; table = table; budget = slice_index budgets seat; excess = slice_index excesses seat }

abbrev pub queue : List (List ℕ) → List (List ℕ) → List ℕ → List ℕ → ℕ → List Desk
queue [] tables budgets excesses seat = []
queue (file ∷ files) [] budgets excesses seat = []
queue (file ∷ files) (table ∷ tables) budgets excesses seat = seat_of file table budgets excesses seat ∷ queue files tables budgets excesses (suc seat)
