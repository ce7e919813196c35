-- Document 01, 'Start, pass, run, audit, pack', and the calls of document 02's requests: what each call answers, and what it leaves in lent
-- memory. A refusal carries its number and 0 in every other field, and changes no lent memory.
use Rattle.std.specs.Prelude.{ℕ, zero, suc, cond, List, ◌++◌, length, drop, eqb}
use Rattle.std.proofs.Math.Option.{Option, none, some}
use Rattle.study.specs.Questions.{first_no}
use Rattle.theory.specs.Network.{Network}
use Rattle.theory.specs.Flows.{over}
use Rattle.theory.specs.Cost.{cost, gap}
use Rattle.theory.specs.Moves.{Shared, started, move, moves, reaches, judged, last_judged}
use Rattle.theory.specs.Notes.{note_of, taken_back}
use Rattle.calls.specs.Study.{network_of}
use Rattle.calls.specs.Questions.{check_questions, pack_questions, start_questions, run_questions, table_questions, page_questions, pass_questions, take_back_questions}
use Rattle.calls.specs.Pack.{packed}
use Rattle.calls.specs.Page.{page_of}
use Rattle.calls.specs.declared.Ending.{Ending}
use Rattle.calls.specs.declared.Ending.TheVariants as ending
use Rattle.calls.specs.declared.Outcome.{Outcome}
use Rattle.calls.specs.declared.Outcome.TheVariants as outcome
use Rattle.calls.specs.declared.RunAnswer.{RunAnswer}
use Rattle.calls.specs.declared.PassAnswer.{PassAnswer}
use Rattle.calls.specs.declared.AuditAnswer.{AuditAnswer}
use Rattle.calls.specs.declared.TakeBackAnswer.{TakeBackAnswer}

-- The numbers of the cases of an answer, as another language reads them: a refusal has 0.
abbrev pub ending_number : Ending → ℕ
ending_number ending.Refused = 0
ending_number ending.Reached = 1
ending_number ending.Finest = 2
ending_number ending.Spent = 3
ending_number ending.Waiting = 4

abbrev pub outcome_number : Outcome → ℕ
outcome_number outcome.Refused = 0
outcome_number outcome.Moved = 1
outcome_number outcome.Finest = 2

-- The first numbers of lent memory replaced, and the later ones untouched.
unfoldable pub overwritten : List ℕ → List ℕ → List ℕ
overwritten new old = new ++ drop (length new) old

-- Lent memory after a call that answers a refusal number: as it was, unless the number is 0.
abbrev pub unless_refused : ℕ → List ℕ → List ℕ → List ℕ
unless_refused number after before = cond (eqb number 0) after before

-- Check returns only the refusal number or 0.
unfoldable pub check_number : List ℕ → ℕ
check_number file = first_no (check_questions file)

-- Pack, with the output slice that it is lent.
unfoldable pub pack_number : List ℕ → List ℕ → ℕ
pack_number file output = first_no (pack_questions file output)

unfoldable pub pack_output : List ℕ → List ℕ → List ℕ
pack_output file output = unless_refused (pack_number file output) (overwritten (packed file) output) output

-- Start, with the flow table that it is lent.
unfoldable pub start_number : List ℕ → List ℕ → ℕ
start_number file table = first_no (start_questions file table)

unfoldable pub start_table : List ℕ → List ℕ → List ℕ
start_table file table =
    unless_refused (start_number file table) (overwritten (started (network_of file)).table table) table

-- Audit puts questions to a table and a share.
unfoldable pub table_number : List ℕ → List ℕ → ℕ → ℕ
table_number file table share = first_no (table_questions file table share)

-- Audit returns the gap and cost of the table and how many links are over (A.4), and changes nothing.
unfoldable pub audit_answer : List ℕ → List ℕ → ℕ → AuditAnswer
audit_answer file table share =
    let g = network_of file in
    elim (table_number file table share) [
      | zero ↦ record { refusal = 0; gap = gap g share table; cost = cost g share table; over = over g share table }
      | suc number ↦ record { refusal = suc number; gap = 0; cost = 0; over = 0 }
    ]

-- What a pass answers of the move that it made of the judged table: moved or finest, and the new share.
abbrev pub pass_outcome : Option Shared → Outcome
pass_outcome none = outcome.Finest
pass_outcome (some x) = outcome.Moved

abbrev pub share_after : ℕ → Option Shared → ℕ
share_after share none = share
share_after share (some x) = x.share

abbrev pub table_after : List ℕ → Option Shared → List ℕ
table_after table none = table
table_after table (some x) = overwritten x.table table

abbrev pub note_after : List ℕ → List ℕ → Option Shared → List ℕ
note_after new note none = note
note_after new note (some x) = overwritten new note

-- Pass puts the same questions, and question 12 to the note that it is lent too (A.6).
unfoldable pub pass_number : List ℕ → List ℕ → ℕ → List ℕ → ℕ
pass_number file table share note = first_no (pass_questions file table share note)

-- Pass answers moved or finest, with the gap and cost of the judged table, the new share, and how many links of the judged table are over.
unfoldable pub pass_answer : List ℕ → List ℕ → ℕ → List ℕ → PassAnswer
pass_answer file table share note =
    let g = network_of file in
    elim (pass_number file table share note) [
      | zero ↦ let next = move g (record { table = table; share = share }) in
          record {
            refusal = 0;
            outcome = pass_outcome next;
            gap = gap g share table;
            cost = cost g share table;
            share = share_after share next;
            over = over g share table;
          }
      | suc number ↦ record { refusal = suc number; outcome = outcome.Refused; gap = 0; cost = 0; share = 0; over = 0 }
    ]

unfoldable pub pass_table : List ℕ → List ℕ → ℕ → List ℕ → List ℕ
pass_table file table share note =
    unless_refused (pass_number file table share note)
    (table_after table (move (network_of file) (record { table = table; share = share })))
    table

-- Pass fills the note where it moves the table (A.6); 'finest' leaves the note as it was.
unfoldable pub pass_note : List ℕ → List ℕ → ℕ → List ℕ → List ℕ
pass_note file table share note =
    let x : Shared = record { table = table; share = share } in
    unless_refused (pass_number file table share note) (note_after (note_of (network_of file) x) note (move (network_of file) x)) note

-- Taking back (A.6), with the note that it is handed, which it leaves as it was: it returns the resulting share.
unfoldable pub take_back_number : List ℕ → List ℕ → ℕ → List ℕ → ℕ
take_back_number file table share note = first_no (take_back_questions file table share note)

unfoldable pub take_back_answer : List ℕ → List ℕ → ℕ → List ℕ → TakeBackAnswer
take_back_answer file table share note =
    elim (take_back_number file table share note) [
      | zero ↦ record { refusal = 0; share = (taken_back (network_of file) (record { table = table; share = share }) note).share }
      | suc number ↦ record { refusal = suc number; share = 0 }
    ]

unfoldable pub take_back_table : List ℕ → List ℕ → ℕ → List ℕ → List ℕ
take_back_table file table share note =
    unless_refused (take_back_number file table share note)
    (overwritten (taken_back (network_of file) (record { table = table; share = share }) note).table table)
    table

-- A run puts the questions of a start, and question 13 to its budget.
unfoldable pub run_number : List ℕ → List ℕ → ℕ → ℕ
run_number file table budget = first_no (run_questions file table budget)

-- How a run that judged this table last ended: gap at most excess × W × T, 'reached'; otherwise no move, 'finest'; otherwise the budget is
-- used up, 'spent'.
unfoldable pub ending_at : Network → ℕ → Shared → Ending
ending_at g excess x = cond (reaches g excess x) ending.Reached (cond (moves (move g x)) ending.Spent ending.Finest)

-- A run returns ending, tables judged, W, gap and cost of the last judged table, which stands in the first p·m numbers, and how many links of
-- that table are over.
unfoldable pub run_answer : List ℕ → List ℕ → ℕ → ℕ → RunAnswer
run_answer file table budget excess =
    let g = network_of file in
    elim (run_number file table budget) [
      | zero ↦ let x = last_judged g budget excess in
          record {
            refusal = 0;
            ending = ending_at g excess x;
            judged = judged g budget excess;
            share = x.share;
            gap = gap g x.share x.table;
            cost = cost g x.share x.table;
            over = over g x.share x.table;
          }
      | suc number ↦ record { refusal = suc number; ending = ending.Refused; judged = 0; share = 0; gap = 0; cost = 0; over = 0 }
    ]

unfoldable pub run_table : List ℕ → List ℕ → ℕ → ℕ → List ℕ
run_table file table budget excess =
    unless_refused (run_number file table budget) (overwritten (last_judged (network_of file) budget excess).table table) table

-- Page (A.1), with the page slice that it is lent: the page of a table that the audit accepts. It returns only the refusal number or 0.
unfoldable pub page_number : List ℕ → List ℕ → ℕ → List ℕ → ℕ
page_number file table share page = first_no (page_questions file table share page)

unfoldable pub page_slice : List ℕ → List ℕ → ℕ → List ℕ → List ℕ
page_slice file table share page =
    unless_refused (page_number file table share page) (overwritten (page_of (network_of file) share table) page) page
