-- The answers and tables of the calls, by what their questions answer.
use Rattle.std.specs.Prelude.{ℕ, suc, ◌≡◌, List}
use Rattle.std.proofs.Math.Option.{Option}
use Rattle.std.proofs.Common.{ne_eqb}
use Rattle.theory.specs.Flows.{over}
use Rattle.theory.specs.Cost.{cost, gap}
use Rattle.theory.specs.Moves.{Shared, started, move, judged, last_judged}
use Rattle.theory.specs.Notes.{note_of, taken_back}
use Rattle.calls.specs.Study.{network_of}
use Rattle.calls.specs.Pack.{packed}
use Rattle.calls.specs.Page.{page_of}
use Rattle.calls.specs.declared.Ending.TheVariants as ending
use Rattle.calls.specs.declared.Outcome.TheVariants as outcome
use Rattle.calls.specs.declared.RunAnswer.{RunAnswer}
use Rattle.calls.specs.declared.PassAnswer.{PassAnswer}
use Rattle.calls.specs.declared.AuditAnswer.{AuditAnswer}
use Rattle.calls.specs.declared.TakeBackAnswer.{TakeBackAnswer}
use Rattle.calls.specs.Calls.{overwritten, unless_refused, pack_number, pack_output, start_number, start_table, table_number, audit_answer, pass_outcome, share_after, table_after, note_after, pass_number, pass_answer, pass_table, pass_note}
use Rattle.calls.specs.Calls.{run_number, ending_at, run_answer, run_table, page_number, page_slice, take_back_number, take_back_answer, take_back_table}

-- A refusal: its number, and 0 in every other field.
abbrev pub refused_audit : ℕ → AuditAnswer
refused_audit number = record { refusal = number; gap = 0; cost = 0; over = 0 }

abbrev pub refused_pass : ℕ → PassAnswer
refused_pass number = record { refusal = number; outcome = outcome.Refused; gap = 0; cost = 0; share = 0; over = 0 }

abbrev pub refused_take_back : ℕ → TakeBackAnswer
refused_take_back number = record { refusal = number; share = 0 }

abbrev pub refused_run : ℕ → RunAnswer
refused_run number = record { refusal = number; ending = ending.Refused; judged = 0; share = 0; gap = 0; cost = 0; over = 0 }

-- Lent memory after a call, by its number.
pub kept : (number : ℕ) (after before : List ℕ) → (number ≡ 0 → ⊥) → unless_refused number after before ≡ before
kept number after before refused = rw (ne_eqb number 0 refused)

pub written : (number : ℕ) (after before : List ℕ) → number ≡ 0 → unless_refused number after before ≡ after
written number after before e = rw e

module _ (file table : List ℕ) (share : ℕ) where
  -- An audit that is accepted, and refused.
  pub audit-accepted : table_number file table share ≡ 0 → audit_answer file table share ≡ record { refusal = 0; gap = gap (network_of file) share table; cost = cost (network_of file) share table; over = over (network_of file) share table }
  unfolding audit_answer
  audit-accepted e = rw (e, audit_answer)

  pub audit-refused : (number : ℕ) → table_number file table share ≡ suc number → audit_answer file table share ≡ refused_audit (suc number)
  unfolding audit_answer
  audit-refused number e = rw (e, audit_answer)

module _ (file table : List ℕ) (share : ℕ) (note : List ℕ) where
  abbrev judged_table : Shared
  judged_table = record { table = table; share = share }

  abbrev next_of : Option Shared
  next_of = move (network_of file) judged_table

  -- What a pass and a taking back that are accepted write, and what such a taking back answers (what such a pass answers: proofs/Accepted.antt),
  pub pass-table : pass_number file table share note ≡ 0 → pass_table file table share note ≡ table_after table next_of
  unfolding pass_table
  pass-table e = written (pass_number file table share note) (table_after table next_of) table e

  pub pass-note : pass_number file table share note ≡ 0 → pass_note file table share note ≡ note_after (note_of (network_of file) judged_table) note next_of
  unfolding pass_note
  pass-note e = written (pass_number file table share note) (note_after (note_of (network_of file) judged_table) note next_of) note e

  pub take-back-accepted : take_back_number file table share note ≡ 0
      → take_back_answer file table share note ≡ record { refusal = 0; share = (taken_back (network_of file) judged_table note).share }
  unfolding take_back_answer
  take-back-accepted e = rw (e, take_back_answer)

  pub take-back-written : take_back_number file table share note ≡ 0
      → take_back_table file table share note ≡ overwritten (taken_back (network_of file) judged_table note).table table
  unfolding take_back_table
  take-back-written e = written (take_back_number file table share note) (overwritten (taken_back (network_of file) judged_table note).table table) table e

  -- and refused.
  pub pass-refused : (number : ℕ) → pass_number file table share note ≡ suc number → pass_answer file table share note ≡ refused_pass (suc number)
  unfolding pass_answer
  pass-refused number e = rw (e, pass_answer)

  pub pass_kept : (pass_number file table share note ≡ 0 → ⊥) → pass_table file table share note ≡ table
  unfolding pass_table
  pass_kept refused = kept (pass_number file table share note) (table_after table next_of) table refused

  pub note-kept : (pass_number file table share note ≡ 0 → ⊥) → pass_note file table share note ≡ note
  unfolding pass_note
  note-kept refused = kept (pass_number file table share note) (note_after (note_of (network_of file) judged_table) note next_of) note refused

  pub take-back-refused : (number : ℕ) → take_back_number file table share note ≡ suc number → take_back_answer file table share note ≡ refused_take_back (suc number)
  unfolding take_back_answer
  take-back-refused number e = rw (e, take_back_answer)

  pub take-back-kept : (take_back_number file table share note ≡ 0 → ⊥) → take_back_table file table share note ≡ table
  unfolding take_back_table
  take-back-kept refused = kept (take_back_number file table share note) (overwritten (taken_back (network_of file) judged_table note).table table) table refused

-- A start that is accepted, and refused.
pub start-written : (file table : List ℕ) → start_number file table ≡ 0 → start_table file table ≡ overwritten (started (network_of file)).table table
unfolding start_table
start-written file table e = written (start_number file table) (overwritten (started (network_of file)).table table) table e

pub start-kept : (file table : List ℕ) → (start_number file table ≡ 0 → ⊥) → start_table file table ≡ table
unfolding start_table
start-kept file table refused = kept (start_number file table) (overwritten (started (network_of file)).table table) table refused

module _ (file table : List ℕ) (budget excess : ℕ) where
  abbrev last : Shared
  last = last_judged (network_of file) budget excess

  -- A run that is accepted, and refused.
  pub run-accepted : run_number file table budget ≡ 0
      → run_answer file table budget excess
      ≡ record {
        refusal = 0;
        ending = ending_at (network_of file) excess last;
        judged = judged (network_of file) budget excess;
        share = last.share;
        gap = gap (network_of file) last.share last.table;
        cost = cost (network_of file) last.share last.table;
        over = over (network_of file) last.share last.table;
      }
  unfolding run_answer
  run-accepted e = rw (e, run_answer)

  pub run-written : run_number file table budget ≡ 0 → run_table file table budget excess ≡ overwritten last.table table
  unfolding run_table
  run-written e = written (run_number file table budget) (overwritten last.table table) table e

  pub run-refused : (number : ℕ) → run_number file table budget ≡ suc number → run_answer file table budget excess ≡ refused_run (suc number)
  unfolding run_answer
  run-refused number e = rw (e, run_answer)

  pub run-kept : (run_number file table budget ≡ 0 → ⊥) → run_table file table budget excess ≡ table
  unfolding run_table
  run-kept refused = kept (run_number file table budget) (overwritten last.table table) table refused

-- A pack that is accepted, and refused.
pub pack-written : (file output : List ℕ) → pack_number file output ≡ 0 → pack_output file output ≡ overwritten (packed file) output
unfolding pack_output
pack-written file output e = written (pack_number file output) (overwritten (packed file) output) output e

pub pack-kept : (file output : List ℕ) → (pack_number file output ≡ 0 → ⊥) → pack_output file output ≡ output
unfolding pack_output
pack-kept file output refused = kept (pack_number file output) (overwritten (packed file) output) output refused

-- A page that is accepted, and refused.
module _ (file table : List ℕ) (share : ℕ) (page : List ℕ) where
  pub page-written : page_number file table share page ≡ 0 → page_slice file table share page ≡ overwritten (page_of (network_of file) share table) page
  unfolding page_slice
  page-written e = written (page_number file table share page) (overwritten (page_of (network_of file) share table) page) page e

  pub page-kept : (page_number file table share page ≡ 0 → ⊥) → page_slice file table share page ≡ page
  unfolding page_slice
  page-kept refused = kept (page_number file table share page) (overwritten (page_of (network_of file) share table) page) page refused
