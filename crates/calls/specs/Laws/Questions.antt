-- What the numbers of the calls say of the questions: a call answers 0 exactly where every question of its list is answered yes.
use Rattle.std.specs.Prelude.{ℕ, ◌≡◌, Bool, ◌&&◌}
use Rattle.std.proofs.Common.{arith}
use Rattle.std.proofs.Math.Path.{refl}
use Rattle.std.proofs.Math.Bool.{true, false, cond}
use mathlib.Core.List.{List, [], ◌∷◌, ◌++◌}
use Rattle.std.proofs.Math.Dec.{eqb}
use Rattle.std.proofs.lemmas.Bool.{eqb-false}
use Rattle.study.specs.Sections.{nodes, closed_part, barred_part}
use Rattle.study.specs.Questions.{Question, first_no, opening, refusal}
use Rattle.study.specs.Laws.{numbered, numbered-append, first_no-append, first_no-both, all_yes, no-refusal, AllYes, opening-both, after-opening, opening-numbered}
use Rattle.theory.specs.Flows.{totals_fit, conserves, permits}
use Rattle.theory.specs.Moves.{Shared}
use Rattle.theory.specs.Notes.{note_leads, can_take_back}
use Rattle.calls.specs.Study.{link_rows, destination_nodes, commodities, trip_entries, network_of}
use Rattle.calls.specs.Questions.{ends_fit, times_fit, destinations_fit, marks_fit, no_trips_within, total_fits, trips_reach, table_holds, note_holds, budget_fits, share_fits, output_holds, page_holds}
use Rattle.calls.specs.Questions.{ask, study_questions, share_questions, check_questions, pack_questions, start_questions, run_questions, table_questions, page_questions, note_questions, pass_questions, take_back_questions}
use Rattle.calls.specs.Calls.{check_number, pack_number, start_number, run_number, table_number, page_number, pass_number, take_back_number}

-- A study that passes questions 1 to 10, 19 and 23 among them.
pub record Described (file : List ℕ) : Type 0 where
  pub opened : refusal file ≡ 0
  pub ends : ends_fit (network_of file) ≡ true
  pub fields : times_fit (link_rows file) ≡ true
  pub ascending : destinations_fit (nodes file) (destination_nodes file) ≡ true
  pub closed-fit : marks_fit (closed_part file) ≡ true
  pub barred-fit : marks_fit (barred_part file) ≡ true
  pub none_within : no_trips_within (network_of file) ≡ true
  pub few : total_fits (network_of file) ≡ true

-- A study that passes questions 1 to 11.
pub record Passed (file : List ℕ) : Type 0 where
  pub described : Described file
  pub reaching : trips_reach (network_of file) ≡ true

-- A table and a share that pass questions 14 to 16 and 20.
pub record SharePassed (file table : List ℕ) (share : ℕ) : Type 0 where
  pub share-fits : share_fits share ≡ true
  pub totals-fit : totals_fit (network_of file) share table ≡ true
  pub conserving : conserves (network_of file) share table ≡ true
  pub permitting : permits (network_of file) table ≡ true

-- Questions 6 to 11 of a file, with 19 and 23.
abbrev questions_of : List ℕ → List Question
questions_of file =
    study_questions (nodes file) (link_rows file) (destination_nodes file) (closed_part file) (barred_part file) (commodities file) (trip_entries file)

check-numbered : (file : List ℕ) → numbered (check_questions file) ≡ true
unfolding check_questions study_questions
check-numbered file = numbered-append (opening file) (questions_of file) (opening-numbered file) refl

start-numbered : (file table : List ℕ) → numbered (start_questions file table) ≡ true
unfolding start_questions
start-numbered file table =
    numbered-append (check_questions file) (ask 12 (table_holds (network_of file) table) ∷ []) (check-numbered file) refl

table-numbered : (file table : List ℕ) (share : ℕ) → numbered (table_questions file table share) ≡ true
unfolding table_questions share_questions
table-numbered file table share =
    numbered-append (start_questions file table) (share_questions (network_of file) table share) (start-numbered file table) refl

-- Check's number is 0 exactly where the study passes questions 1 to 11.
pub check-passed : (file : List ℕ) → check_number file ≡ 0 → Passed file
unfolding check_number check_questions study_questions network_of
check-passed file e =
    let parts = opening-both file (questions_of file) e in
    let yes' = all_yes (questions_of file) refl parts.1 in
    record {
      described =
          record {
            opened = parts.0;
            ends = yes'.0;
            fields = yes'.1.0;
            ascending = yes'.1.1.0;
            closed-fit = yes'.1.1.1.0;
            barred-fit = yes'.1.1.1.1.0;
            none_within = yes'.1.1.1.1.1.0;
            few = yes'.1.1.1.1.1.1.0;
          };
      reaching = yes'.1.1.1.1.1.1.1.0;
    }

-- Of a study that passes questions 1 to 10, check's number is 0 or 11, by question 11 alone.
pub described-check : (file : List ℕ) → Described file → check_number file ≡ cond (trips_reach (network_of file)) 0 11
unfolding check_number check_questions study_questions network_of
described-check file h =
    rw (after-opening file (questions_of file), h.opened)
    (rw (h.ends, h.fields, h.ascending, h.closed-fit, h.barred-fit, h.none_within, h.few))

pub passed-check : (file : List ℕ) → Passed file → check_number file ≡ 0
passed-check file h = rw (described-check file h.described, h.reaching)

-- The numbers of the other calls, from check's: a call refuses a study as check does, and puts its own questions after.
pub start-number : (file table : List ℕ) → start_number file table ≡ cond (eqb (check_number file) 0) (cond (table_holds (network_of file) table) 0 12) (check_number file)
unfolding start_number start_questions check_number
start-number file table = first_no-append (check_questions file) (ask 12 (table_holds (network_of file) table) ∷ []) (check-numbered file)

pub pack-number : (file output : List ℕ) → pack_number file output ≡ cond (eqb (check_number file) 0) (cond (output_holds file output) 0 17) (check_number file)
unfolding pack_number pack_questions check_number
pack-number file output = first_no-append (check_questions file) (ask 17 (output_holds file output) ∷ []) (check-numbered file)

pub run-number : (file table : List ℕ) (budget : ℕ) → run_number file table budget ≡ cond (eqb (start_number file table) 0) (cond (budget_fits budget) 0 13) (start_number file table)
unfolding run_number run_questions start_number
run-number file table budget = first_no-append (start_questions file table) (ask 13 (budget_fits budget) ∷ []) (start-numbered file table)

pub table-number : (file table : List ℕ) (share : ℕ) → table_number file table share ≡ cond (eqb (start_number file table) 0) (first_no (share_questions (network_of file) table share)) (start_number file table)
unfolding table_number table_questions start_number
table-number file table share = first_no-append (start_questions file table) (share_questions (network_of file) table share) (start-numbered file table)

pub page-number : (file table : List ℕ) (share : ℕ) (page : List ℕ) → page_number file table share page ≡ cond (eqb (table_number file table share) 0) (cond (page_holds (network_of file) page) 0 18) (table_number file table share)
unfolding page_number page_questions table_number
page-number file table share page =
    first_no-append (table_questions file table share) (ask 18 (page_holds (network_of file) page) ∷ []) (table-numbered file table share)

-- A start, a run, a pass, an audit and a page are accepted exactly where their questions are answered yes.
pub start-both : (file table : List ℕ) → start_number file table ≡ 0 → (check_number file ≡ 0) × (table_holds (network_of file) table ≡ true)
unfolding start_number start_questions check_number
start-both file table e =
    let parts = first_no-both (check_questions file) (ask 12 (table_holds (network_of file) table) ∷ []) (check-numbered file) e in
    (parts.0, (all_yes (ask 12 (table_holds (network_of file) table) ∷ []) refl parts.1).0)

pub both-start : (file table : List ℕ) → check_number file ≡ 0 → table_holds (network_of file) table ≡ true → start_number file table ≡ 0
both-start file table c t = rw (start-number file table, c, t)

pub run-both : (file table : List ℕ) (budget : ℕ) → run_number file table budget ≡ 0 → (start_number file table ≡ 0) × (budget_fits budget ≡ true)
unfolding run_number run_questions start_number
run-both file table budget e =
    let parts = first_no-both (start_questions file table) (ask 13 (budget_fits budget) ∷ []) (start-numbered file table) e in
    (parts.0, (all_yes (ask 13 (budget_fits budget) ∷ []) refl parts.1).0)

pub table-both : (file table : List ℕ) (share : ℕ) → table_number file table share ≡ 0 → (start_number file table ≡ 0) × SharePassed file table share
unfolding table_number table_questions start_number share_questions
table-both file table share e =
    let parts = first_no-both (start_questions file table) (share_questions (network_of file) table share) (start-numbered file table) e in
    let yes' = all_yes (share_questions (network_of file) table share) refl parts.1 in
    (parts.0, record { share-fits = yes'.0; totals-fit = yes'.1.0; conserving = yes'.1.1.0; permitting = yes'.1.1.1.0 })

share-yes : (file table : List ℕ) (share : ℕ) → SharePassed file table share → first_no (share_questions (network_of file) table share) ≡ 0
unfolding share_questions
share-yes file table share h = no-refusal (share_questions (network_of file) table share) (h.share-fits, (h.totals-fit, (h.conserving, (h.permitting, tt))))

pub both-table : (file table : List ℕ) (share : ℕ) → start_number file table ≡ 0 → SharePassed file table share → table_number file table share ≡ 0
both-table file table share s h = rw (table-number file table share, s) (share-yes file table share h)

pub page-both : (file table : List ℕ) (share : ℕ) (page : List ℕ) → page_number file table share page ≡ 0 → (table_number file table share ≡ 0) × (page_holds (network_of file) page ≡ true)
unfolding page_number page_questions table_number
page-both file table share page e =
    let parts = first_no-both (table_questions file table share) (ask 18 (page_holds (network_of file) page) ∷ []) (table-numbered file table share) e in
    (parts.0, (all_yes (ask 18 (page_holds (network_of file) page) ∷ []) refl parts.1).0)

pub both-page : (file table : List ℕ) (share : ℕ) (page : List ℕ) → table_number file table share ≡ 0 → page_holds (network_of file) page ≡ true → page_number file table share page ≡ 0
both-page file table share page t p = rw (page-number file table share page, t, p)

-- The number of a pass, from the audit's: a note that is too short is refused where a table that is too short would be.
module _ (file table : List ℕ) (share : ℕ) (note : List ℕ) where
  abbrev x : Shared
  x = record { table = table; share = share }

  note-numbered : numbered (note_questions file table note) ≡ true
  unfolding note_questions
  note-numbered =
      numbered-append (check_questions file) (ask 12 (table_holds (network_of file) table && note_holds (network_of file) note) ∷ [])
      (check-numbered file) refl

  pass-numbered : numbered (pass_questions file table share note) ≡ true
  unfolding pass_questions share_questions
  pass-numbered = numbered-append (note_questions file table note) (share_questions (network_of file) table share) note-numbered refl

  note-number : first_no (note_questions file table note) ≡ cond (eqb (start_number file table) 0) (cond (note_holds (network_of file) note) 0 12) (start_number file table)
  unfolding note_questions check_number
  note-number =
      rw (first_no-append (check_questions file) (ask 12 (table_holds (network_of file) table && note_holds (network_of file) note) ∷ []) (check-numbered file), start-number file table)
      (go (check_number file) (eqb (check_number file) 0) refl (table_holds (network_of file) table) (note_holds (network_of file) note))
    where
      go : (c : ℕ) (none : Bool) → eqb c 0 ≡ none → (a b : Bool)
          → cond none (cond (a && b) 0 12) c ≡ cond (eqb (cond none (cond a 0 12) c) 0) (cond b 0 12) (cond none (cond a 0 12) c)
      go c true e true b = refl
      go c true e false b = refl
      go c false e a b = rw e

  pub pass-number : pass_number file table share note ≡ cond (note_holds (network_of file) note) (table_number file table share) (cond (eqb (start_number file table) 0) 12 (start_number file table))
  unfolding pass_number pass_questions
  pass-number =
      rw (first_no-append (note_questions file table note) (share_questions (network_of file) table share) note-numbered, note-number, table-number file table share)
      (go (start_number file table) (eqb (start_number file table) 0) refl (note_holds (network_of file) note) (first_no (share_questions (network_of file) table share)))
    where
      go : (s : ℕ) (none : Bool) → eqb s 0 ≡ none → (b : Bool) (q : ℕ)
          → cond (eqb (cond none (cond b 0 12) s) 0) q (cond none (cond b 0 12) s) ≡ cond b (cond none q s) (cond none 12 s)
      go s true e true q = refl
      go s true e false q = refl
      go s false e true q = rw e
      go s false e false q = rw e

  pub take-back-number : take_back_number file table share note
      ≡ cond (eqb (pass_number file table share note) 0) (cond (note_leads (network_of file) note) (cond (can_take_back (network_of file) x note) 0 22) 21) (pass_number file table share note)
  unfolding take_back_number take_back_questions pass_number
  take-back-number =
      first_no-append (pass_questions file table share note)
      (ask 21 (note_leads (network_of file) note) ∷ ask 22 (can_take_back (network_of file) x note) ∷ [])
      pass-numbered

  -- They are accepted exactly where their questions are answered yes.
  pub pass-both : pass_number file table share note ≡ 0 → (table_number file table share ≡ 0) × (note_holds (network_of file) note ≡ true)
  pass-both e = go (note_holds (network_of file) note) (start_number file table) (rw pass-number at e)
    where
      go : (b : Bool) (s : ℕ) → cond b (table_number file table share) (cond (eqb s 0) 12 s) ≡ 0 → (table_number file table share ≡ 0) × (b ≡ true)
      go true s f = (f, refl)
      go false s f = short (eqb s 0) refl f
        where
          short : (none : Bool) → eqb s 0 ≡ none → cond none 12 s ≡ 0 → (table_number file table share ≡ 0) × (false ≡ true)
          short true z f = absurd (omega arith)
          short false z f = absurd (eqb-false s 0 z f)

  pub both-pass : table_number file table share ≡ 0 → note_holds (network_of file) note ≡ true → pass_number file table share note ≡ 0
  both-pass t b = rw (pass-number, b) t

  pub record TakenBack : Type 0 where
    pub passed : pass_number file table share note ≡ 0
    pub leads : note_leads (network_of file) note ≡ true
    pub can : can_take_back (network_of file) x note ≡ true

  pub take-back-passed : take_back_number file table share note ≡ 0 → TakenBack
  unfolding take_back_number take_back_questions pass_number
  take-back-passed e =
      let last = ask 21 (note_leads (network_of file) note) ∷ ask 22 (can_take_back (network_of file) x note) ∷ [] in
      let parts = first_no-both (pass_questions file table share note) last pass-numbered e in
      let yes' = all_yes last refl parts.1 in
      record { passed = parts.0; leads = yes'.0; can = yes'.1.0 }

  pub passed-take-back : TakenBack → take_back_number file table share note ≡ 0
  passed-take-back h = rw (take-back-number, h.passed, h.leads, h.can)
