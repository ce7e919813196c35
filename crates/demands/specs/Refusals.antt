-- Demand 1: the first question that fails gives the number, and a refusal has 0 in every other field and leaves lent memory as it was.
use Rattle.std.specs.Prelude.{ℕ, zero, suc, ◌≡◌, refl, false, List, [], ◌∷◌, ◌++◌}
use Rattle.study.specs.Questions.{Question, first_no}
use Rattle.study.specs.Laws.{AllYes}
use Rattle.calls.specs.Calls.{start_number, start_table, table_number, audit_answer, run_number, run_answer, run_table}
use Rattle.calls.specs.Calls.{pass_number, pass_answer, pass_table, pass_note, take_back_number, take_back_answer, take_back_table}
use Rattle.calls.specs.Laws.Calls.{refused_audit, refused_pass, refused_take_back, refused_run, start-kept, audit-refused, pass-refused, pass_kept, note-kept, take-back-refused, take-back-kept, run-refused, run-kept}

-- Where every question before it is answered yes and it is answered no, its number is the list's.
pub first-failing : (before : List Question) (question : Question) (after : List Question) → AllYes before → question.yes ≡ false → first_no (before ++ question ∷ after) ≡ question.number
first-failing [] question after all_yes e = rw e
first-failing (q ∷ before) question after all_yes e = rw all_yes.0 (first-failing before question after all_yes.1 e)

-- What a refused call answers, and what it leaves in the memory that it is lent.
pub record PassRefused (file table : List ℕ) (share : ℕ) (note : List ℕ) : Type 0 where
  pub answer : pass_answer file table share note ≡ refused_pass (pass_number file table share note)
  pub unchanged : pass_table file table share note ≡ table
  pub note-unchanged : pass_note file table share note ≡ note

pub record TakeBackRefused (file table : List ℕ) (share : ℕ) (note : List ℕ) : Type 0 where
  pub answer : take_back_answer file table share note ≡ refused_take_back (take_back_number file table share note)
  pub unchanged : take_back_table file table share note ≡ table

pub record RunRefused (file table : List ℕ) (budget excess : ℕ) : Type 0 where
  pub answer : run_answer file table budget excess ≡ refused_run (run_number file table budget)
  pub unchanged : run_table file table budget excess ≡ table

-- A number that is not 0 is a successor, and of a successor the calls' laws say what is answered.
pub refused-answer : {Answer : Type 0} (answer : Answer) (refusal : ℕ → Answer) (number : ℕ) → ((n : ℕ) → number ≡ suc n → answer ≡ refusal (suc n)) → (number ≡ 0 → ⊥)
    → answer ≡ refusal number
refused-answer answer refusal zero successor refused = absurd (refused refl)
refused-answer answer refusal (suc n) successor refused = successor n refl

module _ (file table : List ℕ) where
  pub refused-start : (start_number file table ≡ 0 → ⊥) → start_table file table ≡ table
  refused-start = start-kept file table

  pub refused-audit : (share : ℕ) → (table_number file table share ≡ 0 → ⊥) → audit_answer file table share ≡ refused_audit (table_number file table share)
  refused-audit share = refused-answer (audit_answer file table share) refused_audit (table_number file table share) (audit-refused file table share)

  pub refused-pass : (share : ℕ) (note : List ℕ) → (pass_number file table share note ≡ 0 → ⊥) → PassRefused file table share note
  refused-pass share note refused =
      record {
        answer = refused-answer (pass_answer file table share note) refused_pass (pass_number file table share note) (pass-refused file table share note) refused;
        unchanged = pass_kept file table share note refused;
        note-unchanged = note-kept file table share note refused;
      }

  pub refused-take-back : (share : ℕ) (note : List ℕ) → (take_back_number file table share note ≡ 0 → ⊥) → TakeBackRefused file table share note
  refused-take-back share note refused =
      record {
        answer = refused-answer (take_back_answer file table share note) refused_take_back (take_back_number file table share note) (take-back-refused file table share note) refused;
        unchanged = take-back-kept file table share note refused;
      }

  pub refused-run : (budget excess : ℕ) → (run_number file table budget ≡ 0 → ⊥) → RunRefused file table budget excess
  refused-run budget excess refused =
      record {
        answer = refused-answer (run_answer file table budget excess) refused_run (run_number file table budget) (run-refused file table budget excess) refused;
        unchanged = run-kept file table budget excess refused;
      }
