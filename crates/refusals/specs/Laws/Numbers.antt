-- The numbers of the calls, one group of questions after the other, as the code puts them.
use Rattle.std.specs.Prelude.{ℕ, ◌≤◌, ◌<◌, ◌≡◌, cond, List, length, eqb}
use Rattle.std.proofs.Common.{◌∙◌}
use borrow.Author.Tests.{ne_eqb, le-leb, lt-leb}
use Rattle.study.specs.Questions.{first_no}
use Rattle.theory.specs.Moves.{table_size}
use Rattle.theory.specs.Notes.{note_size}
use Rattle.calls.specs.Study.{network_of}
use Rattle.calls.specs.Questions.{share_questions, table_holds, note_holds, budget_fits}
use Rattle.calls.specs.Calls.{check_number, start_number, run_number, table_number, pass_number}
use Rattle.calls.specs.Laws.Questions.{start-number, run-number, table-number, pass-number}

-- A choice by a number that is not 0, and by one that is.
when-not : (a b number : ℕ) → (number ≡ 0 → ⊥) → cond (eqb number 0) a b ≡ b
when-not a b number p = rw (ne_eqb number 0 p)

when-zero : (a b number : ℕ) → number ≡ 0 → cond (eqb number 0) a b ≡ a
when-zero a b number e = rw e

module _ (file : List ℕ) where
  module _ (table : List ℕ) where
    -- Start: as check, and then question 12.
    pub start-checked : (check_number file ≡ 0 → ⊥) → start_number file table ≡ check_number file
    start-checked p = start-number file table ∙ when-not (cond (table_holds (network_of file) table) 0 12) (check_number file) (check_number file) p

    pub start-short : check_number file ≡ 0 → length table < table_size (network_of file) → start_number file table ≡ 12
    unfolding table_holds
    start-short e short = rw (start-number file table, e, lt-leb (table_size (network_of file)) (length table) short)

    pub start-long : check_number file ≡ 0 → table_size (network_of file) ≤ length table → start_number file table ≡ 0
    unfolding table_holds
    start-long e long = rw (start-number file table, e, le-leb (table_size (network_of file)) (length table) long)

    -- Run: as start, and then question 13.
    pub run-started : (budget : ℕ) → (start_number file table ≡ 0 → ⊥) → run_number file table budget ≡ start_number file table
    run-started budget p = run-number file table budget ∙ when-not (cond (budget_fits budget) 0 13) (start_number file table) (start_number file table) p

    pub run-budget : (budget : ℕ) → start_number file table ≡ 0 → run_number file table budget ≡ cond (budget_fits budget) 0 13
    run-budget budget e = run-number file table budget ∙ when-zero (cond (budget_fits budget) 0 13) (start_number file table) (start_number file table) e

    -- Audit: as start, and then questions 14 to 16 and 20.
    pub table-started : (share : ℕ) → (start_number file table ≡ 0 → ⊥) → table_number file table share ≡ start_number file table
    table-started share p = table-number file table share ∙ when-not (first_no (share_questions (network_of file) table share)) (start_number file table) (start_number file table) p

    pub table-shared : (share : ℕ) → start_number file table ≡ 0 → table_number file table share ≡ first_no (share_questions (network_of file) table share)
    table-shared share e = table-number file table share ∙ when-zero (first_no (share_questions (network_of file) table share)) (start_number file table) (start_number file table) e

    -- Pass: as audit where the note is long enough, and otherwise as start, and then 12.
    module _ (share : ℕ) (note : List ℕ) where
      pub pass-long : note_size (network_of file) ≤ length note → pass_number file table share note ≡ table_number file table share
      unfolding note_holds
      pass-long long = rw (pass-number file table share note, le-leb (note_size (network_of file)) (length note) long)

      pub pass-short : length note < note_size (network_of file) → start_number file table ≡ 0 → pass_number file table share note ≡ 12
      unfolding note_holds
      pass-short short e = rw (pass-number file table share note, lt-leb (note_size (network_of file)) (length note) short, e)

      pub pass-started : length note < note_size (network_of file) → (start_number file table ≡ 0 → ⊥) → pass_number file table share note ≡ start_number file table
      unfolding note_holds
      pass-started short p =
          rw (pass-number file table share note, lt-leb (note_size (network_of file)) (length note) short)
          (when-not 12 (start_number file table) (start_number file table) p)
