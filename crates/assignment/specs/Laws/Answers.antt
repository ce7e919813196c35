-- What a call of a decoded file may judge, and what it answers and leaves.
use Rattle.std.specs.Prelude.{◌≡◌, ℕ, zero, suc, List, ◌≢◌, refl}
use Rattle.std.proofs.Common.{sym, ◌∙◌}
use Rattle.study.specs.Questions.{refusal}
use Rattle.theory.specs.Network.{Network}
use Rattle.theory.specs.Moves.{started}
use Rattle.theory.specs.Study.{network}
use Rattle.calls.specs.Calls.{overwritten, start_number, start_table, table_number, audit_answer, run_number, run_answer}
use Rattle.calls.specs.Laws.Calls.{refused_audit, refused_run, start-written, audit-accepted, audit-refused, run-refused}
use Rattle.calls.specs.Laws.Questions.{check-passed, start-both, run-both}
use Rattle.calls.specs.declared.AuditAnswer.{AuditAnswer}
use Rattle.judging.specs.declared.Sums.{Sums}
use Rattle.judging.specs.Judged.{Audited}
use Rattle.refusals.specs.Parts.{PartsOf}
use Rattle.refusals.specs.Laws.Parts.{network-is}

-- A refusal is the number of the first question that refuses, and 0 in every other field.
module _ (file table : List ℕ) where
  pub audit-refusal : (share number : ℕ) → number ≡ table_number file table share → (number ≢ 0) → refused_audit number ≡ audit_answer file table share
  audit-refusal share zero e refused = absurd (refused refl)
  audit-refusal share (suc number) e refused = sym (audit-refused file table share number (sym e))

  pub run-refusal : (budget excess number : ℕ) → number ≡ run_number file table budget → (number ≢ 0) → refused_run number ≡ run_answer file table budget excess
  run-refusal budget excess zero e refused = absurd (refused refl)
  run-refusal budget excess (suc number) e refused = sym (run-refused file table budget excess number (sym e))

-- An accepted run's file passes questions 1 to 5.
pub run-opened : (file table : List ℕ) (budget : ℕ) → run_number file table budget ≡ 0 → refusal file ≡ 0
run-opened file table budget e =
    (check-passed file (start-both file table (run-both file table budget e).0).0).described.opened

module _ (file table : List ℕ) {opening n : ℕ} {link_list : List (List ℕ)} {commodity_list entries : List ℕ}
    (parts : PartsOf file opening n link_list commodity_list entries) where
  abbrev g : Network
  g = network n link_list commodity_list entries

  -- What an accepted start leaves.
  pub start-leaves : (after : List ℕ) → start_number file table ≡ 0 → after ≡ overwritten (started g).table table → after ≡ start_table file table
  start-leaves after e written = written ∙ rw (network-is parts) (sym (start-written file table e))

  module _ (share : ℕ) (accepted : table_number file table share ≡ 0) where
    pub audit-answers : (sums : Sums) → Audited g table share sums
        → ◌≡◌ {A = AuditAnswer} (record { refusal = 0; gap = sums.gap; cost = sums.cost; over = sums.over }) (audit_answer file table share)
    audit-answers sums a = rw (a.gap_is, a.cost-is, a.over-is, network-is parts) (sym (audit-accepted file table share accepted))
