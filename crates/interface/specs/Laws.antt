-- A refusal carries 0 in every number but its own (document 01, 'The questions, in order').
use Rattle.std.specs.Prelude.{ℕ, suc, ◌≡◌, List, [], ◌∷◌}
use Rattle.std.proofs.Common.{ap}
use Rattle.calls.specs.Calls.{table_number, pass_number, take_back_number, run_number, audit_answer, pass_answer, take_back_answer, run_answer}
use Rattle.calls.specs.Laws.Calls.{audit-refused, pass-refused, take-back-refused, run-refused}
use Rattle.interface.specs.Numbers.{audit_numbers, pass_numbers, run_numbers, take_back_numbers}

module _ (file table : List ℕ) where
  pub refused-pass : (share : ℕ) (note : List ℕ) (number : ℕ) → pass_number file table share note ≡ suc number
      → pass_numbers (pass_answer file table share note) ≡ 0 ∷ 0 ∷ 0 ∷ 0 ∷ 0 ∷ []
  refused-pass share note number e = ap pass_numbers (pass-refused file table share note number e)

  pub refused-take-back : (share : ℕ) (note : List ℕ) (number : ℕ) → take_back_number file table share note ≡ suc number
      → take_back_numbers (take_back_answer file table share note) ≡ 0 ∷ []
  refused-take-back share note number e = ap take_back_numbers (take-back-refused file table share note number e)

  pub refused-run : (budget excess number : ℕ) → run_number file table budget ≡ suc number → run_numbers (run_answer file table budget excess) ≡ 0 ∷ 0 ∷ 0 ∷ 0 ∷ 0 ∷ 0 ∷ []
  refused-run budget excess number e = ap run_numbers (run-refused file table budget excess number e)

  pub refused-audit : (share number : ℕ) → table_number file table share ≡ suc number → audit_numbers (audit_answer file table share) ≡ 0 ∷ 0 ∷ 0 ∷ []
  refused-audit share number e = ap audit_numbers (audit-refused file table share number e)
