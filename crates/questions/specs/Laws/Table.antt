-- Questions 14 to 16, then 20: the number that they come to, and what the code's tests say of them.
use Rattle.std.specs.Prelude.{ℕ, ◌*◌, ◌≤◌, ◌≡◌, true, false, List, length}
use Rattle.std.proofs.Common.{mul-le-mul, ◌∙◌, ap, leb-true}
use Rattle.std.proofs.Math.Path.{refl, sym, ap₂}
use Rattle.std.proofs.Math.ListN.{get_or}
use Rattle.std.proofs.Math.Dec.{leb}
use Rattle.study.specs.Questions.{first_no}
use Rattle.theory.specs.Network.{total_trips}
use Rattle.theory.specs.Flows.{link_total, totals_fit, conserves}
use Rattle.theory.specs.Study.{network}
use Rattle.theory.specs.Laws.Finite.{all-cong, and_right}
use Rattle.calls.specs.Questions.{share_fits, share_questions}
use Rattle.travel.specs.Links.{padded, list_fits}
use Rattle.travel.specs.Laws.Padded.{get_d-padded}
use Rattle.questions.specs.Rows.{rows_conserve, rows_permit}
use Rattle.questions.specs.Laws.Rows.{permits-is}

-- A share that passes question 14 is at most 1,024.
pub share-most : (share : ℕ) → share_fits share ≡ true → share ≤ 1024
unfolding share_fits
share-most share e = leb-true share 1024 (and_right (leb 1 share) (leb share 1024) e)

-- The limit of question 15 fits 64 bits.
pub limit-fits : (share : ℕ) {total : ℕ} → share_fits share ≡ true → total ≤ 65535 → share * total ≤ 67107840
limit-fits share in-range few = mul-le-mul {n₂ = 1024} {m₂ = 65535} (share-most share in-range) few

module _ (n : ℕ) (links : List (List ℕ)) (commodities trips table : List ℕ) (share : ℕ) where
  abbrev refusal : ℕ
  refusal = first_no (share_questions (network n links commodities trips) table share)

  pub refused-14 : share_fits share ≡ false → 14 ≡ refusal
  unfolding share_questions
  refused-14 e = rw e

  module _ (in-range : share_fits share ≡ true) {total : ℕ} (total-is : total ≡ total_trips (network n links commodities trips))
      {totals : List ℕ} (totals-are : totals ≡ padded (length links) (link_total (length commodities) (length links) table)) where
    fits-is : list_fits (length links) totals (share * total) ≡ totals_fit (network n links commodities trips) share table
    unfolding list_fits totals_fit network
    fits-is =
        all-cong (length links) _ _ (λ l h.
        ap₂ (λ flow limit. leb flow (share * limit))
        (ap (λ xs. get_or xs l 0) totals-are ∙ get_d-padded (length links) _ l h)
        total-is)

    pub refused-15 : list_fits (length links) totals (share * total) ≡ false → 15 ≡ refusal
    unfolding share_questions
    refused-15 e = rw (in-range, sym fits-is ∙ e)

    module _ (fit : list_fits (length links) totals (share * total) ≡ true) where
      rows_is : rows_conserve n links commodities trips share table ≡ conserves (network n links commodities trips) share table
      unfolding rows_conserve conserves network
      rows_is = refl

      pub refused-16 : rows_conserve n links commodities trips share table ≡ false → 16 ≡ refusal
      unfolding share_questions
      refused-16 e = rw (in-range, sym fits-is ∙ fit, sym rows_is ∙ e)

      module _ (conserve : rows_conserve n links commodities trips share table ≡ true) where
        pub refused-20 : rows_permit links commodities table ≡ false → 20 ≡ refusal
        unfolding share_questions
        refused-20 e = rw (in-range, sym fits-is ∙ fit, sym rows_is ∙ conserve, sym (permits-is n links commodities trips table) ∙ e)

        pub accepted : rows_permit links commodities table ≡ true → 0 ≡ refusal
        unfolding share_questions
        accepted e = rw (in-range, sym fits-is ∙ fit, sym rows_is ∙ conserve, sym (permits-is n links commodities trips table) ∙ e)
