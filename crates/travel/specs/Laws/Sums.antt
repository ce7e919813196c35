-- The sums of a row's flows by node, link by link.
use Rattle.std.specs.Prelude.{◌≡◌, ℕ, ◌+◌, ◌*◌, ◌<◌, ◌≤◌, Bool, true, false, cond, List, ◌==◌, slice_index, slice_index_or, slice_set}
use Rattle.std.proofs.Common.{arith, ◌∙◌, ap, get_or-set_same, get_or-set_other, eqb-true, ne_eqb}
use Rattle.std.proofs.Math.Path.{refl, sym}
use Rattle.std.proofs.Math.Logic.{⊎_elim}
use Rattle.std.proofs.Math.ListN.{length-set, get_or-eq_default}
use Rattle.std.proofs.lemmas.Bool.{eqb-false}
use Rattle.theory.specs.Finite.{sum}
use Rattle.theory.specs.Study.{column}
use Rattle.theory.specs.Flows.{sum_at}
use Rattle.theory.specs.Laws.Finite.{order, sum-suc, sum-zero, sum_bound}
use Rattle.travel.specs.Ranges.{ClearPast, SumsAt}

-- A number counted or not is no more than it is.
counted-most : (b : Bool) (x most : ℕ) → x ≤ most → cond b x 0 ≤ most
counted-most true x most h = h
counted-most false x most h = omega arith

module _ (links : List (List ℕ)) (end : ℕ) (row : List ℕ) where
  pub sums_none : (sums : List ℕ) → ClearPast 128 0 sums → SumsAt 0 links end row sums
  unfolding sum_at sum
  sums_none sums clear = record { size = clear.size; at = λ j p. clear.rest j (omega arith) }

  pub sums-most : (l most j : ℕ) → ((i : ℕ) → slice_index row i ≤ most) → sum_at l (column end links) j (λ i. slice_index row i) ≤ l * most
  unfolding sum_at
  sums-most l most j h =
      sum_bound l most (λ i. cond (column end links i == j) (slice_index row i) 0) (λ i p. counted-most (column end links i == j) (slice_index row i) most (h i))

  pub sums-more : (l : ℕ) (sums : List ℕ) → column end links l < 128 → SumsAt l links end row sums →
      SumsAt (l + 1) links end row (slice_set sums (column end links l) (slice_index sums (column end links l) + slice_index row l))
  unfolding sum_at
  sums-more l sums h so_far =
      record {
        size = length-set sums node x ∙ so_far.size;
        at = λ j p. one j p (node == j) refl ∙ sym (sum-suc l (term j));
      }
    where
      node : ℕ
      node = column end links l

      x : ℕ
      x = slice_index sums node + slice_index row l

      term : ℕ → ℕ → ℕ
      term j i = cond (column end links i == j) (slice_index row i) 0

      one : (j : ℕ) → j < 128 → (b : Bool) → (node == j) ≡ b → slice_index (slice_set sums node x) j ≡ sum l (term j) + term j l
      one j p true e =
          let same : node ≡ j = eqb-true node j e in
          let this : term j l ≡ slice_index_or row l 0 = rw e in
          let new : slice_index_or (slice_set sums node x) j 0 ≡ x = rw (← same) (get_or-set_same sums node x 0 (omega (arith, so_far.size))) in
          let old : slice_index_or sums node 0 ≡ sum l (term j) = ap (λ i. slice_index sums i) same ∙ so_far.at j p in
          omega arith
      one j p false e =
          let this : term j l ≡ 0 = rw e in
          let kept = get_or-set_other sums node j x 0 (λ q. eqb-false node j e (sym q)) in
          omega (arith, kept, so_far.at j p)

  -- No link has its end past the nodes, so nothing is added there.
  pub sums-past : (m nodes : ℕ) (sums : List ℕ) → ((l : ℕ) → l < m → column end links l < nodes) → SumsAt m links end row sums → ClearPast 128 nodes sums
  unfolding sum_at
  sums-past m nodes sums ends all =
      record {
        size = all.size;
        rest = λ j p.
            ⊎_elim (λ q. all.at j q ∙ sum-zero m _ (λ l h. rw (ne_eqb (column end links l) j (λ e. omega (arith, ends l h)))))
            (λ q. get_or-eq_default sums 0 (omega (arith, all.size)))
            (order j 128);
      }
