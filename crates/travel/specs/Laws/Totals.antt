-- A link's total, row by row.
use Rattle.std.specs.Prelude.{◌≡◌, ℕ, ◌+◌, ◌*◌, ◌≤◌, List, slice_index}
use Rattle.std.proofs.Math.Path.{refl}
use Rattle.theory.specs.Finite.{sum}
use Rattle.theory.specs.Flows.{link_total, entry}
use Rattle.theory.specs.Laws.Finite.{sum-suc, sum_bound}

module _ (m : ℕ) (table : List ℕ) (l : ℕ) where
  pub link_total-none : link_total 0 m table l ≡ 0
  unfolding link_total sum
  link_total-none = refl

  pub link_total-more : (k : ℕ) → link_total (k + 1) m table l ≡ link_total k m table l + slice_index table (k * m + l)
  unfolding link_total
  link_total-more k = sum-suc k (λ i. entry m table i l)

  pub link_total-most : (k most : ℕ) → ((i : ℕ) → slice_index table i ≤ most) → link_total k m table l ≤ k * most
  unfolding link_total
  link_total-most k most h = sum_bound k most (λ i. entry m table i l) (λ i p. h (i * m + l))
