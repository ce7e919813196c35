-- Rows of eight marks, compared from the front.
use Rattle.std.specs.Prelude.{ℕ, ◌+◌, ◌-◌, ◌≤◌, ◌≡◌, List, get_or}
use Rattle.std.proofs.Common.{arith, ⊎_elim}
use Rattle.std.specs.Int.Bits.{bit_or, or_zero_l}
use Rattle.std.proofs.lemmas.Nat.{or_comm}
use Rattle.theory.specs.Laws.Bits.{or-grows}
use Rattle.theory.specs.Laws.Cases.{on-equal}
use Rattle.theory.specs.Laws.Finite.{order}
use Rattle.search.specs.Lanes.{Compared}

-- Marks are compared one by one.
module _ {row old : List ℕ} where
  -- A mark that is not above the old one has its fall joined to those before it.
  pub compared-more : {k c : ℕ} → Compared row old k c → get_or row k 0 ≤ get_or old k 0 → Compared row old (k + 1) (bit_or c (get_or old k 0 - get_or row k 0))
  compared-more {k} {c} w h =
      record {
        none-lower = λ e i b.
            let all = or_most c (get_or old k 0 - get_or row k 0) in
            on-equal i k (λ same. rw same (omega (arith, all, e))) (λ away. w.none-lower (omega (arith, all, e)) i (omega (arith, away)));
        some-lower = λ p.
            ⊎_elim
            (λ none.
            let zero : c ≡ 0 = omega arith in
            (k, omega arith, let joined = rw (zero, or_zero_l (get_or old k 0 - get_or row k 0)) at p in omega (arith, joined)))
            (λ some. let (i, b, l) = w.some-lower some in (i, omega (arith, b), l))
            (order c 1);
      }
    where
      or_most : (a b : ℕ) → (a ≤ bit_or a b) × (b ≤ bit_or a b)
      or_most a b = (or-grows a b, rw (or_comm a b) (or-grows b a))
