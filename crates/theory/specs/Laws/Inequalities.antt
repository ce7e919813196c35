-- Inequalities of products and of sums.
use Rattle.std.specs.Prelude.{ℕ, zero, suc, ◌+◌, ◌*◌, ◌≤◌, ◌<◌, ◌≡◌}
use Rattle.std.proofs.Common.{le_refl, le_trans, le_of_eq, arith, sym, ◌∙◌, ap₂, ⊎_elim}
use Rattle.std.proofs.Math.Nat.{le_dest}
use Rattle.theory.specs.Finite.{sum}
use Rattle.theory.specs.Laws.Finite.{below_suc, sum_mono, sum-add, sum-scale}

-- Of two pairs, the sum of products is larger where larger meets larger.
pub rearrangement : {a b x y : ℕ} → a ≤ b → x ≤ y → a * y + b * x ≤ a * x + b * y
rearrangement {a} {b} {x} {y} p q =
    let (d, e) = le_dest p in
    let (f, k) = le_dest q in
    rw (← e, ← k) (omega arith)

-- What does not fall from one number to the next does not fall from any number to a larger one.
pub rising_le : (h : ℕ → ℕ) → ((r : ℕ) → h r ≤ h (suc r)) → (i j : ℕ) → i ≤ j → h i ≤ h j
rising_le h up i zero p = let e : i ≡ 0 = omega arith in rw e (le_refl (h 0))
rising_le h up i (suc j) p =
    ⊎_elim
    (λ (q : i < suc j). le_trans (rising_le h up i j (omega arith)) (up j))
    (λ (e : i ≡ suc j). rw e (le_refl (h (suc j))))
    (below_suc (suc j) i (omega arith))

-- A sum of two multiples, term by term.
pub sum_both : (n a b : ℕ) (f g : ℕ → ℕ) → sum n (λ i. a * f i + b * g i) ≡ a * sum n f + b * sum n g
sum_both n a b f g = sum-add n (λ i. a * f i) (λ i. b * g i) ∙ ap₂ ◌+◌ (sum-scale n a f) (sum-scale n b g)

-- An inequality between sums of two multiples holds of sums where it holds term by term.
pub sums-le : (n a b c d : ℕ) (f g h k : ℕ → ℕ) → ((i : ℕ) → i < n → a * f i + b * g i ≤ c * h i + d * k i) →
    a * sum n f + b * sum n g ≤ c * sum n h + d * sum n k
sums-le n a b c d f g h k below =
    le_trans (le_of_eq (sym (sum_both n a b f g))) (le_trans (sum_mono n _ _ below) (le_of_eq (sum_both n c d h k)))
