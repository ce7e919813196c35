-- The choice of j: the j that qualify are 1, 2, .. up to the largest, so a bisection finds it.
use Rattle.std.specs.Prelude.{ℕ, zero, suc, ◌+◌, ◌*◌, ◌-◌, ◌≤◌, ◌<◌, min, ◌≡◌, refl, Bool, true, false, ◌⊎◌, ◌↔◌}
use Rattle.std.proofs.Common.{le_of_lt, arith, sym, ◌∙◌, ap, inl, ⊎_elim}
use Rattle.std.proofs.Math.Nat.{le_dest}
use borrow.Author.Tests.{leb-true, le-leb}
use Rattle.theory.specs.Finite.{sum, largest}
use Rattle.theory.specs.Network.{Network, Sound}
use Rattle.theory.specs.Flows.{time_at}
use Rattle.theory.specs.Moves.{moved_times, qualifies, chosen}
use Rattle.theory.specs.Laws.Finite.{order, largest-le, largest-holds, largest-most, largest-is}
use Rattle.theory.specs.Laws.Inequalities.{rearrangement, rising_le, sums-le}
use Rattle.theory.specs.Laws.Times.{step-mono}

module _ (g : Network) (sound : Sound g) (share : ℕ) (some-share : 1 ≤ share) (s y : ℕ → ℕ) where
  -- a link's time at flow S + j·Y, share W + j
  abbrev time : ℕ → ℕ → ℕ
  time j l = time_at g (share + j) (λ i. s i + j * y i) l

  -- the sum over links of an amount × that time
  abbrev spent : (ℕ → ℕ) → ℕ → ℕ
  spent amount j = sum g.links (λ l. amount l * time j l)

  -- Link by link (W·Y − S) × (the time at j + 1 − the time at j) is at least 0.
  towards : (j l : ℕ) → l < g.links →
      share * (y l * time j l) + 1 * (s l * time (j + 1) l) ≤ share * (y l * time (j + 1) l) + 1 * (s l * time j l)
  towards j l p =
      ⊎_elim
      (λ h. omega (arith, rearrangement (le_of_lt h) (falls h)))
      (λ h. omega (arith, rearrangement h (rises h)))
      (order (share * y l) (s l))
    where
      height-le : (r r' : ℕ) → r ≤ r' → g.height l r ≤ g.height l r'
      height-le = rising_le (g.height l) (λ r. sound.rising l r p)

      falls : share * y l < s l → time (j + 1) l ≤ time j l
      falls h =
          height-le _ _
          (step-mono (g.capacity l) (share + (j + 1)) (s l + (j + 1) * y l) (share + j) (s l + j * y l) (sound.some-capacity l p)
          (omega arith) (omega arith) (omega arith))

      rises : s l ≤ share * y l → time j l ≤ time (j + 1) l
      rises h =
          height-le _ _
          (step-mono (g.capacity l) (share + j) (s l + j * y l) (share + (j + 1)) (s l + (j + 1) * y l) (sound.some-capacity l p)
          (omega arith) (omega arith) (omega arith))

  -- Where j + 1 qualifies, j does: the sum in the choice of j does not fall as j grows.
  pub qualifies-down : (j : ℕ) → qualifies g share s y (j + 1) ≡ true → qualifies g share s y j ≡ true
  unfolding qualifies moved_times
  qualifies-down j h =
      let above : share * spent y (j + 1) ≤ spent s (j + 1) = leb-true _ _ h in
      let summed = sums-le g.links share 1 share 1 _ _ _ _ (towards j) in
      le-leb (share * spent y j) (spent s j) (omega arith)

-- A test that holds of j wherever it holds of j + 1: the largest number is the one at which it stops holding.
pub largest-prefix : (n : ℕ) (t : ℕ → Bool) → ((j : ℕ) → 1 ≤ j → j < n → t (j + 1) ≡ true → t j ≡ true) →
    (low : ℕ) → low ≤ n → ((low ≡ 0) ⊎ (t low ≡ true)) → ((low ≡ n) ⊎ (t (low + 1) ≡ false)) → largest n t ≡ low
largest-prefix n t down low within holds ends = largest-is n t low within holds (⊎_elim at-end past ends)
  where
    at-end : low ≡ n → (i : ℕ) → low < i → i ≤ n → t i ≡ false
    at-end e i p q = absurd (omega arith)

    next : (j : ℕ) → 1 ≤ j → j < n → t j ≡ false → t (j + 1) ≡ false
    next j p q h = go (t (j + 1)) refl
      where
        go : (b : Bool) → t (j + 1) ≡ b → b ≡ false
        go true e = sym (down j p q e) ∙ h
        go false e = refl

    past : t (low + 1) ≡ false → (i : ℕ) → low < i → i ≤ n → t i ≡ false
    past h i p q =
        let (d, e) = le_dest p in
        ap t (sym e) ∙ go d (omega arith)
      where
        go : (d : ℕ) → suc low + d ≤ n → t (suc low + d) ≡ false
        go zero r = ap t (omega arith) ∙ h
        go (suc d) r = ap t (omega arith) ∙ next (suc low + d) (omega arith) (omega arith) (go d (omega arith))

module _ (g : Network) (share : ℕ) (s y : ℕ → ℕ) where
  -- The chosen j is at most the smaller of 64 and 1,024 − W.
  pub chosen-le : chosen g share s y ≤ min 64 (1024 - share)
  unfolding chosen
  chosen-le = largest-le (min 64 (1024 - share)) (qualifies g share s y)

  -- Where there is one it qualifies,
  pub chosen-qualifies : 1 ≤ chosen g share s y → qualifies g share s y (chosen g share s y) ≡ true
  unfolding chosen
  chosen-qualifies = largest-holds (min 64 (1024 - share)) (qualifies g share s y)

  -- and no larger one does.
  pub chosen-most : (j : ℕ) → chosen g share s y < j → j ≤ min 64 (1024 - share) → qualifies g share s y j ≡ false
  unfolding chosen
  chosen-most = largest-most (min 64 (1024 - share)) (qualifies g share s y)

  -- None is chosen exactly where none qualifies.
  pub chosen_none : (chosen g share s y ≡ 0) ↔ ((j : ℕ) → 1 ≤ j → j ≤ min 64 (1024 - share) → qualifies g share s y j ≡ false)
  unfolding chosen
  chosen_none = (
    λ e j p q. chosen-most j (omega arith) q,
    λ h. largest-is (min 64 (1024 - share)) (qualifies g share s y) 0 (omega arith) (inl refl) h,
  )

-- What a bisection ends in is the chosen j: `low` is 0 or qualifies, and `low` is the most allowed or the next does not qualify.
pub chosen_is : (g : Network) → Sound g → (share : ℕ) → 1 ≤ share → (s y : ℕ → ℕ) (low : ℕ) → low ≤ min 64 (1024 - share) →
    ((low ≡ 0) ⊎ (qualifies g share s y low ≡ true)) →
    ((low ≡ min 64 (1024 - share)) ⊎ (qualifies g share s y (low + 1) ≡ false)) → chosen g share s y ≡ low
unfolding chosen
chosen_is g sound share some-share s y low =
    largest-prefix (min 64 (1024 - share)) (qualifies g share s y) (λ j p q. qualifies-down g sound share some-share s y j) low
