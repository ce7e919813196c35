-- The bracket of a bisection: a test holds of the first numbers up to n only, and the largest of them is sought.
use Rattle.std.specs.Prelude.{◌≡◌, ℕ, ◌+◌, ◌-◌, ◌<◌, ◌≤◌, Bool, true, false, ◌⊎◌, refl}
use Rattle.std.proofs.Common.{arith, ap, ◌∙◌, inl, inr}

-- The number that is sought is low or above, and not above high.
pub record Between (n : ℕ) (test : ℕ → Bool) (low high : ℕ) : Type 0 where
  pub ordered : low ≤ high
  pub within : high ≤ n
  pub holds : (low ≡ 0) ⊎ (test low ≡ true)
  pub ends : (high ≡ n) ⊎ (test (high + 1) ≡ false)

module _ (n : ℕ) (test : ℕ → Bool) where
  pub between-all : Between n test 0 n
  between-all = record { ordered = omega arith; within = omega arith; holds = inl refl; ends = inl refl }

  module _ {low high : ℕ} (so_far : Between n test low high) (j : ℕ) where
    pub between-up : j ≤ high → test j ≡ true → Between n test j high
    between-up p e = record { ordered = p; within = so_far.within; holds = inr e; ends = so_far.ends }

    pub between-down : low < j → j ≤ high → test j ≡ false → Between n test low (j - 1)
    between-down p q e =
        let back : j - 1 + 1 ≡ j = omega arith in
        record {
          ordered = omega arith;
          within = omega (arith, so_far.within);
          holds = so_far.holds;
          ends = inr (ap test back ∙ e);
        }
