-- How many commodities are of cars.
use Rattle.std.specs.Prelude.{ℕ, ◌-◌, ◌/◌, ◌≤◌, ◌≡◌, refl, true, false, List, [], ◌∷◌, length, get_or}
use Rattle.std.proofs.Common.{arith}
use Rattle.theory.specs.Study.{of_lorries}
use Rattle.theory.specs.Classes.{car_count}
use Rattle.theory.specs.Laws.Cases.{on_test}

pub count_none : (commodities : List ℕ) → length commodities ≡ 0 → car_count commodities ≡ 0
unfolding car_count
count_none [] e = refl
count_none (c ∷ rest) e = absurd (omega arith)

module _ (commodities : List ℕ) where
  pub count-half : of_lorries (get_or commodities (length commodities - 1) 0) ≡ true → car_count commodities ≡ length commodities / 2
  unfolding car_count
  count-half last = rw last

  pub count-all : of_lorries (get_or commodities (length commodities - 1) 0) ≡ false → car_count commodities ≡ length commodities
  unfolding car_count
  count-all last = rw last

  pub count_most : car_count commodities ≤ length commodities
  count_most =
      on_test (of_lorries (get_or commodities (length commodities - 1) 0))
      (λ last. omega (arith, count-half last))
      (λ last. omega (arith, count-all last))
