-- (A.7) Cars and lorries among the commodities of a study.
use Rattle.std.specs.Prelude.{ℕ, ◌-◌, ◌/◌, ◌≤◌, ◌<◌, ◌≡◌, true, false, cond, List, length, get_or}
use Rattle.theory.specs.Study.{of_lorries}

-- How many of the commodities are of cars: all, or half of them where the last is of lorries.
unfoldable pub car_count : List ℕ → ℕ
car_count commodities = cond (of_lorries (get_or commodities (length commodities - 1) 0)) (length commodities / 2) (length commodities)

-- These come first, and the others are of lorries.
pub record Classed (commodities : List ℕ) : Type 0 where
  pub cars-first : (k : ℕ) → k < car_count commodities → of_lorries (get_or commodities k 0) ≡ false
  pub lorries-last : (k : ℕ) → car_count commodities ≤ k → k < length commodities → of_lorries (get_or commodities k 0) ≡ true
