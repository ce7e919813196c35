-- Rows of eight numbers, worked through from the front.
use Rattle.std.specs.Prelude.{ℕ, ◌≤◌, ◌<◌, ◌≡◌, List, length, get_or}

-- The first k numbers of a row are done, as `Done` says of each, and those past them are as they were.
pub record Worked (Done : ℕ → ℕ → Type 0) (row₀ : List ℕ) (k : ℕ) (row : List ℕ) : Type 0 where
  pub size : length row ≡ length row₀
  pub done : (i : ℕ) → i < k → Done i (get_or row i 0)
  pub rest : (i : ℕ) → k ≤ i → get_or row i 0 ≡ get_or row₀ i 0
