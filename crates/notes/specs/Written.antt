-- The note of a move, over rows of next links.
use Rattle.std.specs.Prelude.{ℕ, ◌≤◌, ◌<◌, List, [], length, get_or, take}
use Rattle.theory.specs.Finite.{rows}

-- The next links of n nodes for each of p commodities, commodity by commodity.
unfoldable pub link_rows : ℕ → ℕ → List (List ℕ) → List ℕ
link_rows n p nexts = rows p (λ k. take n (get_or nexts k []))

-- What writing them asks: few nodes and commodities, and a row for each that is long enough.
pub record Writable (n p : ℕ) (nexts : List (List ℕ)) : Type 0 where
  pub few-nodes : n ≤ 128
  pub few-commodities : p ≤ 64
  pub has-rows : p ≤ length nexts
  pub long : (k : ℕ) → k < p → n ≤ length (get_or nexts k [])
