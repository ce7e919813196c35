-- A table lessened by j × a loading that stands as volumes along next links.
use Rattle.std.specs.Prelude.{ℕ, ◌*◌, ◌≤◌, ◌<◌, ◌^◌, ◌≡◌, List, [], length, get_or, replicate, ltb}
use Rattle.theory.specs.Finite.{count}
use Rattle.theory.specs.Study.{no_link}
use Rattle.moves.specs.Loading.{volume_rows}

-- No load on any of 512 links.
unfoldable pub no_loads : List ℕ
no_loads = replicate 512 0

-- How many of the first m numbers of a row are less than those of a list of loads.
unfoldable pub less_in : List ℕ → List ℕ → ℕ → ℕ
less_in row loads m = count m (λ l. ltb (get_or row l 0) (get_or loads l 0))

-- What comparing a table with j × a loading asks: there is a row of next links and one of volumes for each commodity, next links are links, the
-- table has all its rows, and the numbers that it is compared with stay within 32 bits.
pub record Lessenable (n m p : ℕ) (nexts volumes : List (List ℕ)) (j : ℕ) (table : List ℕ) : Type 0 where
  pub few-nodes : n ≤ 128
  pub few-links : m ≤ 512
  pub few-commodities : p ≤ 64
  pub has-rows : (p ≤ length nexts) × (p ≤ length volumes)
  pub next-link : (k i : ℕ) → k < p → i < n → (get_or (get_or nexts k []) i 0 ≡ no_link → ⊥) → get_or (get_or nexts k []) i 0 < m
  pub holds : p * m ≤ length table
  pub fits : (i : ℕ) → i < p * m → j * get_or (volume_rows n m p nexts volumes) i 0 < 2 ^ 32
