-- The loading that next links give, and tables that it is added to, over lists.
use Rattle.std.specs.Prelude.{ℕ, ◌+◌, ◌*◌, ◌≤◌, ◌<◌, ◌^◌, ◌≡◌, List, [], ◌++◌, length, get_or, drop}
use Rattle.theory.specs.Finite.{tabulate, rows}
use Rattle.theory.specs.Flows.{link_total}
use Rattle.theory.specs.Study.{no_link}
use Rattle.loading.specs.Along.{flow_along, volume_over, Followable}

-- What the trips of commodity k send over link l along its next links.
unfoldable pub row_along : ℕ → List (List ℕ) → List ℕ → List (List ℕ) → ℕ → ℕ → ℕ
row_along n links trips nexts k l = flow_along n links (get_or nexts k []) (λ j. get_or trips (k * n + j) 0) n l

-- The loading that next links give: a table of p rows, each of m flows.
unfoldable pub loading_along : ℕ → List (List ℕ) → ℕ → List ℕ → List (List ℕ) → List ℕ
loading_along n links p trips nexts = rows p (λ k. tabulate (length links) (row_along n links trips nexts k))

-- The loading that volumes by commodity and node give, each at its node's next link: a table of p rows, each of m flows.
unfoldable pub volume_rows : ℕ → ℕ → ℕ → List (List ℕ) → List (List ℕ) → List ℕ
volume_rows n m p nexts volumes = rows p (λ k. tabulate m (volume_over n (get_or nexts k []) (get_or volumes k [])))

-- Lent memory whose first numbers are f 0, f 1, .., and whose later ones are as they were.
unfoldable pub front : ℕ → (ℕ → ℕ) → List ℕ → List ℕ
front size f table = tabulate size f ++ drop size table

-- A table with weight × a loading added to its first numbers.
unfoldable pub added_rows : ℕ → ℕ → List ℕ → List ℕ → List ℕ
added_rows size weight y table = front size (λ i. get_or table i 0 + weight * get_or y i 0) table

-- What the loading's totals ask: few nodes, links and commodities, next links and trips of each of them, walks along next links that
-- stay in the network, and totals of at most 65,535.
pub record AllFollowable (n : ℕ) (links : List (List ℕ)) (p : ℕ) (trips : List ℕ) (nexts : List (List ℕ)) : Type 0 where
  pub few-nodes : n ≤ 128
  pub few-links : length links ≤ 512
  pub few-commodities : p ≤ 64
  pub has-rows : p ≤ length nexts
  pub has-trips : length trips ≡ p * n
  pub followable : (k : ℕ) → k < p → Followable n links (get_or nexts k [])
  pub small-totals : (l : ℕ) → l < length links → link_total p (length links) (loading_along n links p trips nexts) l ≤ 65535

-- What adding weight × a loading to a table asks: next links are links, the table has all its rows, and its numbers stay within 32 bits.
pub record Addable (n m p : ℕ) (nexts volumes : List (List ℕ)) (weight : ℕ) (table : List ℕ) : Type 0 where
  pub few-nodes : n ≤ 128
  pub few-links : m ≤ 512
  pub few-commodities : p ≤ 64
  pub has-rows : (p ≤ length nexts) × (p ≤ length volumes)
  pub next-link : (k j : ℕ) → k < p → j < n → (get_or (get_or nexts k []) j 0 ≡ no_link → ⊥) → get_or (get_or nexts k []) j 0 < m
  pub holds : p * m ≤ length table
  pub fits : (i : ℕ) → i < p * m → get_or table i 0 + weight * get_or (volume_rows n m p nexts volumes) i 0 < 2 ^ 32
