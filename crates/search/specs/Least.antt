-- The sum of trips × least time, as it is added up from tables of marks of eight destinations side by side.
use Rattle.std.specs.Prelude.{ℕ, ◌+◌, ◌*◌, ◌≤◌, ◌≡◌, List, get_or}
use Rattle.theory.specs.Finite.{sum}
use Rattle.search.specs.Search.{routing_from, unreached, marks}
use Rattle.search.specs.Lanes.{lane}

-- The most that trips × mark comes to at a node.
abbrev pub most_at_node : ℕ
most_at_node = 65535 * unreached

-- The sum of trips × mark over the first j nodes, for destination k of a group.
pub record LeastTo (trips : List ℕ) (table : List (List ℕ)) (k j r : ℕ) : Type 0 where
  pub is : r ≡ sum j (λ i. get_or trips i 0 * get_or (lane k table) i 0)
  pub most : r ≤ j * most_at_node

-- The same over the first k destinations of a group, to which these are the trips.
pub record LeastToFirst (nodes : ℕ) (trips : List ℕ) (table : List (List ℕ)) (k r : ℕ) : Type 0 where
  pub is : r ≡ sum k (λ i. sum nodes (λ j. get_or trips (i * nodes + j) 0 * get_or (lane i table) j 0))
  pub most : r ≤ k * (128 * most_at_node)

-- The sum of trips × least time, over the first k destinations.
unfoldable pub least_below : ℕ → List (List ℕ) → List ℕ → List ℕ → List ℕ → ℕ → ℕ
least_below nodes links destinations trips times k =
    sum k (λ q. sum nodes (λ j. get_or trips (q * nodes + j) 0 * get_or (marks (routing_from nodes links times (get_or destinations q 0))) j 0))
