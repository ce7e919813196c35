-- Trips sent along a list of next links, walk by walk and node by node.
use Rattle.std.specs.Prelude.{◌≡◌, ℕ, zero, suc, ◌+◌, ◌*◌, ◌^◌, ◌<◌, ◌≤◌, cond, List, ◌++◌, map, length, drop, ◌==◌, ◌≢◌, slice_index}
use Rattle.std.proofs.Math.Option.{Option, none, some}
use Rattle.theory.specs.Finite.{sum, tabulate}
use Rattle.theory.specs.Routes.{walk, occurrences}
use Rattle.theory.specs.Study.{head, no_link}

-- The next link that a mark stands for.
unfoldable pub link_of : ℕ → Option ℕ
link_of l = cond (l == no_link) none (some l)

-- The links that a trip from node j goes by, at most `most` of them.
unfoldable pub walk_along : List (List ℕ) → List ℕ → ℕ → ℕ → List ℕ
walk_along links next most j = walk (head links) (map link_of next) most j

-- What the trips of the nodes below k send over a link along next links, over n nodes.
unfoldable pub flow_along : ℕ → List (List ℕ) → List ℕ → (ℕ → ℕ) → ℕ → ℕ → ℕ
flow_along n links next trips k l = sum k (λ j. trips j * occurrences l (walk_along links next n j))

-- 1 where two numbers are the same, and 0 otherwise.
unfoldable pub one_if_same : ℕ → ℕ → ℕ
one_if_same i j = cond (i == j) 1 0

-- How often a trip from node i leaves node j, within the first `most` links that it goes by.
unfoldable pub leaves : List (List ℕ) → List ℕ → ℕ → ℕ → ℕ → ℕ
leaves links next zero i j = 0
leaves links next (suc most) i j =
    cond (slice_index next i == no_link) 0 (one_if_same i j + leaves links next most (head links (slice_index next i)) j)

-- By node: the trips that leave it, its own and those that come through it.
unfoldable pub volumes_along : ℕ → List (List ℕ) → List ℕ → (ℕ → ℕ) → List ℕ
volumes_along n links next trips = tabulate 128 (λ j. sum n (λ i. trips i * leaves links next n i j))

-- What leaves the nodes below k by link l, where each node's volume goes by its next link.
unfoldable pub volume_over : ℕ → List ℕ → List ℕ → ℕ → ℕ
volume_over k next volumes l = sum k (λ j. one_if_same (slice_index next j) l * slice_index volumes j)

-- A row with a multiple of the volumes of the nodes below k added to its first m numbers, each at its node's next link.
unfoldable pub scattered : ℕ → ℕ → List ℕ → List ℕ → ℕ → List ℕ → List ℕ
scattered k m next volumes weight row = tabulate m (λ l. slice_index row l + weight * volume_over k next volumes l) ++ drop m row

-- Walks along next links stay in the network, and end by themselves.
pub record Followable (n : ℕ) (links : List (List ℕ)) (next : List ℕ) : Type 0 where
  pub few-nodes : n ≤ 128
  pub few-links : length links ≤ 512
  pub size : length next ≡ 128
  pub head-node : (l : ℕ) → l < length links → head links l < n
  pub next-link : (j : ℕ) → j < n → (slice_index next j ≢ no_link) → slice_index next j < length links
  pub ends : (j : ℕ) → j < n → length (walk_along links next n j) < n

-- Trips can be sent: along next links that can be followed, from each node, and no node's volume is above 65,535.
pub record Sendable (n : ℕ) (links : List (List ℕ)) (next trips : List ℕ) : Type 0 where
  pub followable : Followable n links next
  pub has-trips : length trips ≡ n
  pub small : (j : ℕ) → j < 128 → slice_index (volumes_along n links next (λ i. slice_index trips i)) j ≤ 65535

-- Volumes can be added to a row: it has a number for each link, next links are links, and all numbers stay within 32 bits.
pub record Scatterable (n m : ℕ) (next volumes : List ℕ) (weight : ℕ) (row : List ℕ) : Type 0 where
  pub few-nodes : n ≤ 128
  pub few-links : m ≤ 512
  pub next-link : (j : ℕ) → j < n → (slice_index next j ≢ no_link) → slice_index next j < m
  pub has-links : m ≤ length row
  pub fits : (l : ℕ) → l < m → slice_index row l + weight * volume_over n next volumes l < 2 ^ 32
