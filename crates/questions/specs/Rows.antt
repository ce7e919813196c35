-- Questions 16 and 20 over lists: a table's rows, one for each commodity.
use Rattle.std.specs.Prelude.{ℕ, ◌+◌, ◌*◌, ◌≤◌, ◌<◌, ◌≡◌, Bool, ◌||◌, List, length, get_or, eqb}
use Rattle.theory.specs.Finite.{all}
use Rattle.theory.specs.Flows.{entry, balances}
use Rattle.theory.specs.Study.{tail, head, node_of, may_use}

-- Every row balances at every node other than its destination.
unfoldable pub rows_conserve : ℕ → List (List ℕ) → List ℕ → List ℕ → ℕ → List ℕ → Bool
rows_conserve n links commodities trips share table =
    all (length commodities) (λ k.
    all n (λ j.
    eqb j (node_of (get_or commodities k 0))
    || balances (length links) (tail links) (head links) (λ i. get_or trips (k * n + i) 0) share (entry (length links) table k) j))

-- A link has no flow that may not use it (A.2, A.7),
unfoldable pub link_permits : List (List ℕ) → List ℕ → List ℕ → ℕ → Bool
link_permits links commodities table l =
    all (length commodities) (λ k. may_use links (get_or commodities k 0) l || eqb (entry (length links) table k l) 0)

-- and so has no link.
unfoldable pub rows_permit : List (List ℕ) → List ℕ → List ℕ → Bool
rows_permit links commodities table = all (length links) (link_permits links commodities table)

-- What these tests ask: few nodes, links and commodities, link ends among the nodes, trips of each commodity from each node, and a table
-- with all its rows.
pub record TableFits (n : ℕ) (links : List (List ℕ)) (commodities trips table : List ℕ) : Type 0 where
  pub few-nodes : n ≤ 128
  pub few-links : length links ≤ 512
  pub few-commodities : length commodities ≤ 64
  pub tail-node : (l : ℕ) → l < length links → tail links l < n
  pub head-node : (l : ℕ) → l < length links → head links l < n
  pub has-trips : length trips ≡ length commodities * n
  pub holds : length commodities * length links ≤ length table
