-- What questions 1 to 5 say of a study in rows, and how its commodities are given.
use Rattle.std.specs.Prelude.{ℕ, ◌*◌, ◌≤◌, ◌<◌, List, ◌++◌, ◌⊎◌, ◌≡◌, length, get_or}
use Rattle.study.specs.Fields.{mark_byte}
use Rattle.theory.specs.Finite.{tabulate}
use Rattle.theory.specs.Study.{head, closed, node_of, of_lorries, lorries_to}
use Rattle.calls.specs.Study.{as_mark}

-- A study is of the size that questions 3 and 5 allow.
pub record Sized (n : ℕ) (link_list : List (List ℕ)) (commodity_list entries : List ℕ) : Type 0 where
  pub few-nodes : n ≤ 128
  pub few-links : length link_list ≤ 512
  pub few-commodities : length commodity_list ≤ 64
  pub entries-long : length entries ≡ length commodity_list * n

-- The last column of each link's row tells the closed byte of its head, as a mark.
abbrev pub ClosedHeads : List (List ℕ) → List ℕ → Type 0
ClosedHeads links closed_bytes = (l : ℕ) → l < length links → closed links l ≡ as_mark (mark_byte closed_bytes (head links l))

-- (A.7) The commodities are the destinations and, where there are lorries, the same for lorries after them.
abbrev pub CommoditiesOf : List ℕ → List ℕ → Type 0
CommoditiesOf destinations commodities =
    (commodities ≡ destinations)
    ⊎ (commodities ≡ destinations ++ tabulate (length destinations) (λ k. lorries_to (get_or destinations k 0)))

-- The destination of every commodity is a node.
abbrev pub ToNodes : ℕ → List ℕ → Type 0
ToNodes n commodities = (k : ℕ) → k < length commodities → node_of (get_or commodities k 0) < n

-- (A.7) The commodities are of one class: all of cars, or all of lorries.
abbrev pub OneClass : List ℕ → Type 0
OneClass commodities = (k : ℕ) → k < length commodities → of_lorries (get_or commodities k 0) ≡ of_lorries (get_or commodities 0 0)
