-- What a pass that chose j makes of a table, over lists.
use Rattle.std.specs.Prelude.{ℕ, ◌+◌, ◌*◌, ◌≤◌, ◌<◌, ◌≡◌, Bool, ◌||◌, cond, List, [], length, get_or, ltb, leb}
use Rattle.std.proofs.Math.Option.{Option}
use Rattle.theory.specs.Finite.{tabulate}
use Rattle.theory.specs.Moves.{Shared}
use Rattle.theory.specs.Laws.Local.{move_by}
use Rattle.travel.specs.Links.{total_of, load_of}
use Rattle.travel.specs.Ranges.{most_flow}
use Rattle.theory.specs.Study.{no_link}
use Rattle.moves.specs.Loading.{volume_rows}

-- There is a move where a j is chosen, or 2W is at most 1,024.
unfoldable pub can_move : ℕ → ℕ → Bool
can_move share j = ltb 0 j || leb (2 * share) 1024

-- The move, with a loading y.
abbrev pub move_along : ℕ → ℕ → ℕ → List ℕ → List ℕ → Option Shared
move_along size share j y table =
    move_by share j (tabulate size (λ i. get_or table i 0 + j * get_or y i 0)) (tabulate size (λ i. 2 * get_or table i 0))

-- The total of link l after a move: S + j·Y, or 2S where no j is chosen.
unfoldable pub total_after : ℕ → List (List ℕ) → ℕ → ℕ
total_after j flows l = cond (ltb 0 j) (total_of flows l + j * load_of flows l) (2 * total_of flows l)

-- What moving totals asks: few links, a j of at most 64, and totals of a table and of a loading that are in their ranges.
pub record TotalsMovable (m j : ℕ) (flows : List (List ℕ)) : Type 0 where
  pub few-links : m ≤ 512
  pub size : length (get_or flows 0 []) ≡ 512
  pub small-step : j ≤ 64
  pub totals-fit : (l : ℕ) → l < m → total_of flows l ≤ most_flow
  pub loads-fit : (l : ℕ) → l < m → load_of flows l ≤ most_flow

-- What a move asks: next links are links, the table has all its rows, a share and a j of which the sum is at most 1,024, flows of at most
-- share × 65,535, and a loading of at most 65,535 on each link.
pub record Movable (n m p : ℕ) (nexts volumes : List (List ℕ)) (share j : ℕ) (table : List ℕ) : Type 0 where
  pub few-nodes : n ≤ 128
  pub few-links : m ≤ 512
  pub few-commodities : p ≤ 64
  pub has-rows : (p ≤ length nexts) × (p ≤ length volumes)
  pub next-link : (k i : ℕ) → k < p → i < n → (get_or (get_or nexts k []) i 0 ≡ no_link → ⊥) → get_or (get_or nexts k []) i 0 < m
  pub small-share : share + j ≤ 1024
  pub holds : p * m ≤ length table
  pub flows : (i : ℕ) → i < p * m → get_or table i 0 ≤ share * 65535
  pub loads : (i : ℕ) → i < p * m → get_or (volume_rows n m p nexts volumes) i 0 ≤ 65535
