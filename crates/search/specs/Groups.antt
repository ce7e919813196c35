-- Destinations in groups of eight, the trips to them, and the sum of trips × least time.
use Rattle.std.specs.Prelude.{ℕ, ◌+◌, ◌*◌, ◌≤◌, ◌<◌, ◌≡◌, List, length, get_or}
use Rattle.theory.specs.Finite.{sum}
use Rattle.search.specs.Search.{routing_from, marks}

-- The first k numbers of a list are 0.
abbrev pub ZeroBelow : ℕ → List ℕ → Type 0
ZeroBelow k xs = (i : ℕ) → i < k → get_or xs i 0 ≡ 0

-- Nobody goes to destination k: the trips of the nodes to it, which stand from k * n on, are 0.
abbrev pub NoTrips : ℕ → List ℕ → ℕ → Type 0
NoTrips nodes trips k = (j : ℕ) → j < nodes → get_or trips (k * nodes + j) 0 ≡ 0

-- Nobody goes to a destination from `first` on and below `past`.
abbrev pub Unused : ℕ → List ℕ → ℕ → ℕ → Type 0
Unused nodes trips first past = (q : ℕ) → first ≤ q → q < past → NoTrips nodes trips q

-- Destination i of a group is one of the study's, and it is that of number `first` + i where there is such a one.
pub record Member (destinations : List ℕ) (first i s : ℕ) : Type 0 where
  pub number : ℕ
  pub below : number < length destinations
  pub is : s ≡ get_or destinations number 0
  pub own : first + i < length destinations → number ≡ first + i

-- The sum of trips × least time, over the destinations and the nodes.
unfoldable pub least_over : ℕ → List (List ℕ) → List ℕ → List ℕ → List ℕ → ℕ
least_over nodes links destinations trips times =
    sum (length destinations) (λ k.
    sum nodes (λ j. get_or trips (k * nodes + j) 0 * get_or (marks (routing_from nodes links times (get_or destinations k 0))) j 0))
