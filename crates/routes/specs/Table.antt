-- Next links kept by destination and by node.
use Rattle.std.specs.Prelude.{◌≡◌, ℕ, ◌-◌, ◌/◌, ◌%◌, ◌<◌, ◌≤◌, min, ◌⊎◌, Bool, true, false, not, List, [], ◌++◌, map, length, replicate, slice_index, slice_index_or}
use Rattle.theory.specs.Routes.{Routing, next_links}
use Rattle.theory.specs.Study.{no_link, link_mark}
use Rattle.theory.specs.Laws.Filled.{Filled}
use Rattle.search.specs.Search.{routing_from}
use Rattle.search.specs.Groups.{NoTrips}
use Rattle.routes.specs.Next.{first_open}

-- 128 link numbers: the next links of the nodes, and none past them.
unfoldable pub link_marks : Routing → List ℕ
link_marks q = map link_mark (next_links q) ++ replicate (128 - q.nodes) no_link

-- A row without a next link.
unfoldable pub no_links : List ℕ
no_links = replicate 128 no_link

-- The next links to destination k.
abbrev pub FullRow : ℕ → List (List ℕ) → List ℕ → List ℕ → ℕ → List ℕ → Type 0
FullRow nodes links destinations times k row = row ≡ link_marks (routing_from nodes links times (slice_index destinations k))

-- Nobody goes to a destination of the group of eight that k is in.
abbrev pub GroupUnused : ℕ → List ℕ → List ℕ → ℕ → Type 0
GroupUnused nodes destinations trips k = (q : ℕ) → q / 8 ≡ k / 8 → q < length destinations → NoTrips nodes trips q

-- The next links to destination k, or none, which is as good where nobody goes there. There are none only where nobody goes to k's group.
abbrev pub NextRow : ℕ → List (List ℕ) → List ℕ → List ℕ → List ℕ → ℕ → List ℕ → Type 0
NextRow nodes links destinations trips times k row =
    FullRow nodes links destinations times k row ⊎ ((row ≡ no_links) × NoTrips nodes trips k × GroupUnused nodes destinations trips k)

-- A table of which the first rows are the next links to each destination, where somebody goes to its group.
pub record Nexts (nodes : ℕ) (links : List (List ℕ)) (destinations trips times : List ℕ) (table : List (List ℕ)) : Type 0 where
  pub size : length destinations ≤ length table
  pub row : (k : ℕ) → k < length destinations → NextRow nodes links destinations trips times k (slice_index_or table k [])

-- A table of which the first rows are the next links to each destination.
pub record AllNexts (nodes : ℕ) (links : List (List ℕ)) (destinations times : List ℕ) (table : List (List ℕ)) : Type 0 where
  pub size : length destinations ≤ length table
  pub row : (k : ℕ) → k < length destinations → FullRow nodes links destinations times k (slice_index_or table k [])

-- The rows from `first` on and below k are as `Put` says of each, and the others are as they were.
pub record RowsPut (Put : ℕ → List ℕ → Type 0) (table₀ : List (List ℕ)) (first k : ℕ) (table : List (List ℕ)) : Type 0 where
  pub size : length table ≡ length table₀
  pub put : (q : ℕ) → first ≤ q → q < k → Put q (slice_index_or table q [])
  pub rest : (q : ℕ) → (first ≤ q → q < k → ⊥) → slice_index_or table q [] ≡ slice_index_or table₀ q []

-- Somebody goes to the group of eight that destination k is in, or, where `used` is false, nobody does.
abbrev pub GroupChosen : Bool → ℕ → List ℕ → List ℕ → ℕ → Type 0
GroupChosen true nodes destinations trips k = GroupUnused nodes destinations trips k → ⊥
GroupChosen false nodes destinations trips k = GroupUnused nodes destinations trips k

-- The next links to destination k, or what the row was before where its group is not chosen.
abbrev pub RowChosen : ℕ → List (List ℕ) → List ℕ → List ℕ → List ℕ → Bool → List (List ℕ) → ℕ → List ℕ → Type 0
RowChosen nodes links destinations trips times used table₀ k row =
    FullRow nodes links destinations times k row ⊎ ((row ≡ slice_index_or table₀ k []) × GroupChosen (not used) nodes destinations trips k)

-- The same for the destinations of the groups before the one that begins with `first`, and the other rows are as they were.
pub record ChosenBelow (nodes : ℕ) (links : List (List ℕ)) (destinations trips times : List ℕ) (used : Bool) (table₀ : List (List ℕ)) (first : ℕ)
    (table : List (List ℕ)) : Type 0 where
  pub begins : first % 8 ≡ 0
  pub rows : RowsPut (RowChosen nodes links destinations trips times used table₀) table₀ 0 (min first (length destinations)) table

-- The same for each destination.
abbrev pub EachChosen : ℕ → List (List ℕ) → List ℕ → List ℕ → List ℕ → Bool → List (List ℕ) → List (List ℕ) → Type 0
EachChosen nodes links destinations trips times used table₀ table =
    (k : ℕ) → k < length destinations → RowChosen nodes links destinations trips times used table₀ k (slice_index_or table k [])

-- The rows are the next links to the destinations of a list.
abbrev pub NextsTo : ℕ → List (List ℕ) → List ℕ → List ℕ → List (List ℕ) → Type 0
NextsTo nodes links destinations times rows = (k : ℕ) → k < length rows → FullRow nodes links destinations times k (slice_index_or rows k [])

-- A row has the first fitting links with open heads of the nodes.
abbrev pub OpenRow : ℕ → List (List ℕ) → List ℕ → ℕ → List ℕ → Type 0
OpenRow nodes links times s row = Filled (first_open nodes links times s) no_link 128 nodes row

-- A row of 128 links has those of the nodes below j, and no link past the nodes.
pub record OpenBelow (nodes : ℕ) (links : List (List ℕ)) (times : List ℕ) (s j : ℕ) (row : List ℕ) : Type 0 where
  pub long : length row ≡ 128
  pub front : (i : ℕ) → i < j → slice_index_or row i no_link ≡ first_open nodes links times s i
  pub rest : (i : ℕ) → nodes ≤ i → i < 128 → slice_index_or row i no_link ≡ no_link

-- Rows of 128 links have none past the nodes.
pub record RowsEnd (nodes : ℕ) (rows : List (List ℕ)) : Type 0 where
  pub long : (k : ℕ) → k < length rows → length (slice_index_or rows k []) ≡ 128
  pub rest : (k : ℕ) → k < length rows → (i : ℕ) → nodes ≤ i → i < 128 → slice_index_or (slice_index_or rows k []) i no_link ≡ no_link
