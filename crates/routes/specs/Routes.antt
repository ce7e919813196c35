-- What is said of routes over a search whose marks are found, by the names of their parts.
use Rattle.std.specs.Prelude.{◌≡◌, ℕ, ◌<◌, List, [], length, slice_index, slice_index_or, slice_set}
use Rattle.search.specs.Search.{routing_from}
use Rattle.search.specs.Given.{class_of}
use Rattle.routes.specs.declared.next.Routes.{Routes}
use Rattle.routes.specs.Next.{first_open, Unfit, Lows, Candidates}
use Rattle.routes.specs.Table.{link_marks, RowsPut, OpenRow}

module _ (r : Routes) where
  -- Destination k of the group.
  abbrev pub destination : ℕ → ℕ
  destination k = slice_index r.search.group k

  abbrev pub LowMarks : List (List ℕ) → Type 0
  LowMarks lows = Lows r.search.nodes r.marks.now lows

  abbrev pub CandidatesOf : List (List ℕ) → ℕ → List ℕ → Type 0
  CandidatesOf lows j row = Candidates (class_of r.search.group) r.search.links.now r.search.times.now lows j row

  abbrev pub UnfitBefore : ℕ → ℕ → ℕ → Type 0
  UnfitBefore k j l = Unfit r.search.nodes r.search.links.now r.search.times.now (destination k) j l

  -- The first fitting link with an open head.
  abbrev pub open_link : ℕ → ℕ → ℕ
  open_link k j = first_open r.search.nodes r.search.links.now r.search.times.now (destination k) j

  -- Those of node j are written, to the first k destinations of the group.
  abbrev pub NodePut : ℕ → List (List ℕ) → ℕ → List (List ℕ) → Type 0
  NodePut j rows₀ k rows = RowsPut (λ q row. row ≡ slice_set (slice_index_or rows₀ q []) j (open_link q j)) rows₀ 0 k rows

  -- A row has those of all nodes, or each row has.
  abbrev pub RowOpen : ℕ → List ℕ → Type 0
  RowOpen k row = OpenRow r.search.nodes r.search.links.now r.search.times.now (destination k) row

  abbrev pub RowsOpen : List (List ℕ) → Type 0
  RowsOpen rows = (k : ℕ) → k < length rows → RowOpen k (slice_index_or rows k [])

  -- A row has the next links of all nodes, or each row has.
  abbrev pub RowRouted : ℕ → List ℕ → Type 0
  RowRouted k row = row ≡ link_marks (routing_from r.search.nodes r.search.links.now r.search.times.now (destination k))

  abbrev pub RowsRouted : List (List ℕ) → Type 0
  RowsRouted rows = (k : ℕ) → k < length rows → RowRouted k (slice_index_or rows k [])
