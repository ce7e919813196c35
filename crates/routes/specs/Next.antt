-- A node's next link for one commodity, which is called a destination: the first fitting link. Of the links with an open head it is found along the
-- chain of the links out of the node, which are looked at first by the last 16 bits of times and marks, for eight destinations side by side. The links
-- into a closed destination are walked along by themselves. A link that the commodity's class is barred from is in neither chain, and never fits.
use Rattle.std.specs.Prelude.{◌≡◌, ℕ, ◌+◌, ◌%◌, ◌<◌, Bool, false, not, ◌&&◌, ◌||◌, List, [], length, ◌==◌, ◌≢◌, nat_lt, slice_index, slice_index_or}
use Rattle.theory.specs.Finite.{first}
use Rattle.theory.specs.Laws.Filled.{Filled}
use Rattle.theory.specs.Routes.{distances, fits_next}
use Rattle.theory.specs.Study.{head, closed, node_of, of_lorries, no_link, link_mark}
use Rattle.search.specs.Search.{routing_from}
use Rattle.search.specs.Chains.{Passed}
use Rattle.search.specs.Rows.{Worked}

-- Whether link l fits as the next link of node j to destination s.
abbrev pub fitting : ℕ → List (List ℕ) → List ℕ → ℕ → ℕ → ℕ → Bool
fitting nodes links times s j l = fits_next (routing_from nodes links times s) (distances (routing_from nodes links times s)) j l

-- The first link that fits, as it is kept,
abbrev pub first_fitting : ℕ → List (List ℕ) → List ℕ → ℕ → ℕ → ℕ
first_fitting nodes links times s j = link_mark (first (length links) (fitting nodes links times s j))

-- the first of those whose head is open,
abbrev pub first_open : ℕ → List (List ℕ) → List ℕ → ℕ → ℕ → ℕ
first_open nodes links times s j = link_mark (first (length links) (λ l. not (closed links l == 1) && fitting nodes links times s j l))

-- and the first of those whose head is open or that are below link a.
abbrev pub fitting_below : ℕ → List (List ℕ) → List ℕ → ℕ → ℕ → ℕ → ℕ → Bool
fitting_below nodes links times s a j l = (nat_lt l a || not (closed links l == 1)) && fitting nodes links times s j l

abbrev pub first_below : ℕ → List (List ℕ) → List ℕ → ℕ → ℕ → ℕ → ℕ
first_below nodes links times s a j = link_mark (first (length links) (fitting_below nodes links times s a j))

-- Link l is a link out of node j with an open head, of those that the class of s is not barred from, or none, and no such link before it fits.
abbrev pub Unfit : ℕ → List (List ℕ) → List ℕ → ℕ → ℕ → ℕ → Type 0
Unfit nodes links times s j l = Passed (of_lorries s) links 0 j (λ i. fitting nodes links times s j i ≡ false) l

-- The last 16 bits of the marks of the nodes, to the destinations of a group.
pub record Lows (nodes : ℕ) (marks lows : List (List ℕ)) : Type 0 where
  pub size : length lows ≡ 128
  pub each : (j : ℕ) → j < nodes → (i : ℕ) → i < 8 → slice_index (slice_index_or lows j []) i ≡ slice_index (slice_index_or marks j []) i % 65536

-- Of the links that the last 16 bits do not rule out the first is kept: r is the link that was there, or else link l where what it gives is the
-- node's own.
pub record Kept (old given own l r : ℕ) : Type 0 where
  pub stays : (old ≢ no_link) → r ≡ old
  pub took : old ≡ no_link → given ≡ own → r ≡ l
  pub none : old ≡ no_link → (given ≢ own) → r ≡ no_link

-- Link l is kept, where it is not ruled out, for each of the first k destinations that had none.
abbrev pub RowKept : List ℕ → List ℕ → ℕ → ℕ → List ℕ → ℕ → List ℕ → Type 0
RowKept own ahead time l row₀ k row =
    Worked (λ i r. Kept (slice_index row₀ i) ((slice_index ahead i + time) % 65536) (slice_index own i) l r) row₀ k row

-- Link l is a link out of node j with an open head, of those that the class is not barred from, or none, and the last 16 bits rule out each such link
-- before it, for destination i of a group: its time plus its head's mark differs from the node's own mark.
abbrev pub RuledOut : Bool → List (List ℕ) → List ℕ → List (List ℕ) → ℕ → ℕ → ℕ → Type 0
RuledOut lorries links times lows j i l =
    Passed lorries links 0 j (λ a. (slice_index (slice_index_or lows (head links a) []) i + slice_index times a) % 65536 ≢ slice_index (slice_index_or lows j []) i) l

-- The walk along these links is at link l, with link r kept, or none.
pub record Candidate (lorries : Bool) (links : List (List ℕ)) (times : List ℕ) (lows : List (List ℕ)) (j i l r : ℕ) : Type 0 where
  pub none_yet : r ≡ no_link → RuledOut lorries links times lows j i l
  pub found : (r ≢ no_link) → RuledOut lorries links times lows j i r

-- The same for each destination of a group.
pub record EachCandidate (lorries : Bool) (links : List (List ℕ)) (times : List ℕ) (lows : List (List ℕ)) (j l : ℕ) (row : List ℕ) : Type 0 where
  pub size : length row ≡ 8
  pub chain : Passed lorries links 0 j (λ a. a ≡ a) l
  pub each : (i : ℕ) → i < 8 → Candidate lorries links times lows j i l (slice_index row i)

-- The links kept for the destinations of a group, when the walk is over.
abbrev pub Candidates : Bool → List (List ℕ) → List ℕ → List (List ℕ) → ℕ → List ℕ → Type 0
Candidates lorries links times lows j row = (i : ℕ) → i < 8 → RuledOut lorries links times lows j i (slice_index row i)

-- The walk along the links into destination s, where that is closed, is at link l: the row has for each node the first fitting link of those whose
-- head is open or that are below l.
pub record OwnBelow (nodes : ℕ) (links : List (List ℕ)) (times : List ℕ) (s l : ℕ) (row : List ℕ) : Type 0 where
  pub chain : Passed (of_lorries s) links 1 (128 + node_of s) (λ a. a ≡ a) l
  pub filled : Filled (first_below nodes links times s l) no_link 128 nodes row
