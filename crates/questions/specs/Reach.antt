-- The rows of a reach search, and what a search over them finds.
use Rattle.std.specs.Prelude.{ℕ, ◌+◌, ◌<◌, ◌≤◌, Bool, true, false, ◌||◌, ◌&&◌, cond, List, [], ◌∷◌, ◌≡◌, eqb, get_or, length, replicate}
use Rattle.theory.specs.Finite.{all}
use Rattle.theory.specs.Marks.{marked, nodes_below, union, common, lowest_unvisited}
use Rattle.theory.specs.Network.{Network}
use Rattle.theory.specs.Routes.{Routing, routing, IsPath}
use Rattle.theory.specs.Study.{tail, head, closed, barred_to, network}

-- Links and one commodity.
abbrev pub toward : ℕ → List (List ℕ) → ℕ → Network
toward nodes links commodity = network nodes links (commodity ∷ []) []

-- What question 11 asks of a node: a path to the commodity's destination, whatever the times, here 1 on every link.
abbrev pub to_destination : ℕ → List (List ℕ) → ℕ → Routing
to_destination nodes links commodity = routing (toward nodes links commodity) (replicate (length links) 1) 0

abbrev pub PathTo : ℕ → List (List ℕ) → ℕ → ℕ → Type 0
PathTo nodes links commodity j = (path : List ℕ) × IsPath (to_destination nodes links commodity) j path

-- No link has a closed head.
abbrev pub AllOpen : List (List ℕ) → Type 0
AllOpen links = (l : ℕ) → l < length links → closed links l ≡ 1 → ⊥

-- Every node with trips to a destination is marked, by the trips of all nodes to it: the test of one node, and of all.
unfoldable pub marked_test : List ℕ → List ℕ → ℕ → Bool
marked_test trips marks j = eqb (get_or trips j 0) 0 || marked marks j

unfoldable pub all_marked : List ℕ → List ℕ → Bool
all_marked trips marks = all (length trips) (marked_test trips marks)

-- Rows are sets of nodes. Row i is that of node i: the nodes with a link into it or, once it is whole, all nodes with a walk to it. Links
-- with a closed head have rows of their own, that of head i at n + i, which only the search to that head reads (A.2).
abbrev pub row : List (List ℕ) → ℕ → List ℕ
row rows i = get_or rows i []

unfoldable pub row_place : ℕ → ℕ → ℕ → ℕ
row_place nodes head closed = cond (eqb closed 1) (nodes + head) head

abbrev pub row_of : ℕ → List (List ℕ) → ℕ → ℕ
row_of nodes links l = row_place nodes (head links l) (closed links l)

-- There are enough rows: the second n of them may be missing where every head is open.
pub record Room (nodes : ℕ) (all_open : Bool) (count : ℕ) : Type 0 where
  pub rows-open : nodes ≤ count
  pub rows-closed : all_open ≡ false → nodes + nodes ≤ count

-- Rows that mark no node.
pub record NoMarks (rows : List (List ℕ)) : Type 0 where
  pub pairs : (i : ℕ) → i < length rows → length (row rows i) ≡ 2
  pub none : (i j : ℕ) → marked (row rows i) j ≡ false

-- Node j is marked in row i, and the other marks are as they were.
pub record Marks (i j : ℕ) (before after : List (List ℕ)) : Type 0 where
  pub size : length after ≡ length before
  pub pairs : (a : ℕ) → a < length after → length (row after a) ≡ 2
  pub marks : (a b : ℕ) → marked (row after a) b ≡ (marked (row before a) b || (eqb i a && eqb j b))

-- Those of the first l links that a class is not barred from (A.7) have marked their tails in their rows, and there is no other mark.
pub record Tails (nodes : ℕ) (links : List (List ℕ)) (lorries : Bool) (l : ℕ) (rows : List (List ℕ)) : Type 0 where
  pub pairs : (i : ℕ) → i < length rows → length (row rows i) ≡ 2
  pub all : (k : ℕ) → k < l → barred_to links lorries k ≡ false → marked (row rows (row_of nodes links k)) (tail links k) ≡ true
  pub only : (i j : ℕ) → marked (row rows i) j ≡ true → (k : ℕ) × (k < l) × (barred_to links lorries k ≡ false) × (tail links k ≡ j) × (row_of nodes links k ≡ i)

-- The tails of the links into s.
unfoldable pub tails_into : ℕ → Bool → List (List ℕ) → ℕ → List ℕ
tails_into nodes all_open rows s = cond all_open (row rows s) (union (row rows s) (row rows (nodes + s)))

-- A walk over rows from node j to s, by its nodes after j: each node is marked in the row of the next.
abbrev pub IsWalk : List (List ℕ) → ℕ → ℕ → List ℕ → Type 0
IsWalk rows s j [] = j ≡ s
IsWalk rows s j (i ∷ walk) = (marked (row rows i) j ≡ true) × IsWalk rows s i walk

abbrev pub WalkTo : List (List ℕ) → ℕ → ℕ → Type 0
WalkTo rows s j = (walk : List ℕ) × IsWalk rows s j walk

-- A set of exactly the nodes with a walk to s: s itself, no node missing that a row of its nodes marks, and each with such a walk.
pub record Closure (rows : List (List ℕ)) (s : ℕ) (found : List ℕ) : Type 0 where
  pub mine : marked found s ≡ true
  pub onward : (i j : ℕ) → marked found i ≡ true → marked (row rows i) j ≡ true → marked found j ≡ true
  pub walks : (j : ℕ) → marked found j ≡ true → WalkTo rows s j

-- Rows that can be searched: they mark only nodes, and those of a set of nodes are whole.
pub record Rows (nodes : ℕ) (whole : List ℕ) (rows : List (List ℕ)) : Type 0 where
  pub few : nodes ≤ 128
  pub enough : nodes ≤ length rows
  pub below : (i j : ℕ) → marked (row rows i) j ≡ true → j < nodes
  pub closure : (i : ℕ) → marked whole i ≡ true → Closure rows i (row rows i)

-- Rows in which only nodes with a walk were marked.
pub record Grown (before after : List (List ℕ)) : Type 0 where
  pub size : length after ≡ length before
  pub keeps : (i j : ℕ) → marked (row before i) j ≡ true → marked (row after i) j ≡ true
  pub walks : (i j : ℕ) → marked (row after i) j ≡ true → WalkTo before i j

-- The nodes reached so far by a search to s, and those visited, whose rows are reached.
pub record Searching (rows : List (List ℕ)) (s : ℕ) (reached visited : List ℕ) : Type 0 where
  pub mine : marked reached s ≡ true
  pub walks : (j : ℕ) → marked reached j ≡ true → WalkTo rows s j
  pub seen : (i j : ℕ) → marked visited i ≡ true → marked (row rows i) j ≡ true → marked reached j ≡ true

-- The row of the lowest node that is reached, unvisited and whole, or no node.
unfoldable pub row_at : List (List ℕ) → ℕ → List ℕ
row_at rows j = cond (eqb j 128) (0 ∷ 0 ∷ []) (row rows j)

unfoldable pub whole_row : List (List ℕ) → List ℕ → List ℕ → List ℕ → List ℕ
whole_row rows whole reached visited = row_at rows (lowest_unvisited (common reached whole) visited)

-- Whether all nodes are reached; and the next node of a search, none where they are.
unfoldable pub all_reached : ℕ → List ℕ → Bool
all_reached nodes reached = eqb (lowest_unvisited (nodes_below nodes) reached) 128

unfoldable pub next_node : ℕ → List ℕ → List ℕ → ℕ
next_node nodes reached visited = cond (all_reached nodes reached) 128 (lowest_unvisited reached visited)

-- What a function that makes row j whole leaves: the rows, those that are whole, and the nodes that it found.
pub record Filled (nodes j : ℕ) (before : List (List ℕ)) (whole : List ℕ) (after : List (List ℕ)) (found : List ℕ) : Type 0 where
  pub grown : Grown before after
  pub rows : Rows nodes whole after
  pub closure : Closure before j found

-- The nodes reached so far from the tails of the links into s: each but s has a walk to a tail, and its row is reached.
pub record Reaching (rows : List (List ℕ)) (s : ℕ) (tails reached : List ℕ) : Type 0 where
  pub mine : marked reached s ≡ true
  pub onward : (i j : ℕ) → marked reached i ≡ true → (i ≡ s → ⊥) → marked (row rows i) j ≡ true → marked reached j ≡ true
  pub walks : (j : ℕ) → marked reached j ≡ true → (j ≡ s → ⊥) → (t : ℕ) × (marked tails t ≡ true) × WalkTo rows t j

-- What a search to s leaves and finds: no tail is missing.
pub record Reached (nodes s : ℕ) (tails : List ℕ) (before : List (List ℕ)) (whole : List ℕ) (after : List (List ℕ)) (reached : List ℕ) : Type 0 where
  pub grown : Grown before after
  pub rows : Rows nodes whole after
  pub reaching : Reaching before s tails reached
  pub tails-reached : (j : ℕ) → marked tails j ≡ true → marked reached j ≡ true

-- Nodes that pass the test of trips: the reached ones, and some without trips.
pub record Passed (trips reached passed : List ℕ) : Type 0 where
  pub keeps : (j : ℕ) → marked reached j ≡ true → marked passed j ≡ true
  pub passes : (j : ℕ) → marked passed j ≡ true → marked_test trips reached j ≡ true
