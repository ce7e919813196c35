-- A note followed for one commodity, and for all.
use Rattle.std.specs.Prelude.{ℕ, ◌+◌, ◌*◌, ◌≤◌, ◌<◌, ◌≡◌, Bool, true, not, ◌&&◌, ◌||◌, List, [], ◌⊎◌, ◌≢◌, length, get_or, replicate, eqb, ltb}
use Rattle.std.proofs.Math.Option.{some}
use Rattle.theory.specs.Finite.{all}
use Rattle.theory.specs.Routes.{Routing, distance, is_some}
use Rattle.theory.specs.Study.{tail, head, node_of, may_use, no_link}
use Rattle.theory.specs.Laws.Noted.{along_note, Counted}

-- A commodity of a study, every link with time 1.
abbrev pub toward : ℕ → List (List ℕ) → ℕ → Routing
toward n links commodity =
    record {
      nodes = n;
      links = length links;
      tail = tail links;
      head = head links;
      usable = may_use links commodity;
      destination = node_of commodity;
      time = λ l. get_or (replicate (length links) 1) l 0;
    }

-- What a note has at a node, where the commodity's links stand from place `first` on.
abbrev pub noted_from : List ℕ → ℕ → ℕ → ℕ
noted_from note first j = get_or note (first + j) 0

-- The routing along the note's links to the destination: a node has a distance where the note leads from it.
abbrev pub by_note : ℕ → List (List ℕ) → ℕ → List ℕ → ℕ → Routing
by_note n links commodity note first = along_note (toward n links commodity) (noted_from note first)

-- What following a note asks: few nodes and links, ends and destination that are nodes, and a link for each node in the note.
pub record Readable (n : ℕ) (links : List (List ℕ)) (commodity : ℕ) (note : List ℕ) (first : ℕ) : Type 0 where
  pub few-nodes : n ≤ 128
  pub few-links : length links ≤ 512
  pub tail-node : (l : ℕ) → l < length links → tail links l < n
  pub head-node : (l : ℕ) → l < length links → head links l < n
  pub destination-node : node_of commodity < n
  pub has-links : first + n ≤ length note
  pub few-numbers : first ≤ 8192

-- The note leads from a node.
pub record Leading (n : ℕ) (links : List (List ℕ)) (commodity : ℕ) (note : List ℕ) (first j : ℕ) : Type 0 where
  pub node : j < n
  pub links-ahead : ℕ
  pub ahead : distance (by_note n links commodity note first) j ≡ some links-ahead

-- A walk along the note from a node stands at node j after some steps: the note leads from one where it does from the other.
pub record Walking (n : ℕ) (links : List (List ℕ)) (commodity : ℕ) (note : List ℕ) (first from j steps : ℕ) : Type 0 where
  pub origin : from < n
  pub node : j < n
  pub few : steps ≤ n
  pub forth : (z : ℕ) → distance (by_note n links commodity note first) from ≡ some z → (y : ℕ) × (distance (by_note n links commodity note first) j ≡ some y) × (z ≡ steps + y)
  pub back : (y : ℕ) → distance (by_note n links commodity note first) j ≡ some y → is_some (distance (by_note n links commodity note first) from) ≡ true

-- A node is the destination, or where the walk stands, or has its next link written.
abbrev pub Reached : ℕ → ℕ → List ℕ → ℕ → Type 0
Reached s at row j = (j ≡ s) ⊎ ((j ≡ at) ⊎ (get_or row j 0 ≢ no_link))

-- A next link that is written is the note's, counts, and leads on to such a node, and the note leads from there to the destination.
pub record SettledAt (n : ℕ) (links : List (List ℕ)) (commodity : ℕ) (note : List ℕ) (first at : ℕ) (row : List ℕ) (j : ℕ) : Type 0 where
  pub noted : get_or row j 0 ≡ noted_from note first j
  pub counted : Counted (toward n links commodity) j (noted_from note first j)
  pub leading : Leading n links commodity note first j
  pub onward : Reached (node_of commodity) at row (head links (noted_from note first j))

-- The next links that are written, while a walk that writes them stands at a node; when it is over, at the destination.
pub record Settled (n : ℕ) (links : List (List ℕ)) (commodity : ℕ) (note : List ℕ) (first at : ℕ) (row : List ℕ) : Type 0 where
  pub size : length row ≡ 128
  pub settled : (j : ℕ) → j < n → get_or row j 0 ≢ no_link → SettledAt n links commodity note first at row j

-- Where a walk need go no further.
abbrev pub is_settled : List ℕ → ℕ → ℕ → Bool
is_settled row s j = eqb j s || not (eqb (get_or row j 0) no_link)

-- A link by which trips of a commodity may go on from a node.
abbrev pub may_follow : List (List ℕ) → ℕ → ℕ → ℕ → Bool
may_follow links commodity j l = ltb l (length links) && eqb (tail links l) j && may_use links commodity l

-- What is written stays.
abbrev pub Kept : List ℕ → List ℕ → Type 0
Kept row₀ row = (j : ℕ) → get_or row₀ j 0 ≢ no_link → get_or row j 0 ≢ no_link

-- The way of each link that is written set out from a node below k.
pub record Origins (n k : ℕ) (row origin : List ℕ) : Type 0 where
  pub size : length origin ≡ 128
  pub below : (j : ℕ) → j < n → get_or row j 0 ≢ no_link → get_or origin j 0 < k

-- A link of the way under way, which stands at a node: the note leads from it exactly where it does from there, by fewer links.
pub record PassedAt (n : ℕ) (links : List (List ℕ)) (commodity : ℕ) (note : List ℕ) (first at : ℕ) (row : List ℕ) (j : ℕ) : Type 0 where
  pub noted : get_or row j 0 ≡ noted_from note first j
  pub counted : Counted (toward n links commodity) j (noted_from note first j)
  pub onward : Reached (node_of commodity) at row (head links (noted_from note first j))
  pub ahead : (y : ℕ) → distance (by_note n links commodity note first) j ≡ some y → (x : ℕ) × (distance (by_note n links commodity note first) at ≡ some x) × (x < y)
  pub back : (x : ℕ) → distance (by_note n links commodity note first) at ≡ some x → (y : ℕ) × (distance (by_note n links commodity note first) j ≡ some y)

-- A way from a node that writes its links stands at a node after some steps.
pub record Tracing (n : ℕ) (links : List (List ℕ)) (commodity : ℕ) (note : List ℕ) (first from : ℕ) (row₀ : List ℕ) (at steps : ℕ) (row origin : List ℕ) : Type 0 where
  pub walking : Walking n links commodity note first from at steps
  pub size : length row ≡ 128
  pub origins : Origins n (from + 1) row origin
  pub earlier : (j : ℕ) → j < n → get_or row j 0 ≢ no_link → get_or origin j 0 ≢ from → SettledAt n links commodity note first at row j
  pub own : (j : ℕ) → j < n → get_or row j 0 ≢ no_link → get_or origin j 0 ≡ from → PassedAt n links commodity note first at row j
  pub reached : Reached (node_of commodity) at row from
  pub kept : Kept row₀ row

-- Such a way at its end, where the note leads to the destination.
pub record Traced (n : ℕ) (links : List (List ℕ)) (commodity : ℕ) (note : List ℕ) (first from : ℕ) (row₀ row origin : List ℕ) : Type 0 where
  pub settled : Settled n links commodity note first (node_of commodity) row
  pub origins : Origins n (from + 1) row origin
  pub reached : Reached (node_of commodity) (node_of commodity) row from
  pub kept : Kept row₀ row

-- Question 21 of the nodes below k, for one commodity.
unfoldable pub row_leads : ℕ → List (List ℕ) → ℕ → List ℕ → ℕ → (ℕ → ℕ) → ℕ → Bool
row_leads n links commodity note first trips k = all k (λ j. eqb (trips j) 0 || is_some (distance (by_note n links commodity note first) j))

-- The next links of those of them with trips are written, and all on their way.
pub record Followed (n : ℕ) (links : List (List ℕ)) (commodity : ℕ) (note : List ℕ) (first : ℕ) (trips : ℕ → ℕ) (k : ℕ) (row : List ℕ) : Type 0 where
  pub settled : Settled n links commodity note first (node_of commodity) row
  pub reached : (j : ℕ) → j < k → trips j ≢ 0 → Reached (node_of commodity) (node_of commodity) row j

-- Question 21 of the first k commodities. The links of commodity q stand in the note from place 1 + q·n on.
unfoldable pub note_follows : ℕ → List (List ℕ) → List ℕ → List ℕ → List ℕ → ℕ → Bool
note_follows n links commodities trips note k =
    all k (λ q. row_leads n links (get_or commodities q 0) note (1 + q * n) (λ j. get_or trips (q * n + j) 0) n)

-- What that asks.
pub record AllReadable (n : ℕ) (links : List (List ℕ)) (commodities trips note : List ℕ) : Type 0 where
  pub few-nodes : n ≤ 128
  pub few-links : length links ≤ 512
  pub few-commodities : length commodities ≤ 64
  pub tail-node : (l : ℕ) → l < length links → tail links l < n
  pub head-node : (l : ℕ) → l < length links → head links l < n
  pub destination-node : (k : ℕ) → k < length commodities → node_of (get_or commodities k 0) < n
  pub has-trips : length trips ≡ length commodities * n
  pub has-links : length commodities * n < length note

-- Rows of next links: the first k of them are followed.
pub record AllFollowed (n : ℕ) (links : List (List ℕ)) (commodities trips note : List ℕ) (k : ℕ) (rows : List (List ℕ)) : Type 0 where
  pub size : length commodities ≤ length rows
  pub row : (q : ℕ) → q < k → Followed n links (get_or commodities q 0) note (1 + q * n) (λ j. get_or trips (q * n + j) 0) n (get_or rows q [])
