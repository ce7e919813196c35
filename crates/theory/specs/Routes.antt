-- Document 01, 'Least times and loading', for one destination.
use Rattle.std.specs.Prelude.{ℕ, zero, suc, ◌+◌, ◌*◌, ◌<◌, ◌≡◌, Bool, true, false, ◌&&◌, cond, List, [], ◌∷◌, get_or, eqb, leb}
use Rattle.std.proofs.Math.Option.{Option, none, some}
use Rattle.theory.specs.Finite.{sum, first, tabulate, rows}
use Rattle.theory.specs.Network.{Network}

-- What a search for least times to one destination goes by.
pub record Routing : Type 0 where
  pub nodes : ℕ
  pub links : ℕ
  pub tail : ℕ → ℕ
  pub head : ℕ → ℕ
  pub usable : ℕ → Bool
  pub destination : ℕ
  pub time : ℕ → ℕ

-- The routing of a commodity at the times of a list, by link.
abbrev pub routing : Network → List ℕ → ℕ → Routing
routing g t k =
    record {
      nodes = g.nodes;
      links = g.links;
      tail = g.tail;
      head = g.head;
      usable = g.may_use k;
      destination = g.destination k;
      time = λ l. get_or t l 0;
    }

-- A path from a node to the destination: its links in order. The destination has the path of no links.
abbrev pub IsPath : Routing → ℕ → List ℕ → Type 0
IsPath q j [] = j ≡ q.destination
IsPath q j (l ∷ path) = (l < q.links) × (q.usable l ≡ true) × (q.tail l ≡ j) × IsPath q (q.head l) path

-- The sum of link times over a path.
abbrev pub path_time : Routing → List ℕ → ℕ
path_time q [] = 0
path_time q (l ∷ path) = q.time l + path_time q path

-- A distance is a number, or `none` for a node without a path. The lesser of two:
abbrev pub lesser : Option ℕ → Option ℕ → Option ℕ
lesser none b = b
lesser (some x) none = some x
lesser (some x) (some y) = some (cond (leb x y) x y)

-- a distance after a further time:
abbrev pub later : ℕ → Option ℕ → Option ℕ
later t none = none
later t (some x) = some (t + x)

-- the least of f 0, .., f (n - 1):
unfoldable pub least_of : ℕ → (ℕ → Option ℕ) → Option ℕ
least_of zero f = none
least_of (suc n) f = lesser (least_of n f) (f n)

-- One round over the links: the destination has 0, and any other node the least of its usable links' times plus what the round before
-- has for the link's head.
unfoldable pub from_head : Routing → List (Option ℕ) → ℕ → ℕ → Option ℕ
from_head q d j l = cond (eqb (q.tail l) j && q.usable l) (later (q.time l) (get_or d (q.head l) none)) none

unfoldable pub round : Routing → List (Option ℕ) → List (Option ℕ)
round q d = tabulate q.nodes (λ j. cond (eqb j q.destination) (some 0) (least_of q.links (from_head q d j)))

-- A search sets out with all nodes marked unreached; round i has the least sum over paths of fewer than i links.
unfoldable pub rounds : Routing → ℕ → List (Option ℕ)
rounds q zero = tabulate q.nodes (λ j. none)
rounds q (suc i) = round q (rounds q i)

-- The distances of all nodes: the least sum of link times over paths, 0 at the destination itself.
unfoldable pub distances : Routing → List (Option ℕ)
distances q = rounds q q.nodes

abbrev pub distance : Routing → ℕ → Option ℕ
distance q j = get_or (distances q) j none

abbrev pub is_some : Option ℕ → Bool
is_some none = false
is_some (some x) = true

abbrev pub same_distance : Option ℕ → Option ℕ → Bool
same_distance none b = false
same_distance (some x) none = false
same_distance (some x) (some y) = eqb x y

-- The link fits as a node's next link: it leads out of it, and its time plus its head's distance equals the node's own distance.
unfoldable pub fits_next : Routing → List (Option ℕ) → ℕ → ℕ → Bool
fits_next q d j l = same_distance (from_head q d j l) (get_or d j none)

-- A node's next link is the lowest-numbered one that fits. A node without a path has none, and so has the destination, where every
-- time is at least 1.
unfoldable pub next_links : Routing → List (Option ℕ)
next_links q = let d = distances q in tabulate q.nodes (λ j. first q.links (fits_next q d j))

-- The links that a trip from a node goes by along next links, at most `most` of them.
unfoldable pub walk : (ℕ → ℕ) → List (Option ℕ) → ℕ → ℕ → List ℕ
walk head next zero j = []
walk head next (suc most) j = elim (get_or next j none) [ none ↦ [] | some l ↦ l ∷ walk head next most (head l) ]

-- How often a link stands in a walk.
abbrev pub occurrences : ℕ → List ℕ → ℕ
occurrences l [] = 0
occurrences l (x ∷ rest) = cond (eqb x l) 1 0 + occurrences l rest

-- What trips from the nodes send over each link along next links. No walk that ends has as many links as there are nodes.
unfoldable pub sent_along : ℕ → ℕ → (ℕ → ℕ) → List (Option ℕ) → (ℕ → ℕ) → List ℕ
sent_along nodes links head next trips =
    let walks = tabulate nodes (walk head next nodes) in
    tabulate links (λ l. sum nodes (λ j. trips j * occurrences l (get_or walks j [])))

-- The loading Y of one destination, by link: all D(j,s) are sent along next links.
unfoldable pub loading_row : Routing → (ℕ → ℕ) → List ℕ
loading_row q trips = sent_along q.nodes q.links q.head (next_links q) trips

-- The loading Y of all commodities at the times of a list: a table of share 1.
unfoldable pub loading : Network → List ℕ → List ℕ
loading g t = rows g.commodities (λ k. loading_row (routing g t k) (g.trips k))
