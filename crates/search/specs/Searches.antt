-- What is said of a search for the destinations of a group, by the names of its parts.
use Rattle.std.specs.Prelude.{ℕ, List, [], get_or}
use Rattle.search.specs.declared.scans.Search.{Search}
use Rattle.search.specs.Lanes.{EachSearching, EachHands, EachScanned, EachEntered, EachScans, SomeFallen, Rescanned, Found}

-- One of the marks of node j is below what it was at the node's last scan.
abbrev pub NodeFallen : ℕ → List (List ℕ) → List (List ℕ) → Type 0
NodeFallen j table scanned = SomeFallen (get_or table j []) (get_or scanned j [])

module _ (s : Search) where
  abbrev pub UnderWay : List (List ℕ) → Type 0
  UnderWay table = EachSearching s.nodes s.links.now s.times.now s.group table

  abbrev pub HandsOn : ℕ → List ℕ → List (List ℕ) → Type 0
  HandsOn place ahead table = EachHands s.nodes s.links.now s.times.now s.group place ahead table

  abbrev pub PlaceScanned : ℕ → List ℕ → List (List ℕ) → List (List ℕ) → Type 0
  PlaceScanned place ahead before after = EachScanned s.nodes s.links.now s.times.now s.group place ahead before after

  abbrev pub EnteredBelow : ℕ → List (List ℕ) → Type 0
  EnteredBelow k table = EachEntered s.nodes s.links.now s.times.now s.group k table

  abbrev pub NodesScanned : List (List ℕ) → List (List ℕ) → Type 0
  NodesScanned table scanned = EachScans s.nodes s.links.now s.times.now s.group table scanned

  abbrev pub NodeRescanned : List (List ℕ) → List (List ℕ) → List (List ℕ) → Type 0
  NodeRescanned scanned₀ table scanned = Rescanned s.nodes s.links.now s.times.now s.group scanned₀ table scanned

  abbrev pub LeastFound : List (List ℕ) → Type 0
  LeastFound table = Found s.nodes s.links.now s.times.now s.group table
