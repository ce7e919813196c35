-- What the searches ask of what they are given.
use Rattle.std.specs.Prelude.{ℕ, ◌≤◌, ◌<◌, ◌≡◌, Bool, List, length, get_or}
use Rattle.theory.specs.Study.{tail, head, node_of, of_lorries}

-- The longest time of a link: a free time of 16,383 and 256 times a rise of as much.
abbrev pub longest : ℕ
longest = 4210431

-- The class of a list of commodities is that of the first: true where they are of lorries.
abbrev pub class_of : List ℕ → Bool
class_of commodities = of_lorries (get_or commodities 0 0)

-- At most 128 nodes and 512 links, link ends among the nodes, times from 1 to the longest.
pub record Roads (nodes : ℕ) (links : List (List ℕ)) (times : List ℕ) : Type 0 where
  pub few-nodes : nodes ≤ 128
  pub few-links : length links ≤ 512
  pub tail-node : (l : ℕ) → l < length links → tail links l < nodes
  pub head-node : (l : ℕ) → l < length links → head links l < nodes
  pub some-time : (l : ℕ) → l < length links → 1 ≤ get_or times l 0
  pub short-time : (l : ℕ) → l < length links → get_or times l 0 ≤ longest

-- A search for a commodity, whose destination is one of the nodes.
pub record Searchable (nodes : ℕ) (links : List (List ℕ)) (times : List ℕ) (s : ℕ) : Type 0 where
  pub roads : Roads nodes links times
  pub destination-node : node_of s < nodes

-- Searches for at most 32 commodities of one class.
pub record AllSearchable (nodes : ℕ) (links : List (List ℕ)) (destinations times : List ℕ) : Type 0 where
  pub roads : Roads nodes links times
  pub few-destinations : length destinations ≤ 32
  pub destination-node : (k : ℕ) → k < length destinations → node_of (get_or destinations k 0) < nodes
  pub one_class : (k : ℕ) → k < length destinations → of_lorries (get_or destinations k 0) ≡ class_of destinations
