-- A least-time search for a commodity, as the marks of the nodes stand in a list. A node is scanned: each link into it that the commodity is not
-- barred from is relaxed, which lowers its tail's mark to the link's time plus the node's mark, where that is less. Of a closed node only the
-- search to that node relaxes the links into it.
use Rattle.std.specs.Prelude.{ℕ, ◌+◌, ◌-◌, ◌*◌, ◌%◌, ◌≤◌, ◌<◌, min, ◌≡◌, true, false, cond, List, ◌⊎◌, length, get_or, set, replicate, ltb}
use Rattle.std.proofs.Math.Option.{Option, none, some}
use Rattle.theory.specs.Finite.{sum}
use Rattle.theory.specs.Study.{tail, head, closed, node_of, of_lorries, barred_to, may_use}
use Rattle.search.specs.Search.{unreached}
use Rattle.search.specs.Given.{longest}
use Rattle.search.specs.Chains.{end_of, Passed}

-- What a search sets out from: all of up to 128 nodes are marked unreached.
unfoldable pub all_unreached : List ℕ
all_unreached = replicate 128 unreached

-- The distance that a mark stands for.
unfoldable pub distance_of : ℕ → Option ℕ
distance_of x = cond (ltb x unreached) (some x) none

-- The sum of all marks.
unfoldable pub total : List ℕ → ℕ
total d = sum 128 (λ j. get_or d j 0)

-- 1 for a mark that is reached.
abbrev pub reach : ℕ → ℕ
reach x = min 1 (unreached - x)

-- How many nodes are reached.
unfoldable pub reached : List ℕ → ℕ
reached d = sum 128 (λ j. reach (get_or d j 0))

-- The marks after a link out of node t is relaxed, whose head has the mark `ahead`.
unfoldable pub relaxed : List ℕ → ℕ → ℕ → ℕ → List ℕ
relaxed d t ahead time = cond (ltb (time + ahead) (get_or d t 0)) (set d t (time + ahead)) d

module _ (nodes : ℕ) (links : List (List ℕ)) (times : List ℕ) where
  -- A node's mark is at least what a link out of it gives that may be used, and that link's head is reached.
  pub record Attained (s : ℕ) (d : List ℕ) (j : ℕ) : Type 0 where
    pub link : ℕ
    pub below : link < length links
    pub usable : may_use links s link ≡ true
    pub leaves : tail links link ≡ j
    pub head-reached : get_or d (head links link) 0 < unreached
    pub at_least : get_or times link 0 + get_or d (head links link) 0 ≤ get_or d j 0

  -- The marks of a search under way.
  pub record Searching (s : ℕ) (d : List ℕ) : Type 0 where
    pub size : length d ≡ 128
    pub destination : get_or d (node_of s) 0 ≡ 0
    pub marked : (j : ℕ) → j < 128 → get_or d j 0 ≤ unreached
    pub outside : (j : ℕ) → nodes ≤ j → j < 128 → get_or d j 0 ≡ unreached
    pub attained : (j : ℕ) → j < nodes → (j ≡ node_of s → ⊥) → get_or d j 0 < unreached → Attained s d j
    -- a reached mark is at most the longest time for each other node that is reached
    pub bounded : (j : ℕ) → j < 128 → get_or d j 0 < unreached → get_or d j 0 + longest ≤ longest * reached d

  -- What a place hands on to the tails of the links that end there: nothing, or where these may be used the mark of the node.
  pub record Hands (s place ahead : ℕ) (d : List ℕ) : Type 0 where
    pub on :
        (ahead ≡ unreached)
        ⊎ (((l : ℕ) → l < length links → end_of (of_lorries s) links 1 l ≡ place → may_use links s l ≡ true) × (ahead ≡ get_or d (place % 128) 0))

  -- No link that ends at the place and is passed gives its tail less than its mark; the scan began with the marks d₀.
  pub record Scanning (s place ahead : ℕ) (d₀ d : List ℕ) (l : ℕ) : Type 0 where
    pub searching : Searching s d
    pub no_more : (j : ℕ) → get_or d j 0 ≤ get_or d₀ j 0
    pub kept : Hands s place ahead d
    pub settled : Passed (of_lorries s) links 1 place (λ i. get_or d (tail links i) 0 ≤ get_or times i 0 + ahead) l

  -- After the scan of a place, none does.
  pub record Scanned (s place ahead : ℕ) (d₀ d : List ℕ) : Type 0 where
    pub searching : Searching s d
    pub no_more : (j : ℕ) → get_or d j 0 ≤ get_or d₀ j 0
    pub settled : (l : ℕ) → l < length links → end_of (of_lorries s) links 1 l ≡ place → get_or d (tail links l) 0 ≤ get_or times l 0 + ahead

  -- No link into the destination, where that is closed, gives its tail less than its mark, of those that the commodity is not barred from.
  abbrev pub Entered : ℕ → List ℕ → Type 0
  Entered s d =
      (l : ℕ) → l < length links → barred_to links (of_lorries s) l ≡ false → closed links l ≡ 1 → head links l ≡ node_of s
      → get_or d (tail links l) 0 ≤ get_or times l 0

  -- The marks d of a search, and the marks p that the nodes had when they were last scanned.
  pub record Scans (s : ℕ) (d p : List ℕ) : Type 0 where
    pub searching : Searching s d
    pub entered : Entered s d
    pub size : length p ≡ 128
    pub above : (j : ℕ) → j < 128 → get_or d j 0 ≤ get_or p j 0
    pub settled : (l : ℕ) → l < length links → barred_to links (of_lorries s) l ≡ false → (closed links l ≡ 1 → ⊥)
        → get_or d (tail links l) 0 ≤ get_or times l 0 + get_or p (head links l) 0
