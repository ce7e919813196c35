-- Searches for eight commodities of one class side by side. They are a group, and each is called a destination of it. A table of marks has a row for
-- each node, with a mark for each destination of the group; the marks of one destination are a lane of the table.
use Rattle.std.specs.Prelude.{ℕ, ◌≤◌, ◌<◌, ◌≡◌, Bool, true, false, List, [], length, get_or, set, replicate}
use Rattle.theory.specs.Finite.{sum, tabulate}
use Rattle.theory.specs.Study.{node_of, of_lorries}
use Rattle.search.specs.Search.{routing_from, unreached, marks}
use Rattle.search.specs.Given.{Searchable, class_of}
use Rattle.search.specs.Marks.{all_unreached, total, relaxed, Searching, Hands, Scanning, Scanned, Entered, Scans}

-- The marks of destination i of the group.
unfoldable pub lane : ℕ → List (List ℕ) → List ℕ
lane i table = tabulate 128 (λ j. get_or (get_or table j []) i 0)

-- All of up to 128 nodes are marked unreached, for each destination.
unfoldable pub all_rows_unreached : List (List ℕ)
all_rows_unreached = replicate 128 (replicate 8 unreached)

-- The sum of all marks.
unfoldable pub totals : List (List ℕ) → ℕ
totals table = sum 8 (λ i. total (lane i table))

-- 128 rows of eight.
pub record Shaped (table : List (List ℕ)) : Type 0 where
  pub size : length table ≡ 128
  pub rows : (j : ℕ) → j < 128 → length (get_or table j []) ≡ 8

-- No mark is above unreached.
abbrev pub Marked : List (List ℕ) → Type 0
Marked table = (i : ℕ) → i < 8 → (j : ℕ) → j < 128 → get_or (lane i table) j 0 ≤ unreached

-- No mark of a row is above unreached.
abbrev pub RowMarked : List ℕ → Type 0
RowMarked row = (i : ℕ) → i < 8 → get_or row i 0 ≤ unreached

-- One link is relaxed in each lane, whose head has the marks `ahead`.
pub record EachRelaxed (before after : List (List ℕ)) (tail : ℕ) (ahead : List ℕ) (time : ℕ) : Type 0 where
  pub shaped : Shaped after
  pub each : (i : ℕ) → i < 8 → lane i after ≡ relaxed (lane i before) tail (get_or ahead i 0) time

-- One of the first k marks of a row is below the old one, or r is 0.
pub record Compared (row old : List ℕ) (k r : ℕ) : Type 0 where
  pub none-lower : r ≡ 0 → (i : ℕ) → i < k → get_or old i 0 ≤ get_or row i 0
  pub some-lower : 0 < r → (i : ℕ) × (i < k) × (get_or row i 0 < get_or old i 0)

-- One of the marks of a row is below the old one.
abbrev pub SomeFallen : List ℕ → List ℕ → Type 0
SomeFallen row old = (i : ℕ) × (i < 8) × (get_or row i 0 < get_or old i 0)

-- The network can be searched to each destination of the group, and all are of one class.
pub record EachSearchable (nodes : ℕ) (links : List (List ℕ)) (times group : List ℕ) : Type 0 where
  pub each : (i : ℕ) → i < 8 → Searchable nodes links times (get_or group i 0)
  pub one_class : (i : ℕ) → i < 8 → of_lorries (get_or group i 0) ≡ class_of group

-- No mark of the nodes below k is below the mark at the node's last scan.
abbrev pub EachQuiet : ℕ → List (List ℕ) → List (List ℕ) → Type 0
EachQuiet k table scanned = (i : ℕ) → i < 8 → (j : ℕ) → j < k → get_or (lane i scanned) j 0 ≤ get_or (lane i table) j 0

module _ (nodes : ℕ) (links : List (List ℕ)) (times group : List ℕ) where
  -- The searches are under way.
  pub record EachSearching (table : List (List ℕ)) : Type 0 where
    pub shaped : Shaped table
    pub each : (i : ℕ) → i < 8 → Searching nodes links times (get_or group i 0) (lane i table)

  -- What a place hands on in each lane.
  pub record EachHands (place : ℕ) (ahead : List ℕ) (table : List (List ℕ)) : Type 0 where
    pub each : (i : ℕ) → i < 8 → Hands nodes links times (get_or group i 0) place (get_or ahead i 0) (lane i table)

  -- The scan of a place is at link l.
  pub record EachScanning (place : ℕ) (ahead : List ℕ) (before after : List (List ℕ)) (l : ℕ) : Type 0 where
    pub shaped : Shaped after
    pub each : (i : ℕ) → i < 8 → Scanning nodes links times (get_or group i 0) place (get_or ahead i 0) (lane i before) (lane i after) l

  -- After the scan of a place.
  pub record EachScanned (place : ℕ) (ahead : List ℕ) (before after : List (List ℕ)) : Type 0 where
    pub shaped : Shaped after
    pub each : (i : ℕ) → i < 8 → Scanned nodes links times (get_or group i 0) place (get_or ahead i 0) (lane i before) (lane i after)

  -- The searches are under way, and in the first k lanes no link into the destination, where that is closed, gives its tail less than its mark.
  pub record EachEntered (k : ℕ) (table : List (List ℕ)) : Type 0 where
    pub searching : EachSearching table
    pub entered : (i : ℕ) → i < k → i < 8 → Entered nodes links times (get_or group i 0) (lane i table)

  -- The marks of the searches, and the marks that the nodes had when they were last scanned.
  pub record EachScans (table scanned : List (List ℕ)) : Type 0 where
    pub shaped : Shaped table
    pub shaped-scans : Shaped scanned
    pub each : (i : ℕ) → i < 8 → Scans nodes links times (get_or group i 0) (lane i table) (lane i scanned)

  -- A node of which some marks had fallen has been scanned.
  pub record Rescanned (scanned₀ table scanned : List (List ℕ)) : Type 0 where
    pub scans : EachScans table scanned
    pub falls : totals scanned < totals scanned₀

  -- Of the nodes below k those have been scanned of which some marks had fallen, or there was none (r). If there was one, the sum of the marks at the
  -- last scans fell below `most`.
  pub record Swept (k most : ℕ) (table scanned : List (List ℕ)) (r : Bool) : Type 0 where
    pub scans : EachScans table scanned
    pub no_more : totals scanned ≤ most
    pub falls : r ≡ true → totals scanned < most
    pub quiet : r ≡ false → EachQuiet k table scanned

-- The first k destinations of a group are marked as such, and nothing else is reached.
pub record SetOut (group : List ℕ) (k : ℕ) (table : List (List ℕ)) : Type 0 where
  pub shaped : Shaped table
  pub marked : (i : ℕ) → i < k → lane i table ≡ set all_unreached (node_of (get_or group i 0)) 0
  pub rest : (i : ℕ) → k ≤ i → i < 8 → lane i table ≡ all_unreached

-- The least times to each destination of the group.
pub record Found (nodes : ℕ) (links : List (List ℕ)) (times group : List ℕ) (table : List (List ℕ)) : Type 0 where
  pub least : (i : ℕ) → i < 8 → lane i table ≡ marks (routing_from nodes links times (get_or group i 0))
  pub marked : Marked table
