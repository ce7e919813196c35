-- The fields of a study in rows: the entries of a section, read from its own bytes.
use Rattle.std.specs.Prelude.{ℕ, ◌+◌, ◌*◌, ◌≤◌, ◌<◌, Bool, not, ◌&&◌, List, [], ◌≡◌, ltb, length, get_or, take, set}
use Rattle.study.specs.Fields.{destination, trips, mark_byte, HasLink, HasDestination, HasTrips}
use Rattle.study.specs.Header.{version}
use Rattle.study.specs.Questions.{refusal}
use Rattle.study.specs.Sections.{nodes, links, destinations}
use Rattle.theory.specs.Finite.{tabulate}
use Rattle.theory.specs.Study.{lorries_to}
use Rattle.calls.specs.Study.{as_mark, link_row, link_rows, commodities, trip_entries}
use Rattle.network.specs.declared.decoding.Opening.{Opening}

-- An array of a given size holds a list in its first places.
pub record Holds {A : Type 0} (size : ℕ) (list array : List A) : Type 0 where
  pub long : length array ≡ size
  pub front : take (length list) array ≡ list

-- The rows of the first m links.
unfoldable pub link_rows_in : List ℕ → ℕ → List ℕ → List ℕ → ℕ → List (List ℕ)
link_rows_in link_bytes link_size closed_bytes barred_bytes m = tabulate m (link_row link_bytes link_size closed_bytes barred_bytes)

-- The first m rows of an array are changed, each by itself, and the others are as they were.
pub record Changed (change : ℕ → List ℕ → List ℕ) (m : ℕ) (before after : List (List ℕ)) : Type 0 where
  pub long : length after ≡ length before
  pub changed : (l : ℕ) → l < m → get_or after l [] ≡ change l (get_or before l [])
  pub others : (l : ℕ) → m ≤ l → get_or after l [] ≡ get_or before l []

-- A row with a mark of the closed byte of its head, and with one of its barred byte, joined to the last number.
abbrev pub closed_marked : List ℕ → ℕ → List ℕ → List ℕ
closed_marked closed_bytes l row = set row 5 (get_or row 5 0 + as_mark (mark_byte closed_bytes (get_or row 1 0)))

abbrev pub barred_marked : List ℕ → ℕ → List ℕ → List ℕ
barred_marked barred_bytes l row = set row 5 (get_or row 5 0 + 2 * as_mark (mark_byte barred_bytes l))

-- There is room for marks in the last numbers of the first m rows.
unfoldable pub Markable : ℕ → List (List ℕ) → Type 0
Markable m links = (l : ℕ) → l < m → get_or (get_or links l []) 5 0 ≤ 65532

-- The nodes of the first p destinations.
unfoldable pub nodes_in : List ℕ → ℕ → List ℕ
nodes_in destination_bytes p = tabulate p (destination destination_bytes)

-- (A.7) The commodities of lorries to the first p destinations.
unfoldable pub lorries_in : List ℕ → ℕ → List ℕ
lorries_in destination_bytes p = tabulate p (λ k. lorries_to (destination destination_bytes k))

-- So many entries of the trips, as they stand: as if they were of one destination.
unfoldable pub entries_in : List ℕ → ℕ → List ℕ
entries_in trip_bytes entries = tabulate entries (trips trip_bytes entries 0)

-- What decoding asks of a section: the bytes of so many links, destinations or entries of trips are there.
unfoldable pub HasLinks : List ℕ → ℕ → ℕ → Type 0
HasLinks link_bytes link_size m = (l : ℕ) → l < m → HasLink link_bytes link_size l

unfoldable pub HasDestinations : List ℕ → ℕ → Type 0
HasDestinations destination_bytes p = (k : ℕ) → k < p → HasDestination destination_bytes k

unfoldable pub HasEntries : List ℕ → ℕ → Type 0
HasEntries trip_bytes entries = (i : ℕ) → i < entries → HasTrips trip_bytes entries 0 i

-- Whether a file's version has lorries (A.7), for any bytes: those too short for a header have none.
unfoldable pub has_lorries : List ℕ → Bool
has_lorries file = not (ltb (length file) 32) && ltb 3 (version file)

-- What decoding asks of the places that it is lent: one for each link, and one for each entry of the trips.
pub record Room (file : List ℕ) (link_places entry_places : ℕ) : Type 0 where
  pub for-links : links file ≤ link_places
  pub for-entries : length (commodities file) * nodes file ≤ entry_places

-- What decoding makes of a file: the number of the first of questions 1 to 5 that refuses it, or 0; n, m, p and the number of commodities; and
-- its rows in the first places of three arrays.
pub record Decoded (file : List ℕ) (opening : Opening) (link_array : List (List ℕ)) (node_array entry_array : List ℕ) : Type 0 where
  pub refusal_is : opening.refusal ≡ refusal file
  pub nodes-are : opening.nodes ≡ nodes file
  pub links-are : opening.links ≡ links file
  pub destinations-are : opening.destinations ≡ destinations file
  pub commodities-are : opening.commodities ≡ length (commodities file)
  pub links-within : opening.links ≤ length link_array
  pub commodities-within : opening.commodities ≤ length node_array
  pub trips-within : opening.commodities * opening.nodes ≤ length entry_array
  pub links-held : take opening.links link_array ≡ link_rows file
  pub commodities-held : take opening.commodities node_array ≡ commodities file
  pub entries-held : take (opening.commodities * opening.nodes) entry_array ≡ trip_entries file

-- The counts of a file, which are within bounds.
pub record Counts (file : List ℕ) (n m p : ℕ) : Type 0 where
  pub nodes-are : n ≡ nodes file
  pub links-are : m ≡ links file
  pub destinations-are : p ≡ destinations file
  pub nodes-most : n ≤ 128
  pub links-most : m ≤ 512
  pub destinations-most : p ≤ 32
