-- Arrays that hold a list in their first places: how a loop fills one, and what the sections of a file fill them with.
use Rattle.std.specs.Prelude.{ℕ, ◌+◌, ◌*◌, ◌-◌, ◌≤◌, ◌<◌, true, false, not, ◌≡◌, refl, ltb, take, drop, set}
use Rattle.std.proofs.Common.{le_refl, mul-le-mul, add-one, arith, ⊎_elim, ◌∙◌, ltb-true, ltb-false, le-ltb, length-append, length-set, length-take, length-drop, take-suc-set, get_or-set_same, get_or-set_other, ext_get_or}
use mathlib.Core.List.{List, [], ◌∷◌, ◌++◌, append_assoc}
use Rattle.std.proofs.Math.Path.{sym, ap}
use Rattle.std.proofs.Math.ListN.{length, get_or}
use Rattle.std.proofs.Math.Seq.{length-take-le, take-append-add, get_or-take}
use Rattle.std.proofs.lemmas.List.{take-append-le, set-get_or}
use Rattle.study.specs.Fields.{tail, head, free_time, rise, capacity, power, trips, mark_byte, HasTrips}
use Rattle.study.specs.Bytes.{u16}
use Rattle.study.specs.Versions.{form_of}
use Rattle.study.specs.Header.{version, has_section, offset, size}
use Rattle.study.specs.Laws.{accepted, nodes-refused, links-refused, destinations-refused, link-bytes-least, trip-length, lorry-length, part-most, part-accepted, part-refused, no-section, no-lorries, in_order, ends-within, has-link, has-destination}
use Rattle.study.specs.Questions.{refusal}
use Rattle.study.specs.Sections.{nodes, links, destinations, lorry_destinations, link_size, part, link_part, destination_part, trip_part, closed_part, lorry_part, barred_part}
use Rattle.theory.specs.Finite.{tabulate, rows}
use Rattle.theory.specs.Study.{AllFourth, closed, barred, head as head_in}
use Rattle.theory.specs.Laws.Cases.{on-equal, on_test}
use Rattle.theory.specs.Laws.Finite.{order, length-tabulate, get_d_tabulate, tabulate-cong, tabulate-suc, rows-flat}
use Rattle.calls.specs.Study.{as_byte, as_mark, link_row, link_rows, destination_nodes, commodities, entries_to, trip_entries}
use Rattle.calls.specs.Laws.Commodities.{commodities-long, cars-first, entries-long, all-or-none}
use Rattle.calls.specs.Laws.Networks.{mark-most, links-length, closed-head, barred-link, fourth-powers}
use Rattle.network.specs.declared.decoding.Opening.{Opening}
use Rattle.network.specs.Decoded.{Holds, link_rows_in, nodes_in, lorries_in, entries_in, HasLinks, HasDestinations, HasEntries, Changed, closed_marked, barred_marked, Markable, has_lorries, Room, Decoded, Counts}

no-entries : {A : Type 0} (list : List A) → length list ≡ 0 → list ≡ []
no-entries [] e = refl
no-entries (x ∷ list) e = absurd (omega arith)

module _ {A : Type 0} (size : ℕ) where
  -- Every array holds the list of no entries.
  pub holds-none : {array : List A} → length array ≡ size → Holds size [] array
  holds-none long = record { long = long; front = refl }

  -- An array whose next place is set holds one entry more.
  holds_more : (list : List A) (x : A) {array : List A} → Holds size list array → length list < size → Holds size (list ++ (x ∷ [])) (set array (length list) x)
  holds_more list x {array} held h =
      let more : length (list ++ (x ∷ [])) ≡ length list + 1 = length-append list (x ∷ []) in
      record {
        long = length-set array (length list) x ∙ held.long;
        front = rw (more, add-one, take-suc-set array (length list) x (omega (arith, held.long)), held.front);
      }

  -- So it is where the list ends in entries by index, after others in front:
  pub holds_after : (front : List A) (f : ℕ → A) (i at : ℕ) {array : List A} {x : A} → at ≡ length front + i → at < size → Holds size (front ++ tabulate i f) array → x ≡ f i → Holds size (front ++ tabulate (i + 1) f) (set array at x)
  holds_after front f i at place h held read =
      let end : at ≡ length (front ++ tabulate i f) = omega (arith, length-append front (tabulate i f), length-tabulate i f) in
      rw (end, read, tabulate-suc i f, ← append_assoc front (tabulate i f) (f i ∷ []))
      (holds_more (front ++ tabulate i f) (f i) held (omega arith))

  -- or after none.
  pub holds-next : (f : ℕ → A) (i : ℕ) {array : List A} {x : A} → i < size → Holds size (tabulate i f) array → x ≡ f i → Holds size (tabulate (i + 1) f) (set array i x)
  holds-next f i h held read = holds_after [] f i i (omega arith) h held read

  -- So it does any list of length 0.
  holds-empty : {list array : List A} → length list ≡ 0 → length array ≡ size → Holds size list array
  holds-empty {list} none long = rw (no-entries list none) (holds-none long)

  -- The list is read off again by its length.
  held-front : (n : ℕ) {list array : List A} → Holds size list array → length list ≡ n → take n array ≡ list
  held-front n held e = rw e at held.front

-- An array that holds a list, and whose places after it are lent as a part and hold a second list then, holds both.
pub holds-both : {A : Type 0} (size at : ℕ) {first second array later : List A} →
    Holds size first array → at ≡ length first → at ≤ size → Holds (length (take (length array - at) (drop at array))) second later →
    Holds size (first ++ second) (take at array ++ (later ++ drop (length array - at) (drop at array)))
holds-both size at {first} {second} {array} {later} held place room more =
    let rest = length array - at in
    let after = drop rest (drop at array) in
    let begins : take at array ≡ first = rw place held.front in
    let fits : length second ≤ length later = omega (arith, ap length more.front, length-take (length second) later) in
    record {
      long =
          omega (
            arith,
            length-append (take at array) (later ++ after),
            length-append later after,
            ap length begins,
            held.long,
            more.long,
            length-take rest (drop at array),
            length-drop rest (drop at array),
            length-drop at array,
          );
      front =
          rw (begins, length-append first second, take-append-add first (later ++ after) (length second))
          (ap (λ list. first ++ list) (take-append-le (length second) later after fits ∙ more.front));
    }

-- A row read field by field, as if every node were open and no link barred.
pub row_read : (link_bytes : List ℕ) (link_size l : ℕ) {t h a b c q : ℕ} → t ≡ tail link_bytes link_size l → h ≡ head link_bytes link_size l → a ≡ free_time link_bytes link_size l
    → b ≡ rise link_bytes link_size l → c ≡ capacity link_bytes link_size l → q ≡ as_byte (power link_bytes link_size l)
    → t ∷ h ∷ a ∷ b ∷ c ∷ 256 * q ∷ [] ≡ link_row link_bytes link_size [] [] l
unfolding link_row mark_byte
row_read link_bytes link_size l t-is h-is a-is b-is c-is q-is =
    rw (t-is, h-is, a-is, b-is, c-is, q-is)
    (ap (λ x. tail link_bytes link_size l ∷ head link_bytes link_size l ∷ free_time link_bytes link_size l ∷ rise link_bytes link_size l ∷ capacity link_bytes link_size l ∷ x ∷ [])
    (omega arith))

-- Rows are changed one by one.
module _ (change : ℕ → List ℕ → List ℕ) where
  pub changed-none : (array : List (List ℕ)) → Changed change 0 array array
  changed-none array = record { long = refl; changed = λ l h. absurd (omega arith); others = λ l h. refl }

  pub changed-more : {before after : List (List ℕ)} {l : ℕ} {row : List ℕ} → l < length before → Changed change l before after → row ≡ change l (get_or after l []) →
      Changed change (l + 1) before (set after l row)
  changed-more {before} {after} {l} {row} h so_far row_is =
      record {
        long = length-set after l row ∙ so_far.long;
        changed = λ i b.
            ⊎_elim (λ earlier. get_or-set_other after l i row [] (λ e. omega arith) ∙ so_far.changed i earlier)
            (λ here.
            let same : i ≡ l = omega arith in
            rw same (get_or-set_same after l row [] (omega (arith, so_far.long)) ∙ row_is ∙ ap (change l) (so_far.others l (le_refl l))))
            (order i l);
        others = λ i b. get_or-set_other after l i row [] (λ e. omega arith) ∙ so_far.others i (omega arith);
      }

  -- There is still room for a mark in the row that comes next.
  pub still-markable : {m l : ℕ} {before after : List (List ℕ)} → Markable m before → Changed change l before after → l < m → get_or (get_or after l []) 5 0 ≤ 65532
  unfolding Markable
  still-markable {l} low so_far h = rw (so_far.others l (le_refl l)) (low l h)

  -- Where a change leaves each row as it is nothing is to be done.
  changed-same : (m : ℕ) (array : List (List ℕ)) → ((l : ℕ) (row : List ℕ) → change l row ≡ row) → Changed change m array array
  changed-same m array still = record { long = refl; changed = λ l h. sym (still l (get_or array l [])); others = λ l h. refl }

no-mark : (row : List ℕ) {mark : ℕ} → mark ≡ 0 → set row 5 (get_or row 5 0 + mark) ≡ row
no-mark row none =
    let e : get_or row 5 0 + 0 ≡ get_or row 5 0 = omega arith in
    rw (none, e) (set-get_or row 5 0)

pub closed_none : (bytes : List ℕ) (m : ℕ) (array : List (List ℕ)) → length bytes ≡ 0 → Changed (closed_marked bytes) m array array
unfolding mark_byte
closed_none bytes m array none = changed-same (closed_marked bytes) m array (λ l row. no-mark row (rw (no-entries bytes none)))

pub barred-none : (bytes : List ℕ) (m : ℕ) (array : List (List ℕ)) → length bytes ≡ 0 → Changed (barred_marked bytes) m array array
unfolding mark_byte
barred-none bytes m array none = changed-same (barred_marked bytes) m array (λ l row. no-mark row (rw (no-entries bytes none)))

-- The rows of m links, as they are read and as they are marked.
module _ (link_bytes : List ℕ) (link_size : ℕ) (closed_bytes barred_bytes : List ℕ) (m : ℕ) where
  abbrev fields : ℕ → ℕ → List ℕ
  fields l x = tail link_bytes link_size l ∷ head link_bytes link_size l ∷ free_time link_bytes link_size l ∷ rise link_bytes link_size l ∷ capacity link_bytes link_size l ∷ x ∷ []

  row-closed : (l : ℕ) → closed_marked closed_bytes l (link_row link_bytes link_size [] [] l) ≡ link_row link_bytes link_size closed_bytes [] l
  unfolding link_row mark_byte
  row-closed l = ap (fields l) (omega arith)

  row-barred : (l : ℕ) → barred_marked barred_bytes l (link_row link_bytes link_size closed_bytes [] l) ≡ link_row link_bytes link_size closed_bytes barred_bytes l
  unfolding link_row mark_byte
  row-barred l = ap (fields l) (omega arith)

  -- There is room for marks in rows that have none, or only those of closed bytes.
  markable : (array : List (List ℕ)) (bytes : List ℕ) → ((l : ℕ) → l < m → get_or array l [] ≡ link_row link_bytes link_size bytes [] l) → Markable m array
  unfolding Markable link_row mark_byte
  markable array bytes there l h = rw (there l h) (omega (arith, mark-most (mark_byte bytes (head link_bytes link_size l))))

  module _ {size : ℕ} {array : List (List ℕ)} (held : Holds size (link_rows_in link_bytes link_size [] [] m) array) where
    row-there : (l : ℕ) → l < m → get_or array l [] ≡ link_row link_bytes link_size [] [] l
    unfolding link_rows_in
    row-there l h =
        sym (get_or-take m array l [] h)
        ∙ ap (λ rows. get_or rows l []) (held-front size m held (length-tabulate m (link_row link_bytes link_size [] [])))
        ∙ get_d_tabulate m (link_row link_bytes link_size [] []) [] l h

    pub rows-markable : Markable m array
    rows-markable = markable array [] row-there

    module _ {closed : List (List ℕ)} (once : Changed (closed_marked closed_bytes) m array closed) where
      closed-there : (l : ℕ) → l < m → get_or closed l [] ≡ link_row link_bytes link_size closed_bytes [] l
      closed-there l h = once.changed l h ∙ rw (row-there l h) (row-closed l)

      pub closed-markable : Markable m closed
      closed-markable = markable closed closed_bytes closed-there

      -- Marked twice, they are the rows with both marks.
      pub rows-marked : {both : List (List ℕ)} → m ≤ size → Changed (barred_marked barred_bytes) m closed both → Holds size (link_rows_in link_bytes link_size closed_bytes barred_bytes m) both
      unfolding link_rows_in
      rows-marked {both} room twice =
          let row = link_row link_bytes link_size closed_bytes barred_bytes in
          let long : length both ≡ size = twice.long ∙ once.long ∙ held.long in
          let first : length (take m both) ≡ m = length-take-le m both (omega arith) in
          record {
            long = long;
            front =
                rw (length-tabulate m row)
                (ext_get_or [] (take m both) (tabulate m row) (first ∙ sym (length-tabulate m row))
                (λ l b.
                let below : l < m = omega (arith, first) in
                get_or-take m both l [] below
                ∙ twice.changed l below
                ∙ rw (closed-there l below) (row-barred l)
                ∙ sym (get_d_tabulate m row [] l below)));
          }

-- The entries of the trips, as they stand, are those of every destination, node by node.
entries-all : (trip_bytes : List ℕ) (n p : ℕ) → entries_to trip_bytes n p ≡ entries_in trip_bytes (p * n)
unfolding entries_in trips
entries-all trip_bytes n p =
    rows-flat p n (λ i. u16 trip_bytes (2 * i))
    ∙ tabulate-cong (p * n) (λ i. u16 trip_bytes (2 * i)) (λ i. u16 trip_bytes (2 * (0 * (p * n) + i))) (λ i h. ap (λ at. u16 trip_bytes at) (omega arith))

-- The counts of a file are within bounds: of a refused one they are 0.
pub counts : (file : List ℕ) {n m p : ℕ} → n ≡ nodes file → m ≡ links file → p ≡ destinations file → Counts file n m p
counts file n-is m-is p-is =
    on-equal (refusal file) 0
    (λ e. let bounds = accepted file e in
    record {
      nodes-are = n-is;
      links-are = m-is;
      destinations-are = p-is;
      nodes-most = rw n-is bounds.nodes-most;
      links-most = rw m-is bounds.links-most;
      destinations-most = rw p-is bounds.destinations-most;
    })
    (λ refused.
    let no-nodes = nodes-refused file refused in
    let no-links = links-refused file refused in
    let no-destinations = destinations-refused file refused in
    record {
      nodes-are = n-is;
      links-are = m-is;
      destinations-are = p-is;
      nodes-most = omega arith;
      links-most = omega arith;
      destinations-most = omega arith;
    })

-- The trips of so many commodities are few.
pub entries_fit : {n c : ℕ} → n ≤ 128 → c ≤ 64 → c * n ≤ 8192
entries_fit {n} {c} hn hc = mul-le-mul {n₁ = c} {m₁ = n} {n₂ = 64} {m₂ = 128} hc hn

module _ (file : List ℕ) where
  -- Lorries have no more destinations than cars,
  pub lorries-most : lorry_destinations file ≤ destinations file
  lorries-most = ⊎_elim (λ e. omega arith) (λ e. omega arith) (all-or-none file)

  -- so a file has at most 64 commodities, and at most 8,192 entries of trips.
  pub few-commodities : length (commodities file) ≤ 64
  few-commodities = omega (arith, commodities-long file, lorries-most, (counts file refl refl refl).destinations-most)

  pub few-entries : length (commodities file) * nodes file ≤ 8192
  few-entries = entries_fit (counts file refl refl refl).nodes-most few-commodities

-- There is room for any file in 512 and 8,192 places,
pub room_most : (file : List ℕ) {link_places entry_places : ℕ} → link_places ≡ 512 → entry_places ≡ 8192 → Room file link_places entry_places
room_most file l-are e-are =
    record {
      for-links = rw l-are (counts file refl refl refl).links-most;
      for-entries = rw e-are (few-entries file);
    }

-- and for a file without lorries in 512 and 4,096.
cars-alone : (file : List ℕ) → has_lorries file ≡ false → length (commodities file) ≡ destinations file
unfolding has_lorries
cars-alone file none =
    on-equal (refusal file) 0
    (λ e.
    let long : not (ltb (length file) 32) ≡ true = rw (le-ltb (length file) 32 (accepted file e).length-least) in
    let old : version file ≤ 3 = ltb-false 3 (version file) (sym (rw long) ∙ none) in
    omega (arith, commodities-long file, no-lorries file (omega arith)))
    (λ refused. omega (arith, commodities-long file, lorries-most file, destinations-refused file refused))

pub room-cars : (file : List ℕ) {link_places entry_places : ℕ} → has_lorries file ≡ false → link_places ≡ 512 → entry_places ≡ 4096 → Room file link_places entry_places
room-cars file none l-are e-are =
    let known = counts file refl refl refl in
    record {
      for-links = rw l-are known.links-most;
      for-entries = rw (e-are, cars-alone file none) (mul-le-mul {n₁ = destinations file} {m₁ = nodes file} {n₂ = 32} {m₂ = 128} known.destinations-most known.nodes-most);
    }

-- The trips of cars and those of lorries stand apart in a file,
trips-apart : (file : List ℕ) → length (trip_part file) + length (lorry_part file) ≤ length file
unfolding has_section
trips-apart file = on-equal (refusal file) 0 opened (λ refused. rw (part-refused file 2 refused, part-refused file 4 refused) (omega arith))
  where
    within-size : refusal file ≡ 0 → (section : ℕ) → length (part file section) ≤ size file section
    within-size e section = rw (part-accepted file e section) (omega (arith, length-take (size file section) (drop (offset file section) file)))

    both : refusal file ≡ 0 → 4 < (form_of (version file)).sections → length (part file 2) + length (part file 4) ≤ length file
    both e h =
        let order = in_order file e in
        omega (
          arith,
          order.apart 2 (omega arith),
          order.apart 3 (omega arith),
          ends-within file 4 order,
          within-size e 2,
          within-size e 4,
        )

    opened : refusal file ≡ 0 → length (part file 2) + length (part file 4) ≤ length file
    opened e =
        on_test (has_section file 4)
        (λ some. both e (ltb-true 4 (form_of (version file)).sections some))
        (λ none. rw (no-section file 4 none) (omega (arith, part-most file 2)))

-- so there is room for a file of at most 2,048 bytes in 204 and 1,024: a link has ten bytes or more, and an entry two.
pub room-short : (file : List ℕ) {link_places entry_places : ℕ} → length file ≤ 2048 → link_places ≡ 204 → entry_places ≡ 1024 → Room file link_places entry_places
room-short file short l-are e-are =
    record {
      for-links = omega (arith, short, l-are, link-bytes-least file, part-most file 0);
      for-entries = rw (e-are, commodities-long file) (omega (arith, short, trip-length file, lorry-length file, trips-apart file));
    }

-- Room is for the file's counts.
module _ {file : List ℕ} {n m p : ℕ} (known : Counts file n m p) {link_places entry_places : ℕ} (room : Room file link_places entry_places) where
  pub room-links : m ≤ link_places
  room-links = rw known.links-are room.for-links

  pub room-entries : {lorries : ℕ} → lorries ≡ lorry_destinations file → (p + lorries) * n ≤ entry_places
  room-entries {lorries} lorries-are =
      let all : p + lorries ≡ length (commodities file) = omega (arith, known.destinations-are, commodities-long file) in
      rw (all, known.nodes-are) room.for-entries

-- The sections of a file are there to decode.
module _ (file : List ℕ) {bytes : List ℕ} where
  pub links-there : {m : ℕ} → bytes ≡ link_part file → m ≡ links file → HasLinks bytes (link_size file) m
  unfolding HasLinks
  links-there bytes-are m-is = rw (bytes-are, m-is) (has-link file)

  pub destinations-there : {p : ℕ} → bytes ≡ destination_part file → p ≤ destinations file → HasDestinations bytes p
  unfolding HasDestinations
  destinations-there bytes-are some = rw bytes-are (λ k h. has-destination file k (omega arith))

-- The entries of p destinations are there in 2pn bytes,
trips-there : (bytes : List ℕ) (n p : ℕ) → length bytes ≡ 2 * p * n → HasEntries bytes (p * n)
unfolding HasEntries HasTrips
trips-there bytes n p long i h = omega arith

pub entries-counted : (bytes : List ℕ) (entries : ℕ) → length (entries_in bytes entries) ≡ entries
unfolding entries_in
entries-counted bytes entries = length-tabulate entries (trips bytes entries 0)

module _ (file : List ℕ) (bytes : List ℕ) (n p : ℕ) (n-is : n ≡ nodes file) where
  -- which the section of the trips has,
  pub cars-there : bytes ≡ trip_part file → p ≡ destinations file → HasEntries bytes (p * n)
  cars-there bytes-are p-is = trips-there bytes n p (rw (bytes-are, n-is, p-is) (trip-length file))

  -- and that of the lorry trips.
  pub lorries-there : bytes ≡ lorry_part file → p ≡ lorry_destinations file → HasEntries bytes (p * n)
  lorries-there bytes-are p-is = trips-there bytes n p (rw (bytes-are, n-is, p-is) (lorry-length file))

-- The rows of a file's links are those of its sections,
pub rows-held : (file : List ℕ) (m : ℕ) {link_bytes closed_bytes barred_bytes : List ℕ} {size' link_size' : ℕ} {array : List (List ℕ)} →
    m ≡ links file → link_bytes ≡ link_part file → link_size' ≡ link_size file → closed_bytes ≡ closed_part file → barred_bytes ≡ barred_part file →
    Holds size' (link_rows_in link_bytes link_size' closed_bytes barred_bytes m) array → Holds size' (link_rows file) array
unfolding link_rows_in link_rows
rows-held file m m-is l-are s-is c-are b-are held = rw (m-is, l-are, s-is, c-are, b-are) at held

-- its commodities are the destinations for cars and for lorries,
pub commodities-held : (file : List ℕ) (p lorries : ℕ) {bytes array : List ℕ} → p ≡ destinations file → lorries ≡ lorry_destinations file → bytes ≡ destination_part file →
    Holds 64 (nodes_in bytes p ++ lorries_in bytes lorries) array → Holds 64 (commodities file) array
unfolding nodes_in lorries_in commodities destination_nodes
commodities-held file p lorries p-is lorries-are bytes-are held = rw (p-is, lorries-are, bytes-are) at held

-- and its entries are the trips of cars and of lorries.
pub entries-held : (file : List ℕ) (n p lorries : ℕ) {size' : ℕ} {car_bytes lorry_bytes array : List ℕ} →
    n ≡ nodes file → p ≡ destinations file → lorries ≡ lorry_destinations file → car_bytes ≡ trip_part file → lorry_bytes ≡ lorry_part file →
    Holds size' (entries_in car_bytes (p * n) ++ entries_in lorry_bytes (lorries * n)) array → Holds size' (trip_entries file) array
unfolding trip_entries
entries-held file n p lorries n-is p-is lorries-are c-are l-are held =
    rw (entries-all (trip_part file) (nodes file) (destinations file), entries-all (lorry_part file) (nodes file) (lorry_destinations file))
    (rw (n-is, p-is, lorries-are, c-are, l-are) at held)

-- So the arrays hold the file decoded.
pub decoded :
    (file : List ℕ) (opening : Opening) {link_array : List (List ℕ)} {node_array entry_array : List ℕ} {link_places entry_places : ℕ} →
    Room file link_places entry_places → opening.refusal ≡ refusal file →
    Counts file opening.nodes opening.links opening.destinations → opening.commodities ≡ length (commodities file) →
    Holds link_places (link_rows file) link_array → Holds 64 (commodities file) node_array → Holds entry_places (trip_entries file) entry_array →
    Decoded file opening link_array node_array entry_array
decoded file opening {link_array} {node_array} {entry_array} {link_places} {entry_places} room refusal_is known c-are l-held c-held t-held =
    record {
      refusal_is = refusal_is;
      nodes-are = known.nodes-are;
      links-are = known.links-are;
      destinations-are = known.destinations-are;
      commodities-are = c-are;
      links-within = rw (l-held.long, known.links-are) room.for-links;
      commodities-within = rw (c-held.long, c-are) (few-commodities file);
      trips-within = rw (t-held.long, c-are, known.nodes-are) room.for-entries;
      links-held = held-front link_places opening.links l-held (links-length file ∙ sym known.links-are);
      commodities-held = held-front 64 opening.commodities c-held (sym c-are);
      entries-held = held-front entry_places (opening.commodities * opening.nodes) t-held (entries-long file ∙ rw (c-are, known.nodes-are));
    }

-- A refused file counts nothing, so every array holds what it has.
pub decoded-refused :
    (file : List ℕ) (number : ℕ) {link_array : List (List ℕ)} {node_array entry_array : List ℕ} → number ≡ refusal file → (number ≡ 0 → ⊥) →
    Room file (length link_array) (length entry_array) → length node_array ≡ 64 →
    Decoded file (record { refusal = number; nodes = 0; links = 0; destinations = 0; commodities = 0 }) link_array node_array entry_array
decoded-refused file number {link_array} {node_array} {entry_array} number_is refused room nodes-long =
    let no : refusal file ≡ 0 → ⊥ = λ e. refused (number_is ∙ e) in
    let known = counts file (sym (nodes-refused file no)) (sym (links-refused file no)) (sym (destinations-refused file no)) in
    let none : length (commodities file) ≡ 0 = omega (arith, commodities-long file, lorries-most file, destinations-refused file no) in
    decoded file (record { refusal = number; nodes = 0; links = 0; destinations = 0; commodities = 0 }) room number_is known (sym none)
    (holds-empty _ (omega (arith, links-length file, links-refused file no)) refl) (holds-empty 64 none nodes-long)
    (holds-empty _ (entries-long file ∙ rw none (omega arith)) refl)

-- What decoding leaves is lent on in parts: each part has its count.
module _ {file : List ℕ} {opening : Opening} {link_array : List (List ℕ)} {node_array entry_array : List ℕ} (d : Decoded file opening link_array node_array entry_array) where
  pub decoded-counts : Counts file opening.nodes opening.links opening.destinations
  decoded-counts = counts file d.nodes-are d.links-are d.destinations-are

  pub commodities-few : opening.commodities ≤ 64
  commodities-few = rw d.commodities-are (few-commodities file)

  pub trips-few : opening.commodities * opening.nodes ≤ 8192
  trips-few = entries_fit decoded-counts.nodes-most commodities-few

  pub destinations-first : opening.destinations ≤ opening.commodities
  destinations-first = omega (arith, d.destinations-are, d.commodities-are, commodities-long file)

  pub links-counted : opening.links ≡ length (take opening.links link_array)
  links-counted = sym (length-take-le opening.links link_array d.links-within)

  pub commodities-counted : opening.commodities ≡ length (take opening.commodities node_array)
  commodities-counted = sym (length-take-le opening.commodities node_array d.commodities-within)

  pub destinations-counted : opening.destinations ≡ length (take opening.destinations (take opening.commodities node_array))
  destinations-counted = sym (length-take-le opening.destinations (take opening.commodities node_array) (omega (arith, commodities-counted, destinations-first)))

  pub trips-counted : opening.commodities * opening.nodes ≡ length (take (opening.commodities * opening.nodes) entry_array)
  trips-counted = sym (length-take-le (opening.commodities * opening.nodes) entry_array d.trips-within)

  -- The first of the commodities are the destinations.
  pub destinations-held : take opening.destinations (take opening.commodities node_array) ≡ destination_nodes file
  destinations-held = rw (d.commodities-held, d.destinations-are) (cars-first file)

  -- The last column of each link's row tells the closed byte of its head and its barred byte.
  pub decoded-closed : (l : ℕ) → l < length (take opening.links link_array) → closed (take opening.links link_array) l ≡ as_mark (mark_byte (closed_part file) (head_in (take opening.links link_array) l))
  decoded-closed = rw d.links-held (closed-head file)

  pub decoded-barred : (l : ℕ) → l < length (take opening.links link_array) → barred (take opening.links link_array) l ≡ as_mark (mark_byte (barred_part file) l)
  decoded-barred = rw d.links-held (barred-link file)

  pub decoded-fourth : link_size file < 12 → AllFourth (take opening.links link_array)
  decoded-fourth short = rw d.links-held (fourth-powers file short)
