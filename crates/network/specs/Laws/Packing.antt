-- Writes one after the other: what they leave is one write of all their bytes.
use Rattle.std.specs.Prelude.{ℕ, ◌+◌, ◌%◌, ◌/◌, ◌≤◌, ◌<◌, cond, List, [], ◌∷◌, ◌++◌, ◌≡◌, eqb, length, take, drop, set, get_or}
use Rattle.std.proofs.Common.{add-one, append_assoc, append-nil, sym, ◌∙◌, ap, length-append, take-append-drop, length-take, length-drop, length-take-le, take_at, drop_at, drop-drop, take-suc}
use native.Mathlib.Omega.{arith}
use Rattle.std.proofs.Math.Path.{refl}
use borrow.Author.Tests.{ne_eqb, le-leb, lt-leb}
use Rattle.std.proofs.lemmas.List.{set_split}
use Rattle.std.proofs.Math.Seq.{append_snoc}
use Rattle.study.specs.Versions.{form_of, section_size}
use Rattle.study.specs.Header.{version}
use Rattle.study.specs.Laws.{Known, part_length}
use Rattle.study.specs.Sections.{nodes, links, destinations, part}
use Rattle.theory.specs.Finite.{rows}
use Rattle.theory.specs.Laws.Finite.{sum-suc, sum_more}
use Rattle.calls.specs.Pack.{bytes16, bytes32, section_place, packed_header, packed}
use Rattle.calls.specs.Questions.{packed_size, output_holds}
use Rattle.calls.specs.Laws.Questions.{pack-number}
use Rattle.calls.specs.Calls.{overwritten, check_number, pack_number, pack_output}
use Rattle.calls.specs.Laws.Pack.{length16, header-length, pair_of, pairs-long, place_end, parts-long}
use Rattle.network.specs.Decoded.{Counts}
use Rattle.network.specs.Written.{written, pair_bytes, section_bytes}

-- A store is a write of one byte.
pub written_byte : (at x : ℕ) (old : List ℕ) → at < length old → set old at x ≡ written at (x ∷ []) old
unfolding written
written_byte at x old h = set_split old at x h ∙ sym (append_snoc (take at old) x (drop (at + 1) old) ∙ rw add-one)

pub written-length : (at : ℕ) (new old : List ℕ) → at + length new ≤ length old → length (written at new old) ≡ length old
unfolding written
written-length at new old h = simp (length-append, length-take, length-drop) (omega arith)

drop_past : (front back : List ℕ) (n k : ℕ) → length front ≡ n → drop (n + k) (front ++ back) ≡ drop k back
drop_past front back n k e = sym (drop-drop k n (front ++ back)) ∙ ap (drop k) (drop_at front back n e)

-- A write that begins where another ended.
pub written-more : (at next : ℕ) (a b old : List ℕ) → next ≡ at + length a → next + length b ≤ length old → written next b (written at a old) ≡ written at (a ++ b) old
unfolding written
written-more at next a b old place h =
    let front = take at old ++ a in
    let back = drop (at + length a) old in
    let reach : length front ≡ next = omega (arith, length-append (take at old) a, length-take-le at old (omega arith)) in
    let end : at + length a + length b ≡ at + length (a ++ b) = omega (arith, length-append a b) in
    rw (take_at front back next reach, drop_past front back next (length b) reach, drop-drop (length b) (at + length a) old, end, append_assoc (take at old) a b)

-- A u16 is two bytes, and a u32 two u16.
pub written-u16 : (at x : ℕ) (old : List ℕ) → at + 2 ≤ length old → set (set old at (x % 256)) (at + 1) (x / 256 % 256) ≡ written at (bytes16 x) old
unfolding bytes16
written-u16 at x old h =
    ap (λ l. set l (at + 1) (x / 256 % 256)) (written_byte at (x % 256) old (omega arith))
    ∙ written_byte (at + 1) (x / 256 % 256) (written at (x % 256 ∷ []) old) (omega (arith, written-length at (x % 256 ∷ []) old (omega arith)))
    ∙ written-more at (at + 1) (x % 256 ∷ []) (x / 256 % 256 ∷ []) old refl (omega arith)

pub written-u32 : (at x : ℕ) (old : List ℕ) → at + 4 ≤ length old → written (at + 2) (bytes16 (x / 65536)) (written at (bytes16 (x % 65536)) old) ≡ written at (bytes32 x) old
unfolding bytes32
written-u32 at x old h =
    written-more at (at + 2) (bytes16 (x % 65536)) (bytes16 (x / 65536)) old (omega (arith, length16 (x % 65536))) (omega (arith, length16 (x / 65536)))

-- A list is written byte by byte.
pub written_none : (at : ℕ) (old : List ℕ) → old ≡ written at [] old
unfolding written
written_none at old =
    let e : at + 0 ≡ at = omega arith in
    sym (rw (e, append-nil) (take-append-drop at old))

pub written_next : (at : ℕ) (bytes : List ℕ) (i : ℕ) (old : List ℕ) → i < length bytes → at + length bytes ≤ length old → set (written at (take i bytes) old) (at + i) (get_or bytes i 0) ≡ written at (take (i + 1) bytes) old
written_next at bytes i old h room =
    let done : length (take i bytes) ≡ i = length-take-le i bytes (omega arith) in
    written_byte (at + i) (get_or bytes i 0) (written at (take i bytes) old) (omega (arith, written-length at (take i bytes) old (omega arith)))
    ∙ written-more at (at + i) (take i bytes) (get_or bytes i 0 ∷ []) old (omega arith) (omega arith)
    ∙ ap (λ new. written at new old) (sym (rw add-one (take-suc bytes i 0 h)))

-- What is written after the first bytes extends them.
overwritten-first : (list old : List ℕ) → overwritten list old ≡ written 0 list old
unfolding overwritten written
overwritten-first list old = let e : 0 + length list ≡ length list = omega arith in rw e

pub overwritten-none : (old : List ℕ) → old ≡ overwritten [] old
unfolding overwritten
overwritten-none old = refl

pub overwritten-more : (old done new : List ℕ) (at : ℕ) {before after : List ℕ} → at ≡ length done → at + length new ≤ length old → before ≡ overwritten done old → after ≡ written at new before → after ≡ overwritten (done ++ new) old
overwritten-more old done new at place room b a =
    a
    ∙ ap (written at new) (b ∙ overwritten-first done old)
    ∙ written-more 0 at done new old (omega arith) room
    ∙ sym (overwritten-first (done ++ new) old)

-- Rows are written one by one.
pub rows_none : (at : ℕ) (row : ℕ → List ℕ) (old : List ℕ) → old ≡ written at (rows 0 row) old
unfolding rows
rows_none at row old = written_none at old

pub rows_more : (at : ℕ) (row : ℕ → List ℕ) (old : List ℕ) (count place : ℕ) {new before after : List ℕ} →
    place ≡ at + length (rows count row) → place + length (row count) ≤ length old → new ≡ row count →
    before ≡ written at (rows count row) old → after ≡ written place new before → after ≡ written at (rows (count + 1) row) old
unfolding rows
rows_more at row old count place {new} {before} place_is room new-is b a =
    a
    ∙ rw (new-is, b) (written-more at place (rows count row) (row count) old place_is room)
    ∙ ap (λ list. written at list old) whole
  where
    whole : rows count row ++ row count ≡ rows (count + 1) row
    whole = rw add-one

pub rows-longer : (count : ℕ) (row : ℕ → List ℕ) → length (rows (count + 1) row) ≡ length (rows count row) + length (row count)
unfolding rows
rows-longer count row = rw add-one (length-append (rows count row) (row count))

-- The counts and the pairs, written in order, are the header.
pub header-written : (v n m p : ℕ) (old : List ℕ) {counted whole : List ℕ} → Known v → (form_of v).header ≤ length old →
    counted ≡ overwritten (bytes16 v ++ bytes16 n ++ bytes16 m ++ bytes16 p) old → whole ≡ written 8 (pair_bytes v n m p) counted → whole ≡ overwritten (packed_header v n m p) old
unfolding packed_header pair_bytes bytes16
header-written v n m p old known room one two =
    overwritten-more old (bytes16 v ++ bytes16 n ++ bytes16 m ++ bytes16 p) (rows (form_of v).sections (pair_of v n m p)) 8 refl
    (omega (arith, known.pairs, pairs-long v n m p (form_of v).sections)) one two

-- A packed study ends at its packed size.
pub end_is : {file : List ℕ} {n m p : ℕ} → Counts file n m p → section_place (version file) n m p (form_of (version file)).sections ≡ packed_size file
end_is {file} counts = rw (counts.nodes-are, counts.links-are, counts.destinations-are) (place_end file)

module _ (file : List ℕ) where
  -- Each section is within the packed size,
  pub section-fits : (section : ℕ) → section < (form_of (version file)).sections →
      (form_of (version file)).header + length (rows section (part file)) + length (part file section) ≤ packed_size file
  unfolding packed_size
  section-fits section h =
      let sizes = section_size (version file) (nodes file) (links file) (destinations file) in
      omega (arith, parts-long file section, part_length file section, sum-suc section sizes, sum_more (section + 1) (form_of (version file)).sections sizes (omega arith))

  pub header-fits : (form_of (version file)).header ≤ packed_size file
  unfolding packed_size
  header-fits = omega arith

  -- and written in order they are the packed study.
  pub study-written : (old : List ℕ) {n m p : ℕ} {headed whole : List ℕ} → Counts file n m p → Known (version file) → packed_size file ≤ length old →
      headed ≡ overwritten (packed_header (version file) n m p) old → whole ≡ written (form_of (version file)).header (section_bytes file) headed → whole ≡ overwritten (packed file) old
  unfolding packed section_bytes packed_size
  study-written old counts known room one two =
      overwritten-more old (packed_header (version file) (nodes file) (links file) (destinations file)) (rows (form_of (version file)).sections (part file)) (form_of (version file)).header
      (sym (header-length (version file) (nodes file) (links file) (destinations file) known.least known.most))
      (omega (arith, parts-long file (form_of (version file)).sections))
      (rw (counts.nodes-are, counts.links-are, counts.destinations-are) at one)
      two

-- Pack's number and output: as check refuses, or with 17 where the output is too short, and else packed.
module _ (file output : List ℕ) where
  after-number : (number : ℕ) (written : List ℕ) → pack_number file output ≡ number → cond (eqb number 0) (overwritten (packed file) output) output ≡ written → (number ≡ pack_number file output) × (written ≡ pack_output file output)
  unfolding pack_output
  after-number number written e w = (sym e, rw e (sym w))

  pub pack-refused : {number : ℕ} → number ≡ check_number file → (number ≡ 0 → ⊥) → (number ≡ pack_number file output) × (output ≡ pack_output file output)
  pack-refused {number} e refused =
      after-number number output (pack-number file output ∙ rw (← e, ne_eqb number 0 refused)) (rw (ne_eqb number 0 refused))

  pub pack-short : check_number file ≡ 0 → length output < packed_size file → (17 ≡ pack_number file output) × (output ≡ pack_output file output)
  unfolding output_holds
  pack-short e h = after-number 17 output (pack-number file output ∙ rw (e, lt-leb (packed_size file) (length output) h)) refl

  pub pack-written : {after : List ℕ} → check_number file ≡ 0 → packed_size file ≤ length output → after ≡ overwritten (packed file) output → (0 ≡ pack_number file output) × (after ≡ pack_output file output)
  unfolding output_holds
  pack-written {after} e h w = after-number 0 after (pack-number file output ∙ rw (e, le-leb (packed_size file) (length output) h)) (sym w)
