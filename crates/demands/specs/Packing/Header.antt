-- The header that pack writes, read back.
use Rattle.std.specs.Prelude.{ℕ, ◌+◌, ◌*◌, ◌≤◌, ◌<◌, ◌≡◌, true, take}
use Rattle.std.proofs.Common.{arith, ◌∙◌, lt-ltb}
use mathlib.Core.List.{List, ◌++◌, append_assoc}
use Rattle.std.proofs.Math.ListN.{length, length-append}
use Rattle.study.specs.Versions.{form_of, section_size}
use Rattle.study.specs.Header.{version, node_field, link_field, destination_field, has_section, offset, size}
use Rattle.study.specs.Laws.{Known}
use Rattle.theory.specs.Finite.{rows}
use Rattle.calls.specs.Pack.{bytes16, bytes32, section_place, packed_header}
use Rattle.calls.specs.Laws.Pack.{length32, pair_of, pairs-long, size-most, place-most}
use Rattle.demands.specs.Packing.Bytes.{u16-at, u32-at, rows_split}

-- Every field of the header of a study in version v with n nodes, m links and p destinations, whose sections stand one after the other from
-- the header's end on.
pub record Header (v n m p : ℕ) (file : List ℕ) : Type 0 where
  pub version-field : version file ≡ v
  pub node-field : node_field file ≡ n
  pub link-field : link_field file ≡ m
  pub destination-field : destination_field file ≡ p
  pub section-offset : (section : ℕ) → section < (form_of v).sections → offset file section ≡ section_place v n m p section
  pub section-size : (section : ℕ) → section < (form_of v).sections → size file section ≡ section_size v n m p section

module _ (v n m p : ℕ) (after : List ℕ) (known : Known v) (hn : n ≤ 128) (hm : m ≤ 512) (hp : p ≤ 32) where
  abbrev whole : List ℕ
  whole = packed_header v n m p ++ after

  -- The bytes of the header before a place.
  abbrev before : ℕ → List ℕ
  before place = take place (packed_header v n m p)

  -- The version is read back first: by it the rest of the header is read.
  version-reads : version whole ≡ v
  unfolding packed_header bytes32 bytes16 version
  version-reads = u16-at (before 0) v _ (omega (arith, known.most))

  has : (section : ℕ) → section < (form_of v).sections → has_section whole section ≡ true
  unfolding has_section
  has section h = rw version-reads (lt-ltb section (form_of v).sections h)

  -- The pair of a section stands after the counts and the pairs before it.
  abbrev counts : List ℕ
  counts = bytes16 v ++ bytes16 n ++ bytes16 m ++ bytes16 p

  abbrev front : ℕ → List ℕ
  front section = counts ++ rows section (pair_of v n m p)

  front_long : (section : ℕ) → length (front section) ≡ 8 + 8 * section
  unfolding bytes16
  front_long section = omega (arith, length-append counts (rows section (pair_of v n m p)), pairs-long v n m p section)

  pair-splits : (section : ℕ) → section < (form_of v).sections →
      (later : List ℕ) × (whole ≡ front section ++ (bytes32 (section_place v n m p section) ++ (bytes32 (section_size v n m p section) ++ later)))
  unfolding packed_header
  pair-splits section h =
      let (later, split) = rows_split (form_of v).sections (pair_of v n m p) section h in
      (later ++ after, rw split (simp append_assoc))

  offset-reads : (section : ℕ) → section < (form_of v).sections → offset whole section ≡ section_place v n m p section
  unfolding offset
  offset-reads section h =
      let (later, split) = pair-splits section h in
      let place = section_place v n m p section in
      let few : place ≤ 49208 = place-most known hn hm hp section (omega arith) in
      rw (has section h, ← front_long section, split, ← append_assoc (front section) (bytes32 place) (bytes32 (section_size v n m p section) ++ later))
      (u32-at (front section) place (bytes32 (section_size v n m p section) ++ later) (omega arith))

  size-reads : (section : ℕ) → section < (form_of v).sections → size whole section ≡ section_size v n m p section
  unfolding size
  size-reads section h =
      let (later, split) = pair-splits section h in
      let first = front section ++ bytes32 (section_place v n m p section) in
      let few : section_size v n m p section ≤ 8192 = size-most known hn hm hp section in
      let at : 12 + 8 * section ≡ length first = omega (arith, length-append (front section) (bytes32 (section_place v n m p section)), length32 (section_place v n m p section), front_long section) in
      let split' : whole ≡ first ++ bytes32 (section_size v n m p section) ++ later = split ∙ simp append_assoc in
      rw (has section h, at, split') (u32-at first (section_size v n m p section) later (omega arith))

  -- Each field stands after the bytes of the header before its place, and is read back there.
  pub header-reads : Header v n m p whole
  unfolding packed_header bytes32 bytes16 node_field link_field destination_field
  header-reads =
      record {
        version-field = version-reads;
        node-field = u16-at (before 2) n _ (omega arith);
        link-field = u16-at (before 4) m _ (omega arith);
        destination-field = u16-at (before 6) p _ (omega arith);
        section-offset = offset-reads;
        section-size = size-reads;
      }
