-- The lengths of the parts of a packed study.
use Prim.Native.Nat.{ℕ, zero, suc, ◌+◌, ◌*◌, ◌≤◌}
use Rattle.std.proofs.Common.{mul-le-mul, ⊎_elim}
use native.Mathlib.Omega.{arith}
use Rattle.std.specs.Prelude.{List, [], ◌∷◌, ◌++◌, ◌≡◌, length, get_or}
use Rattle.std.proofs.Math.Path.{refl}
use Rattle.std.proofs.Math.ListN.{length-append}
use Rattle.study.specs.Versions.{versions, form_of, section_size}
use Rattle.study.specs.Header.{version}
use Rattle.study.specs.Sections.{nodes, links, destinations, part}
use Rattle.study.specs.Laws.{Known, part_length, size-there, size_none}
use Rattle.theory.specs.Finite.{sum, rows}
use Rattle.theory.specs.Laws.Finite.{order, sum-suc, sum_bound, length-rows}
use Rattle.calls.specs.Pack.{bytes16, bytes32, section_place, packed_header, packed}
use Rattle.calls.specs.Questions.{packed_size}

pub length16 : (x : ℕ) → length (bytes16 x) ≡ 2
unfolding bytes16
length16 x = refl

pub length32 : (x : ℕ) → length (bytes32 x) ≡ 4
unfolding bytes32 bytes16
length32 x = refl

-- The header of a version that there is has the bytes that the table gives it.
pub header-length : (version n m p : ℕ) → 1 ≤ version → version ≤ 4 → length (packed_header version n m p) ≡ (form_of version).header
unfolding packed_header bytes32 bytes16 rows form_of versions
header-length zero n m p least most = absurd (omega arith)
header-length (suc zero) n m p least most = refl
header-length (suc (suc zero)) n m p least most = refl
header-length (suc (suc (suc zero))) n m p least most = refl
header-length (suc (suc (suc (suc zero)))) n m p least most = refl
header-length (suc (suc (suc (suc (suc version))))) n m p least most = absurd (omega arith)

-- The offset and the length of a section.
abbrev pub pair_of : ℕ → ℕ → ℕ → ℕ → ℕ → List ℕ
pair_of version n m p section = bytes32 (section_place version n m p section) ++ bytes32 (section_size version n m p section)

module _ (v n m p : ℕ) where
  pub pair-long : (section : ℕ) → length (pair_of v n m p section) ≡ 8
  pair-long section =
      omega (
        arith,
        length-append (bytes32 (section_place v n m p section)) (bytes32 (section_size v n m p section)),
        length32 (section_place v n m p section),
        length32 (section_size v n m p section),
      )

  pub pairs-long : (count : ℕ) → length (rows count (pair_of v n m p)) ≡ count * 8
  pairs-long count = length-rows count 8 (pair_of v n m p) (λ section h. pair-long section)

  -- The first section begins at the header's end, and each one ends where the next begins.
  pub place-first : (form_of v).header ≡ section_place v n m p 0
  unfolding section_place sum
  place-first = omega arith

  pub place-more : (section : ℕ) {place size : ℕ} → place ≡ section_place v n m p section → size ≡ section_size v n m p section → place + size ≡ section_place v n m p (section + 1)
  unfolding section_place
  place-more section place_is size_is = omega (arith, sum-suc section (section_size v n m p))

-- A section has at most 8,192 bytes, and there are at most six.
module _ {v n m p : ℕ} (known : Known v) (hn : n ≤ 128) (hm : m ≤ 512) (hp : p ≤ 32) where
  pub size-most : (section : ℕ) → section_size v n m p section ≤ 8192
  size-most section =
      ⊎_elim (λ h. rw (size-there v n m p section h) (entry section))
      (λ h. rw (size_none v n m p section h) (omega arith))
      (order section (form_of v).sections)
    where
      link-bytes : (form_of v).link * m ≤ 6144
      link-bytes = mul-le-mul known.link-bytes.1 hm

      trip-bytes : 2 * p * n ≤ 8192
      trip-bytes = mul-le-mul {n₁ = 2 * p} {m₁ = n} {n₂ = 64} {m₂ = 128} (omega arith) hn

      entry : (i : ℕ) → get_or ((form_of v).link * m ∷ 2 * p ∷ 2 * p * n ∷ n ∷ 2 * p * n ∷ m ∷ []) i 0 ≤ 8192
      entry zero = omega (arith, link-bytes)
      entry (suc zero) = omega arith
      entry (suc (suc zero)) = trip-bytes
      entry (suc (suc (suc zero))) = omega arith
      entry (suc (suc (suc (suc zero)))) = trip-bytes
      entry (suc (suc (suc (suc (suc zero))))) = omega arith
      entry (suc (suc (suc (suc (suc (suc i)))))) = omega arith

  pub place-most : (section : ℕ) → section ≤ (form_of v).sections → section_place v n m p section ≤ 49208
  unfolding section_place
  place-most section h =
      omega (
        arith,
        known.pairs,
        known.some-sections,
        sum_bound section 8192 (section_size v n m p) (λ i b. size-most i),
      )

-- A packed study ends at its packed size.
module _ (file : List ℕ) where
  pub place_end : section_place (version file) (nodes file) (links file) (destinations file) (form_of (version file)).sections ≡ packed_size file
  unfolding packed_size section_place
  place_end = refl

  pub parts-long : (count : ℕ) → length (rows count (part file)) ≡ sum count (section_size (version file) (nodes file) (links file) (destinations file))
  unfolding rows sum
  parts-long zero = refl
  parts-long (suc count) = omega (arith, length-append (rows count (part file)) (part file count), parts-long count, part_length file count)

  -- The header and the first sections end where the next one begins.
  pub study-long : Known (version file) → (count : ℕ) →
      length (packed_header (version file) (nodes file) (links file) (destinations file) ++ rows count (part file)) ≡ section_place (version file) (nodes file) (links file) (destinations file) count
  unfolding section_place
  study-long known count =
      omega (
        arith,
        length-append (packed_header (version file) (nodes file) (links file) (destinations file)) (rows count (part file)),
        header-length (version file) (nodes file) (links file) (destinations file) known.least known.most,
        parts-long count,
      )

  pub packed-length : Known (version file) → length (packed file) ≡ packed_size file
  unfolding packed packed_size section_place
  packed-length known = study-long known (form_of (version file)).sections
