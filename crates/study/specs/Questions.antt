-- Document 01, 'The questions, in order': questions 1 to 5, which are put to the bytes of the file alone.
use Rattle.std.specs.Prelude.{ℕ, zero, suc, ◌+◌, Bool, true, ◌&&◌, cond, List, [], ◌∷◌, length, leb, eqb}
use Rattle.study.specs.Versions.{versions, form_of, section_size}
use Rattle.study.specs.Header.{version, node_field, link_field, destination_field, offset, size}

-- A question of document 01: its number, and whether the answer is yes.
pub record Question : Type 0 where
  pub number : ℕ
  pub yes : Bool

-- A "no" refuses with that number, and the first "no" counts. Where every answer is yes the number is 0.
abbrev pub first_no : List Question → ℕ
first_no [] = 0
first_no (q ∷ rest) = cond q.yes (first_no rest) q.number

abbrev pub within : ℕ → ℕ → ℕ → Bool
within least most x = leb least x && leb x most

-- 1. Is the file 32 to 65,536 bytes long?
unfoldable pub length_fits : List ℕ → Bool
length_fits file = within 32 65536 (length file)

-- 2. Is the version one of the table: 1, 2 (A.2), 3 (A.5) or 4 (A.7)?
unfoldable pub version_known : List ℕ → Bool
version_known file = within 1 (length versions) (version file)

-- 3. Is n 2 to 128, m 1 to 512, p 1 to 32, and p at most n?
unfoldable pub counts_fit : List ℕ → Bool
counts_fit file =
    within 2 128 (node_field file)
    && within 1 512 (link_field file)
    && within 1 32 (destination_field file)
    && leb (destination_field file) (node_field file)

-- Where a section ends: the sum of its offset and its length, which may pass 2 ^ 32.
abbrev pub section_end : List ℕ → ℕ → ℕ
section_end file section = offset file section + size file section

-- A test of each of the first sections.
unfoldable pub each_section : ℕ → (ℕ → Bool) → Bool
each_section zero test = true
each_section (suc count) test = each_section count test && test count

-- Each section of the version ends at or before the next offset, and the last within the file: past the last section the offset is the file's end.
unfoldable pub sections_apart : List ℕ → Bool
sections_apart file = each_section (form_of (version file)).sections (λ section. leb (section_end file section) (offset file (section + 1)))

-- 4. Has the file its version's header, is the first offset at least the header's size, does each section end at or before the next offset,
-- and the last within the file?
unfoldable pub sections_in_order : List ℕ → Bool
sections_in_order file =
    leb (form_of (version file)).header (length file)
    && leb (form_of (version file)).header (offset file 0)
    && sections_apart file

-- 5. Is each section's length that of the version: 10m, or 12m from version 3 on, 2p, 2pn, from version 2 on n, and in version 4 2pn and m?
unfoldable pub sizes_fit : List ℕ → Bool
sizes_fit file =
    each_section (form_of (version file)).sections (λ section.
    eqb (size file section) (section_size (version file) (node_field file) (link_field file) (destination_field file) section))

-- Questions 1 to 5, in order. Every call's list of questions begins with these.
unfoldable pub opening : List ℕ → List Question
opening file =
    record { number = 1; yes = length_fits file }
    ∷ record { number = 2; yes = version_known file }
    ∷ record { number = 3; yes = counts_fit file }
    ∷ record { number = 4; yes = sections_in_order file }
    ∷ record { number = 5; yes = sizes_fit file }
    ∷ []

-- The number of the first of questions 1 to 5 that refuses the file, or 0.
unfoldable pub refusal : List ℕ → ℕ
refusal file = first_no (opening file)
