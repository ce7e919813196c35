-- What the file layer hands on of a file: n, m and p, and each section as a part of the bytes. Of a file that one of questions 1 to 5
-- refuses these are 0 and the empty part.
use Rattle.std.specs.Prelude.{ℕ, cond, List, [], take, drop, eqb}
use Rattle.study.specs.Versions.{form_of}
use Rattle.study.specs.Header.{version, node_field, link_field, destination_field, has_section, offset, size}
use Rattle.study.specs.Questions.{refusal}

-- A value of an accepted file, and the other value of a refused one.
abbrev pub if_accepted : {A : Type 0} → List ℕ → A → A → A
if_accepted file value other = cond (eqb (refusal file) 0) value other

-- n, m and p of document 01.
unfoldable pub nodes : List ℕ → ℕ
nodes file = if_accepted file (node_field file) 0

unfoldable pub links : List ℕ → ℕ
links file = if_accepted file (link_field file) 0

unfoldable pub destinations : List ℕ → ℕ
destinations file = if_accepted file (destination_field file) 0

-- How many destinations have lorry trips (A.7): p, or none in a version without them.
unfoldable pub lorry_destinations : List ℕ → ℕ
lorry_destinations file = cond (has_section file 4) (destinations file) 0

-- The bytes of a link in the file's version.
abbrev pub link_size : List ℕ → ℕ
link_size file = (form_of (version file)).link

-- The part of the file at a section's offset, of its length.
unfoldable pub part : List ℕ → ℕ → List ℕ
part file section = if_accepted file (take (size file section) (drop (offset file section) file)) []

abbrev pub link_part : List ℕ → List ℕ
link_part file = part file 0

abbrev pub destination_part : List ℕ → List ℕ
destination_part file = part file 1

abbrev pub trip_part : List ℕ → List ℕ
trip_part file = part file 2

-- (A.2) Of a version 1 file it is empty.
abbrev pub closed_part : List ℕ → List ℕ
closed_part file = part file 3

-- (A.7) Of a file of versions 1 to 3 both are empty.
abbrev pub lorry_part : List ℕ → List ℕ
lorry_part file = part file 4

abbrev pub barred_part : List ℕ → List ℕ
barred_part file = part file 5
