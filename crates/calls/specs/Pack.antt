-- Document 01's pack: an accepted study in its own version with no gaps, sections in order from the header's end on.
use Rattle.std.specs.Prelude.{ℕ, ◌+◌, ◌/◌, ◌%◌, List, [], ◌∷◌, ◌++◌}
use Rattle.study.specs.Versions.{form_of, section_size}
use Rattle.study.specs.Header.{version}
use Rattle.study.specs.Sections.{nodes, links, destinations, part}
use Rattle.theory.specs.Finite.{sum, rows}

-- A u16 and a u32 as bytes, the lowest first.
unfoldable pub bytes16 : ℕ → List ℕ
bytes16 x = x % 256 ∷ x / 256 % 256 ∷ []

unfoldable pub bytes32 : ℕ → List ℕ
bytes32 x = bytes16 (x % 65536) ++ bytes16 (x / 65536)

-- Where a section begins in a version, of a study of n nodes, m links and p destinations: after the header and the sections before it.
unfoldable pub section_place : ℕ → ℕ → ℕ → ℕ → ℕ → ℕ
section_place version n m p section = (form_of version).header + sum section (section_size version n m p)

-- The version and the counts, and then the offset and the length of each section of the version.
unfoldable pub packed_header : ℕ → ℕ → ℕ → ℕ → List ℕ
packed_header version n m p =
    bytes16 version
    ++ bytes16 n
    ++ bytes16 m
    ++ bytes16 p
    ++ rows (form_of version).sections (λ section. bytes32 (section_place version n m p section) ++ bytes32 (section_size version n m p section))

-- The sections follow in the order of their pairs: links, destinations, trips, and in later versions closed (A.2), lorry trips and barred (A.7).
unfoldable pub packed : List ℕ → List ℕ
packed file =
    packed_header (version file) (nodes file) (links file) (destinations file)
    ++ rows (form_of (version file)).sections (part file)
