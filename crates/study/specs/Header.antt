-- The header: u16 version, u16 nodes, u16 links, u16 destinations, then a pair of u32 offset and u32 length for each section of the version:
-- 32 bytes in version 1, 40 in versions 2 and 3, 56 in version 4.
use Rattle.std.specs.Prelude.{ℕ, ◌+◌, ◌*◌, ◌≤◌, Bool, cond, List, length, ltb}
use Rattle.study.specs.Bytes.{u16, u32}
use Rattle.study.specs.Versions.{form_of}

unfoldable pub version : List ℕ → ℕ
version file = u16 file 0

unfoldable pub node_field : List ℕ → ℕ
node_field file = u16 file 2

unfoldable pub link_field : List ℕ → ℕ
link_field file = u16 file 4

unfoldable pub destination_field : List ℕ → ℕ
destination_field file = u16 file 6

-- Sections are numbered in the order of their pairs: 0 links, 1 destinations, 2 trips, 3 closed, 4 lorry trips, 5 barred. A section that the
-- file's version does not have is empty, at the end of the file.
unfoldable pub has_section : List ℕ → ℕ → Bool
has_section file section = ltb section (form_of (version file)).sections

unfoldable pub offset : List ℕ → ℕ → ℕ
offset file section = cond (has_section file section) (u32 file (8 + 8 * section)) (length file)

unfoldable pub size : List ℕ → ℕ → ℕ
size file section = cond (has_section file section) (u32 file (12 + 8 * section)) 0

-- What a reader of the header asks of a file: that its version is known and that its header is there.
pub record Headed (file : List ℕ) : Type 0 where
  pub version-least : 1 ≤ version file
  pub version-most : version file ≤ 4
  pub header-there : (form_of (version file)).header ≤ length file
  pub length-least : 32 ≤ length file
  pub length_most : length file ≤ 65536
