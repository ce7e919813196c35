-- Bytes written into lent memory, and the two parts of a packed study that follow its counts and its header.
use Rattle.std.specs.Prelude.{ℕ, ◌+◌, List, ◌++◌, length, take, drop}
use Rattle.study.specs.Versions.{form_of}
use Rattle.study.specs.Header.{version}
use Rattle.study.specs.Sections.{part}
use Rattle.theory.specs.Finite.{rows}
use Rattle.calls.specs.Laws.Pack.{pair_of}

-- New bytes at a place, and the bytes before and after them as they were.
unfoldable pub written : ℕ → List ℕ → List ℕ → List ℕ
written at new old = take at old ++ new ++ drop (at + length new) old

-- The pairs of every section of the version.
unfoldable pub pair_bytes : ℕ → ℕ → ℕ → ℕ → List ℕ
pair_bytes version n m p = rows (form_of version).sections (pair_of version n m p)

-- Every section of a file.
unfoldable pub section_bytes : List ℕ → List ℕ
section_bytes file = rows (form_of (version file)).sections (part file)
