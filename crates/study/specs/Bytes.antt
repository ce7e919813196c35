-- Document 01's "u16" and "u32": unsigned numbers of two and four bytes, the lowest byte first.
use Rattle.std.specs.Prelude.{ℕ, ◌+◌, ◌*◌, List, get_or}

-- A byte past the end counts as 0: every definition of the format is a total function of the bytes.
abbrev pub byte : List ℕ → ℕ → ℕ
byte bytes at = get_or bytes at 0

unfoldable pub u16 : List ℕ → ℕ → ℕ
u16 bytes at = byte bytes at + 256 * byte bytes (at + 1)

unfoldable pub u32 : List ℕ → ℕ → ℕ
u32 bytes at = u16 bytes at + 65536 * u16 bytes (at + 2)
