-- Bytes put into lent memory, one after the other.
use Rattle.std.specs.Prelude.{ℕ, ◌+◌, ◌%◌, ◌≡◌, cond, List, length, replicate, eqb}
use Rattle.std.proofs.lemmas.List.Edits.{sets}
use Rattle.text.specs.Decimal.{decimal, aligned}

-- Memory that held `before` holds `after` once `bytes` are put at `at`; `next` is the place behind them. All else is as it was.
pub record Put (before : List ℕ) (at : ℕ) (bytes : List ℕ) (after : List ℕ) (next : ℕ) : Type 0 where
  pub held : after ≡ sets before at bytes
  pub place : next ≡ at + length bytes

-- What stands in a column before the digits that are put already: the digits that are left, right-aligned, and spaces alone where none
-- is left. The last byte of it:
abbrev pub leading_byte : ℕ → ℕ
leading_byte rest = cond (eqb rest 0) 32 (48 + rest % 10)

unfoldable pub leading : ℕ → ℕ → List ℕ
leading width rest = cond (eqb rest 0) (replicate width 32) (aligned width (decimal rest))
