-- Numbers in ASCII: their decimal digits, hundredths with a point, and columns.
use Rattle.std.specs.Prelude.{ℕ, zero, suc, ◌+◌, ◌-◌, ◌/◌, ◌%◌, true, false, List, [], ◌∷◌, ◌++◌, length, replicate, ltb}

abbrev pub space : List ℕ
space = 32 ∷ []

abbrev pub newline : List ℕ
newline = 10 ∷ []

-- The decimal digits of a number in ASCII, with no needless leading zero. The first number bounds how many digits there are; a number
-- has fewer digits than itself plus 1.
unfoldable pub digits_within : ℕ → ℕ → List ℕ
digits_within zero x = []
digits_within (suc more) x =
    elim (ltb x 10) [ true ↦ ((48 + x) ∷ []) | false ↦ digits_within more (x / 10) ++ ((48 + x % 10) ∷ []) ]

unfoldable pub decimal : ℕ → List ℕ
decimal x = digits_within (suc x) x

-- A number of hundredths, with a point before its last two digits and at least one digit before that: 5 is `0.05`, 1234 is `12.34`.
unfoldable pub hundredths : ℕ → List ℕ
hundredths x = decimal (x / 100) ++ (46 ∷ (48 + x / 10 % 10) ∷ (48 + x % 10) ∷ [])

-- Bytes right-aligned in a column of a width: spaces before them.
unfoldable pub aligned : ℕ → List ℕ → List ℕ
aligned width bytes = replicate (width - length bytes) 32 ++ bytes
