-- How large the places are that a call lends for its work.
use Rattle.std.specs.Prelude.{ℕ, Bool, ◌&&◌, ◌||◌, cond, List, leb, ltb, eqb, length}
use Rattle.study.specs.Header.{version}

-- How many numbers the curves of a file's links need: 512 reciprocals and one list of powers where its version has none of its own, or four.
unfoldable pub curve_places : List ℕ → ℕ
curve_places file = cond (ltb (length file) 32 || ltb (version file) 3) 769 1540

-- Whether the smaller places are enough for a file.
unfoldable pub is_small : List ℕ → Bool
is_small file = leb (length file) 2048 && eqb (curve_places file) 769
