-- The two halves of question 7: the free time, rise and capacity of each link, and its power (A.5).
use Rattle.std.specs.Prelude.{ℕ, Bool, ◌&&◌, List, leb, length}
use Rattle.study.specs.Questions.{within}
use Rattle.theory.specs.Finite.{all}
use Rattle.theory.specs.Study.{free_time, rise, capacity, power}

unfoldable pub road_test : List (List ℕ) → ℕ → Bool
road_test rows l = within 1 16383 (free_time rows l) && within 0 16383 (rise rows l) && leb 1 (capacity rows l)

unfoldable pub roads_fit : List (List ℕ) → Bool
roads_fit rows = all (length rows) (road_test rows)

unfoldable pub power_test : List (List ℕ) → ℕ → Bool
power_test rows l = within 1 4 (power rows l)

unfoldable pub powers_fit : List (List ℕ) → Bool
powers_fit rows = all (length rows) (power_test rows)
