-- The note of a pass, over a decoded study.
use Rattle.std.specs.Prelude.{ℕ, ◌*◌, ◌≤◌, ◌<◌, cond, List, ◌∷◌, length, replicate, ltb, leb}
use Rattle.theory.specs.Network.{Network}
use Rattle.theory.specs.Notes.{note_links, next_marks}
use Rattle.theory.specs.Study.{no_link}
use Rattle.calls.specs.Calls.{overwritten}
use Rattle.travel.specs.Ranges.{TimesFit}
use Rattle.judging.specs.Classes.{ClassNexts}
use Rattle.judging.specs.Study.{Study, link_count, commodity_count, Ready}

-- The note after a pass that chose j at the times of a list, by what a doubling makes of the share.
unfoldable pub note_by : Network → List ℕ → ℕ → ℕ → List ℕ → List ℕ
note_by g times j doubled note =
    cond (ltb 0 j) (overwritten (j ∷ next_marks g times) note)
    (cond (leb doubled 1024) (overwritten (0 ∷ replicate (note_links g) no_link) note) note)

-- What filling it asks: times that fit and the next links at them, a j in its range, and a note that is long enough.
pub record Notable (d : Study) (times : List ℕ) (nexts : List (List ℕ)) (j : ℕ) (note : List ℕ) : Type 0 where
  pub ready : Ready d
  pub times-fit : TimesFit (link_count d) times
  pub nexts-are : ClassNexts d times nexts
  pub small-step : j ≤ 64
  pub holds : commodity_count d * d.nodes < length note
