-- The invariant of `chosen`: the j that is sought is `low` or above, and not above `high`, and each try has brought them nearer to each other. The
-- measure is what lies between them.
use Rattle.std.proofs.Common.{ℕ, ◌+◌, ◌-◌, ◌≤◌, min, Bool, List}
use Rattle.theory.specs.Moves.{qualifies}
use Rattle.travel.specs.Links.{roads, total_of, load_of}
use Rattle.travel.specs.Laws.Bisection.{Between}
use Rattle.travel.proofs.choice.chosen.Given as goal

-- Whether a number qualifies.
abbrev qualifying : List (List ℕ) → List (List ℕ) → ℕ → ℕ → Bool
qualifying links flows share j = qualifies (roads links) share (total_of flows) (load_of flows) j

abbrev pub invariant-loop-bounds : goal.invariant-loop-bounds
invariant-loop-bounds l =
    Between (min 64 (1024 - l.share)) (qualifying l.links l.flows l.share) l.bounds.low l.bounds.high × (l.tries + (l.bounds.high - l.bounds.low) ≤ 64)

abbrev pub decreases-loop-bounds : goal.decreases-loop-bounds
decreases-loop-bounds l = l.bounds.high - l.bounds.low
