-- The invariant of `heights_below`: what the treads passed rise is added.
use Rattle.std.proofs.Common.{◌≡◌, ℕ, List, get_or}
use Rattle.theory.specs.Finite.{sum}
use Rattle.travel.specs.Links.{row_power}
use Rattle.travel.specs.Laws.Powers.{risen_at}
use Rattle.travel.proofs.costs.heights_below.Given as goal

-- What the first r treads of a link rise.
abbrev pub risen-of : List ℕ → ℕ → ℕ
risen-of link r = sum r (risen_at (get_or link 3 0) (row_power link))

abbrev pub invariant-loop-power : goal.invariant-loop-power
invariant-loop-power l = l.risen ≡ risen-of l.curve.link l.power-index
