-- Steps and times: their ranges, and that a time does not fall as the step grows.
use Rattle.std.specs.Prelude.{ℕ, ◌*◌, ◌/◌, ◌<◌, ◌≤◌, List, [], length, slice_index, slice_index_or}
use Rattle.std.proofs.Math.Nat.{min-le_right, le_trans}
use Rattle.std.proofs.Common.{mul-le-mul, mul-le-mul_right, div-mul-le_self}
use Rattle.theory.specs.Study.{free_time, rise, capacity, power}
use Rattle.theory.specs.Flows.{step}
use Rattle.theory.specs.Laws.Times.{step-most, step_time-least, step_time-most}
use Rattle.travel.specs.Links.{row_power, row_time, list_time}
use Rattle.travel.specs.Ranges.{LinkFits, LinksFit, most_time, most_flow}

-- The width of a tread, c·W.
pub width_some : (c w : ℕ) → 1 ≤ c → 1 ≤ w → 1 ≤ c * w
width_some c w hc hw = mul-le-mul hc hw

pub width-most : (c w : ℕ) → c ≤ 65535 → w ≤ 1024 → c * w ≤ most_flow
width-most c w hc hw = mul-le-mul hc hw

-- The treads below a step, each c·W wide, are within 64·S.
pub step-within : (c w s : ℕ) → step c w s * (c * w) ≤ 64 * s
unfolding step
step-within c w s =
    le_trans (mul-le-mul_right (c * w) (min-le_right 256 (64 * s / (c * w)))) (div-mul-le_self (64 * s) (c * w))

-- The time of a link at a step, and with the flows of a list.
pub row_time-most : (link : List ℕ) (r : ℕ) → LinkFits link → r ≤ 256 → row_time link r ≤ most_time
row_time-most link r fit h =
    step_time-most (slice_index link 2) (slice_index link 3) (row_power link) r fit.time-fits fit.rise-fits fit.power-fits h

module _ (links : List (List ℕ)) (fit : LinksFit links) (share : ℕ) (flows : List ℕ) (l : ℕ) (h : l < length links) where
  pub list_time-least : 1 ≤ list_time links share flows l
  unfolding list_time
  list_time-least = le_trans (fit.link l h).some-time (step_time-least (free_time links l) (rise links l) (power links l) _)

  pub list_time-most : list_time links share flows l ≤ most_time
  unfolding list_time
  list_time-most = row_time-most (slice_index_or links l []) _ (fit.link l h) (step-most (capacity links l) share (slice_index flows l))
