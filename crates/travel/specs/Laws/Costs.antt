-- Cost and sums of products, link by link, and how large they are.
use Rattle.std.specs.Prelude.{◌≡◌, ℕ, ◌+◌, ◌-◌, ◌*◌, ◌<◌, ◌≤◌, Bool, cond, List, [], length, slice_index, slice_index_or}
use Rattle.std.proofs.Math.Nat.{mul-le-mul}
use Rattle.std.proofs.Common.{mul-le-mul_right, sub-le, arith, sym}
use Rattle.std.proofs.Math.Path.{refl}
use Rattle.theory.specs.Finite.{sum, count}
use Rattle.theory.specs.Study.{capacity}
use Rattle.theory.specs.Flows.{step, is_over}
use Rattle.theory.specs.Cost.{link_cost}
use Rattle.theory.specs.Laws.Finite.{sum-suc, sum_bound}
use Rattle.travel.specs.Links.{row_time, list_cost, list_over, list_product}
use Rattle.travel.specs.Ranges.{LinkFits, LinksFit, Within, most_time, most_flow}
use Rattle.travel.specs.Laws.Times.{step-within, row_time-most}
use Rattle.travel.specs.Laws.Staircase.{link_cost-treads, link_cost-most}

-- The heights of the treads below a step.
pub heights-most : (link : List ℕ) (r : ℕ) → LinkFits link → r ≤ 256 → sum r (row_time link) ≤ r * most_time
heights-most link r fit h = sum_bound r most_time (row_time link) (λ i p. row_time-most link i fit (omega arith))

-- The cost of a link as the code adds it up: at step r, with h the heights of the treads below it and t its own.
module _ (c w s r : ℕ) (at-step : r ≡ step c w s) where
  pub treads-within : r * (c * w) ≤ 64 * s
  treads-within = rw at-step (step-within c w s)

  pub whole-most : (h : ℕ) → h ≤ r * most_time → h * (c * w) ≤ 64 * s * most_time
  whole-most h low = omega (arith, mul-le-mul_right (c * w) low, mul-le-mul_right most_time treads-within)

  pub rest-most : (t : ℕ) → t ≤ most_time → t * (64 * s - r * (c * w)) ≤ 64 * s * most_time
  rest-most t low = omega (arith, mul-le-mul low (sub-le (64 * s) (r * (c * w))))

  pub treads-cost : (height : ℕ → ℕ) (h t : ℕ) → 1 ≤ c → 1 ≤ w → h ≡ sum r height → t ≡ height r →
      h * (c * w) + t * (64 * s - r * (c * w)) ≡ link_cost height c w s
  treads-cost height h t hc hw below here = rw (below, here, at-step) (sym (link_cost-treads height c w s hc hw))

pub cost-of-most : (link : List ℕ) (w s : ℕ) → LinkFits link → 1 ≤ w → link_cost (row_time link) (slice_index link 4) w s ≤ 64 * s * most_time
cost-of-most link w s fit hw =
    link_cost-most (row_time link) most_time (slice_index link 4) w s fit.some-capacity hw (λ i p. row_time-most link i fit p)

-- Products of two lists.
module _ (times flows : List ℕ) where
  pub product-none : list_product 0 times flows ≡ 0
  unfolding list_product sum
  product-none = refl

  pub product-more : (l : ℕ) → list_product (l + 1) times flows ≡ list_product l times flows + slice_index times l * slice_index flows l
  unfolding list_product
  product-more l = sum-suc l (λ i. slice_index times i * slice_index flows i)

  pub product-most : (m time flow : ℕ) → Within m time times → Within m flow flows → list_product m times flows ≤ m * (time * flow)
  unfolding list_product
  product-most m time flow ht hf =
      sum_bound m (time * flow) (λ i. slice_index times i * slice_index flows i) (λ i p. mul-le-mul (ht i p) (hf i p))

-- Costs, and links that are over.
module _ (links : List (List ℕ)) (share : ℕ) (flows : List ℕ) where
  -- The cost of one link, and of the first l.
  abbrev pub cost_at : ℕ → ℕ
  cost_at l = link_cost (row_time (slice_index_or links l [])) (capacity links l) share (slice_index flows l)

  abbrev pub cost_to : ℕ → ℕ
  cost_to l = sum l cost_at

  pub cost-none : cost_to 0 ≡ 0
  unfolding sum
  cost-none = refl

  pub cost-more : (l : ℕ) → cost_to (l + 1) ≡ cost_to l + cost_at l
  cost-more l = sum-suc l cost_at

  pub cost-all : cost_to (length links) ≡ list_cost links share flows
  unfolding list_cost
  cost-all = refl

  -- Whether one link is over, and how many of the first l.
  abbrev pub over_at : ℕ → Bool
  over_at l = is_over (step (capacity links l) share (slice_index flows l))

  abbrev pub over_to : ℕ → ℕ
  over_to l = count l over_at

  pub over_none : over_to 0 ≡ 0
  unfolding sum
  over_none = refl

  pub over-more : (l : ℕ) → over_to (l + 1) ≡ over_to l + cond (over_at l) 1 0
  over-more l = sum-suc l (λ i. cond (over_at i) 1 0)

  pub over-all : over_to (length links) ≡ list_over links share flows
  unfolding list_over
  over-all = refl

  -- 64 × 67,107,840 × 4,210,431 for each link: for 512 links less than 2⁶⁴.
  pub cost-most : LinksFit links → 1 ≤ share → Within (length links) most_flow flows → (l : ℕ) → l ≤ length links →
      cost_to l ≤ l * (64 * most_flow * most_time)
  cost-most fit h few l q = sum_bound l (64 * most_flow * most_time) cost_at each
    where
      each : (i : ℕ) → i < l → cost_at i ≤ 64 * most_flow * most_time
      each i p =
          omega
          (arith, few i (omega arith), cost-of-most (slice_index_or links i []) share (slice_index flows i) (fit.link i (omega arith)) h)
