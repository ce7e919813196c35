-- The staircase as the code adds it up: the treads below the step, each covered whole, and what is left at the height of the step.
use Rattle.std.specs.Prelude.{◌≡◌, ℕ, zero, suc, ◌+◌, ◌-◌, ◌*◌, ◌/◌, ◌<◌, ◌≤◌, min}
use Rattle.std.proofs.Math.Nat.{min-eq_left, min-eq_right, min-zero, mul-le-mul_right, lt-div-mul-add}
use Rattle.std.proofs.Common.{mul-le-mul, le_trans, le_of_lt, div-mul-le_self, arith, ◌∙◌, ⊎_elim}
use Rattle.std.proofs.Math.Path.{ap}
use Rattle.theory.specs.Finite.{sum}
use Rattle.theory.specs.Flows.{step}
use Rattle.theory.specs.Cost.{staircase, link_cost}
use Rattle.theory.specs.Laws.Finite.{sum-suc, sum-cong, sum-scale, sum_bound, below_suc, order}
use Rattle.theory.specs.Laws.Times.{step-most}
use Rattle.travel.specs.Laws.Times.{step-within}

-- Terms that are 0 from n on add nothing.
sum-stop : (n m : ℕ) (f : ℕ → ℕ) → n ≤ m → ((i : ℕ) → n ≤ i → i < m → f i ≡ 0) → sum m f ≡ sum n f
unfolding sum
sum-stop n zero f h z = let e : n ≡ 0 = omega arith in rw e
sum-stop n (suc m) f h z =
    ⊎_elim (λ p. more p (sum-stop n m f (omega arith) (λ i q r. z i q (omega arith)))) (λ e. rw e)
    (below_suc (suc m) n (omega arith))
  where
    more : n < suc m → sum m f ≡ sum n f → sum m f + f m ≡ sum n f
    more p a = omega (arith, z m (omega arith) (omega arith))

-- What tread r adds to the area from 0 to x.
abbrev part : (ℕ → ℕ) → ℕ → ℕ → ℕ → ℕ
part height width x r = height r * min width (x - r * width)

-- Of treads of one width, k are covered whole.
module _ (height : ℕ → ℕ) (width x k : ℕ) (within : k * width ≤ x) where
  whole : sum k (part height width x) ≡ sum k height * width
  whole = sum-cong k (part height width x) (λ r. width * height r) each ∙ sum-scale k width height ∙ omega arith
    where
      each : (r : ℕ) → r < k → part height width x r ≡ width * height r
      each r p =
          let next : (r + 1) * width ≤ k * width = mul-le-mul_right width (omega arith) in
          let all : min width (x - r * width) ≡ width = omega (arith, within) in
          rw all (omega arith)

  -- There are no more treads, and the last runs on without end.
  stairs-all : staircase k height width x ≡ sum k height * width + height k * (x - k * width)
  unfolding staircase
  stairs-all = ap (λ y. y + height k * (x - k * width)) whole

  -- There are more, and x lies on the one after those.
  stairs-below : (n : ℕ) → k < n → x < (k + 1) * width → staircase n height width x ≡ sum k height * width + height k * (x - k * width)
  unfolding staircase
  stairs-below n more short =
      let last : height n * (x - n * width) ≡ 0 = rw (past n (omega arith)) (omega arith) in
      let left : min width (x - k * width) ≡ x - k * width = omega (arith, short, within) in
      let here : part height width x k ≡ height k * (x - k * width) = ap (λ y. height k * y) left in
      omega
      (arith, sum-stop (k + 1) n (part height width x) (omega arith) (λ r p q. none r p), sum-suc k (part height width x), whole)
    where
      past : (r : ℕ) → k + 1 ≤ r → x - r * width ≡ 0
      past r p = let a : (k + 1) * width ≤ r * width = mul-le-mul_right width p in omega (arith, short)

      none : (r : ℕ) → k + 1 ≤ r → part height width x r ≡ 0
      none r p = rw (past r p, min-zero) (omega arith)

-- The number of treads is arbitrary here, so that nothing computes a sum of 256 terms.
stairs : (n : ℕ) (height : ℕ → ℕ) (width x : ℕ) → 1 ≤ width →
    staircase n height width x ≡ sum (min n (x / width)) height * width + height (min n (x / width)) * (x - min n (x / width) * width)
stairs n height width x h = ⊎_elim below above (order (x / width) n)
  where
    below : x / width < n →
        staircase n height width x ≡ sum (min n (x / width)) height * width + height (min n (x / width)) * (x - min n (x / width) * width)
    below p =
        rw (min-eq_right (le_of_lt p)) (stairs-below height width x (x / width) (div-mul-le_self x width) n p (omega (arith, lt-div-mul-add {a = x} {b = width} h)))

    above : n ≤ x / width →
        staircase n height width x ≡ sum (min n (x / width)) height * width + height (min n (x / width)) * (x - min n (x / width) * width)
    above p =
        rw (min-eq_left p) (stairs-all height width x n (le_trans (mul-le-mul_right width p) (div-mul-le_self x width)))

-- The cost of a link by its step.
pub link_cost-treads : (height : ℕ → ℕ) (c w s : ℕ) → 1 ≤ c → 1 ≤ w →
    link_cost height c w s ≡ sum (step c w s) height * (c * w) + height (step c w s) * (64 * s - step c w s * (c * w))
unfolding link_cost step
link_cost-treads height c w s hc hw = stairs 256 height (c * w) (64 * s) (mul-le-mul hc hw)

-- It is no more than the whole of 64·S at the greatest height.
pub link_cost-most : (height : ℕ → ℕ) (top c w s : ℕ) → 1 ≤ c → 1 ≤ w → ((r : ℕ) → r ≤ 256 → height r ≤ top) →
    link_cost height c w s ≤ 64 * s * top
link_cost-most height top c w s hc hw high =
    let r : ℕ = step c w s in
    let most : r ≤ 256 = step-most c w s in
    let low : sum r height ≤ r * top = sum_bound r top height (λ i p. high i (omega arith)) in
    let a : sum r height * (c * w) ≤ r * top * (c * w) = mul-le-mul_right (c * w) low in
    let b : height r * (64 * s - r * (c * w)) ≤ top * (64 * s - r * (c * w)) = mul-le-mul_right (64 * s - r * (c * w)) (high r most) in
    let e : r * (c * w) + (64 * s - r * (c * w)) ≡ 64 * s = omega (arith, step-within c w s) in
    omega (arith, link_cost-treads height c w s hc hw, ap (λ x. x * top) e)
