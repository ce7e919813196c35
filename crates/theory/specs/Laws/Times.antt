-- Steps and times of links.
use Rattle.std.specs.Prelude.{ℕ, zero, suc, ◌+◌, ◌*◌, ◌/◌, ◌^◌, ◌≤◌, ◌<◌, min, ◌≡◌, refl, true, false, ◌↔◌, List, get_or, length, leb}
use Rattle.std.proofs.Math.Nat.{le-min, min-le_left, min-le_right, min-eq_left, pow-le-pow_left, pow-le-pow_right, pow-zero, one-le-pow, one-le-mul, zero-div}
use Rattle.std.proofs.Common.{le_trans, le-div_iff_mul-le, le_of_mul-le-mul_right, mul-le-mul_left, mul-le-mul_right, mul-le-mul, pow-suc, div-mul-le_self, mul-div_cancel, arith, sym, ap, ◌∙◌, eq-eqb, eqb-true, leb-true, le-leb}
use Rattle.theory.specs.Network.{Network}
use Rattle.theory.specs.Flows.{total, step, step_time, time_at, times, is_over}
use Rattle.theory.specs.Laws.Finite.{get_d_tabulate, length-tabulate}
use Rattle.theory.specs.Laws.Cases.{same_test}

-- The list of times has an entry for every link,
pub length-times : (g : Network) (share : ℕ) (table : List ℕ) → length (times g share table) ≡ g.links
unfolding times
length-times g share table = length-tabulate g.links _

-- the time of that link.
pub times-at : (g : Network) (share : ℕ) (table : List ℕ) (l : ℕ) → l < g.links →
    get_or (times g share table) l 0 ≡ time_at g share (total g table) l
unfolding times
times-at g share table l p = get_d_tabulate g.links _ 0 l p

-- The step does not fall where the flow per share does not fall.
pub step-mono : (capacity share flow share' flow' : ℕ) → 1 ≤ capacity → 1 ≤ share → 1 ≤ share' → flow * share' ≤ flow' * share →
    step capacity share flow ≤ step capacity share' flow'
unfolding step
step-mono c w s w' s' some-capacity some-share some-share' more =
    le-min (min-le_left 256 (64 * s / (c * w)))
    (le_trans (min-le_right 256 (64 * s / (c * w)))
    ((le-div_iff_mul-le (one-le-mul some-capacity some-share')).1 (le_of_mul-le-mul_right {k = w} scaled some-share)))
  where
    scaled : 64 * s / (c * w) * (c * w') * w ≤ 64 * s' * w
    scaled =
        let a = mul-le-mul_right w' (div-mul-le_self (64 * s) (c * w)) in
        omega arith

-- A quotient does not fall as the number that is divided grows.
div_mono : (k : ℕ) {x y : ℕ} → 1 ≤ k → x ≤ y → x / k ≤ y / k
div_mono k {x} {y} h p = (le-div_iff_mul-le {k = k} {x = x / k} {y = y} h).1 (le_trans (div-mul-le_self x k) p)

-- A power of a product is the product of the powers.
pub pow-mul : (x y q : ℕ) → (x * y) ^ q ≡ x ^ q * y ^ q
pow-mul x y zero = rw (pow-zero (x * y), pow-zero x, pow-zero y) refl
pow-mul x y (suc q) = rw (pow-suc (x * y) q, pow-suc x q, pow-suc y q, pow-mul x y q) (omega arith)

-- (A.5) Of any power q, the time at a step does not fall as the step grows, and is at least the free time.
pub step_time-mono : (a b q : ℕ) {r s : ℕ} → r ≤ s → step_time a b q r ≤ step_time a b q s
unfolding step_time
step_time-mono a b q {r} {s} h =
    let high : b * r ^ q / 64 ^ q ≤ b * s ^ q / 64 ^ q = div_mono (64 ^ q) (one-le-pow q 64 (omega arith)) (mul-le-mul_left b (pow-le-pow_left h q)) in
    omega arith

pub step_time-least : (a b q r : ℕ) → a ≤ step_time a b q r
unfolding step_time
step_time-least a b q r = omega arith

-- (A.5) Of power 4 it is document 01's.
pub step_time-fourth : (a b r : ℕ) → step_time a b 4 r ≡ a + (b * r ^ 4) / 16777216
unfolding step_time
step_time-fourth a b r = refl

-- A step is at most 256, where the time is a + b·4^q, and so at most a + 256·b, with the largest a, b and q that question 7 accepts.
pub step-most : (c w s : ℕ) → step c w s ≤ 256
unfolding step
step-most c w s = min-le_left 256 (64 * s / (c * w))

pub step_time-top : (a b q : ℕ) → step_time a b q 256 ≡ a + b * 4 ^ q
unfolding step_time
step_time-top a b q = rw (scaled, mul-div_cancel (b * 4 ^ q) {n = 64 ^ q} (one-le-pow q 64 (omega arith)))
  where
    scaled : b * 256 ^ q ≡ b * 4 ^ q * 64 ^ q
    scaled = rw (pow-mul 4 64 q) (omega arith)

pub step_time-most : (a b q r : ℕ) → a ≤ 16383 → b ≤ 16383 → q ≤ 4 → r ≤ 256 → step_time a b q r ≤ 16383 * 257
step_time-most a b q r ha hb hq hr =
    let quick : 4 ^ q ≤ 256 = pow-le-pow_right {n = 4} (omega arith) hq in
    le_trans (step_time-mono a b q hr) (rw (step_time-top a b q) (omega (arith, mul-le-mul hb quick)))

-- (A.4) Step 256 is reached exactly where 64·S is at least 256·c·W,
pub over-exactly : (c w s : ℕ) → 1 ≤ c → 1 ≤ w → (is_over (step c w s) ≡ true) ↔ (256 * (c * w) ≤ 64 * s)
unfolding step
over-exactly c w s hc hw =
    let treads = le-div_iff_mul-le {k = c * w} {x = 256} {y = 64 * s} (one-le-mul hc hw) in (
      λ e. treads.0 (omega (arith, eqb-true (min 256 (64 * s / (c * w))) 256 e)),
      λ h. eq-eqb (min 256 (64 * s / (c * w))) 256 (min-eq_left (treads.1 h)),
    )

-- that is where the total, in parts of a trip as the capacity's c·W, is at least four times the capacity.
pub over-fourfold : (c w s : ℕ) → 1 ≤ c → 1 ≤ w → is_over (step c w s) ≡ leb (4 * (c * w)) s
over-fourfold c w s hc hw =
    let exactly = over-exactly c w s hc hw in
    same_test (is_over (step c w s)) (leb (4 * (c * w)) s) (
      λ e. le-leb (4 * (c * w)) s (omega (arith, exactly.0 e)),
      λ e. exactly.1 (omega (arith, leb-true (4 * (c * w)) s e)),
    )

-- An empty link has step 0.
pub over-empty : (c w : ℕ) → is_over (step c w 0) ≡ false
unfolding step
over-empty c w = rw (zero-div (c * w))
