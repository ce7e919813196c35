-- A staircase lies above its tangents: the cost of one link at any flow and share, against the time of a step.
use Rattle.std.specs.Prelude.{ℕ, zero, suc, ◌+◌, ◌*◌, ◌-◌, ◌/◌, ◌≤◌, ◌<◌, min, List, get_or, ◌≡◌}
use Rattle.std.proofs.Common.{le_refl, le_trans, le_of_eq, mul-le-mul_left, mul-le-mul_right, le-div_iff_mul-le, arith}
use Rattle.std.proofs.Math.Nat.{one-le-mul, min-le_left, min-le_right, lt-div-mul-add}
use Rattle.std.proofs.Math.Decide.{dec_lt}
use Rattle.theory.specs.Finite.{sum}
use Rattle.theory.specs.Network.{Network, Sound}
use Rattle.theory.specs.Flows.{step, total, times}
use Rattle.theory.specs.Cost.{staircase, link_cost, cost, spent_times}
use Rattle.theory.specs.Laws.Times.{times-at}
use Rattle.theory.specs.Laws.Inequalities.{rearrangement, rising_le, sums-le}

-- The part of tread r that 0 to x covers.
abbrev part : ℕ → ℕ → ℕ → ℕ
part width x r = min width (x - r * width)

-- The parts of the treads add up to x.
parts_add : (width x treads : ℕ) → sum treads (part width x) + (x - treads * width) ≡ x
unfolding sum
parts_add width x zero = omega arith
parts_add width x (suc n) = omega (arith, parts_add width x n)

-- The step of x on treads of a width: the tread on which x lies.
record Stands (treads width x r : ℕ) : Type 0 where
  within : r ≤ treads
  past : r * width ≤ x
  before : r < treads → x < suc r * width

stands : (treads width x : ℕ) → 1 ≤ width → Stands treads width x (min treads (x / width))
stands treads width x wide =
    record {
      within = min-le_left treads (x / width);
      past = (le-div_iff_mul-le wide).0 (min-le_right treads (x / width));
      before = λ p.
          let e : min treads (x / width) ≡ x / width = omega arith in
          rw e (omega (arith, lt-div-mul-add {a = x} wide));
    }

-- Our x on treads a wide with weight v, and a rival's y on treads b wide with weight w, where w × b = v × a.
module _ (treads : ℕ) (h : ℕ → ℕ) (rising : (r : ℕ) → h r ≤ h (suc r)) (a b v w : ℕ) (same : w * b ≡ v * a) (x y r : ℕ)
    (at : Stands treads a x r) where
  full : (i : ℕ) → i < r → part a x i ≡ a
  full i p = let q = mul-le-mul_right a p in omega (arith, at.past)

  empty : (i : ℕ) → r < i → i ≤ treads → x - i * a ≡ 0
  empty i p q = let d = mul-le-mul_right a p in omega (arith, at.before (omega arith))

  -- (h i − h r) × (w × q − v × p) is at least 0 at a tread after the step, where p is 0,
  after : (i p q : ℕ) → r ≤ i → (r < i → p ≡ 0) → h i * (v * p) + h r * (w * q) ≤ h i * (w * q) + h r * (v * p)
  after i p q later clear = go (dec_lt r i)
    where
      go : Dec (r < i) → h i * (v * p) + h r * (w * q) ≤ h i * (w * q) + h r * (v * p)
      go (yes k) =
          let z = clear k in
          rw z (omega (arith, mul-le-mul_right (w * q) (rising_le h rising r i later)))
      go (no k) = let e : i ≡ r = omega arith in rw e (omega arith)

  -- and so at every tread.
  tread : (i : ℕ) → i < treads → h i * (v * part a x i) + h r * (w * part b y i) ≤ h i * (w * part b y i) + h r * (v * part a x i)
  tread i p = go (dec_lt i r)
    where
      go : Dec (i < r) → h i * (v * part a x i) + h r * (w * part b y i) ≤ h i * (w * part b y i) + h r * (v * part a x i)
      go (yes k) =
          rw (full i k)
          (rearrangement (rising_le h rising i r (omega arith))
          (le_trans (mul-le-mul_left w (min-le_left b (y - i * b))) (le_of_eq same)))
      go (no k) = after i (part a x i) (part b y i) (omega arith) (λ q. let e = empty i q (omega arith) in omega arith)

  -- v × our area + w × the step's height × y is at most w × the rival's area + v × the step's height × x.
  staircase-tangent :
      v * staircase treads h a x + w * (h r * y) ≤ w * staircase treads h b y + v * (h r * x)
  unfolding staircase
  staircase-tangent =
      let p = part a x in
      let q = part b y in
      let summed =
      sums-le treads v (w * h r) w (v * h r) (λ i. h i * p i) q (λ i. h i * q i) p (λ i k. omega (arith, tread i k))
      in
      joined _ _ _ _ _ _ _ (parts_add a x treads) (parts_add b y treads) summed
      (after treads (x - treads * a) (y - treads * b) at.within (λ k. empty treads k (le_refl treads)))
    where
      -- the treads and the last one together
      joined : (n m p q d e k : ℕ) → p + n ≡ x → q + m ≡ y → v * d + w * h r * q ≤ w * e + v * h r * p →
          k * (v * n) + h r * (w * m) ≤ k * (w * m) + h r * (v * n) → v * (d + k * n) + w * (h r * y) ≤ w * (e + k * m) + v * (h r * x)
      joined n m p q d e k ex ey below last = rw (← ex, ← ey) (omega arith)

-- One link: V × the cost of S at share W + 64·W × t × R is at most W × the cost of any R at any share V + 64·V × t × S, where t is the
-- time of S at share W.
pub tangent :
    (h : ℕ → ℕ) → ((r : ℕ) → h r ≤ h (suc r)) → (capacity share other flow rival : ℕ) → 1 ≤ capacity → 1 ≤ share →
    other * link_cost h capacity share flow + 64 * (share * (h (step capacity share flow) * rival))
    ≤ share * link_cost h capacity other rival + 64 * (other * (h (step capacity share flow) * flow))
unfolding link_cost step
tangent h rising c w v s r some-capacity some-share =
    omega (
      arith,
      staircase-tangent 256 h rising (c * w) (c * v) v w (omega arith) (64 * s) (64 * r) (min 256 (64 * s / (c * w)))
          (stands 256 (c * w) (64 * s) (one-le-mul some-capacity some-share)),
    )

-- All links: V × the cost of a table at share W + 64·W × what any other table spends at the times of the first is at most W × the other
-- table's cost at any share V + 64·V × what the first spends at its own times.
pub cost-tangent :
    (g : Network) → Sound g → (share other : ℕ) → 1 ≤ share → (table rival : List ℕ) →
    other * cost g share table + 64 * (share * spent_times g (times g share table) rival)
    ≤ share * cost g other rival + 64 * (other * spent_times g (times g share table) table)
unfolding cost spent_times
cost-tangent g sound w v some-share x z =
    let spent : List ℕ → ℕ → ℕ = λ table l. get_or (times g w x) l 0 * total g table l in
    let area : ℕ → List ℕ → ℕ → ℕ = λ share table l. link_cost (g.height l) (g.capacity l) share (total g table l) in
    let linkwise =
    sums-le g.links v (64 * w) w (64 * v) (area w x) (spent z) (area v z) (spent x) (λ l p.
    rw (times-at g w x l p)
    (omega (
      arith,
      tangent (g.height l) (λ r. sound.rising l r p) (g.capacity l) w v (total g x l) (total g z l) (sound.some-capacity l p)
          some-share,
    )))
    in
    omega (arith, linkwise)
