-- Reciprocals: how the array of them is filled, and the step that they give.
use Rattle.std.specs.Prelude.{◌≡◌, ℕ, ◌+◌, ◌*◌, ◌/◌, ◌^◌, ◌<◌, ◌≤◌, min, List, length, slice_set}
use Rattle.std.proofs.Math.Nat.{mul-le-mul, mul-div-le, lt-mul-div-succ, div-eq_of_lt-le, div-le_of_le-mul, div-le_self, div-div-eq-div-mul, lt_of_mul-lt-mul_left}
use Rattle.std.proofs.Common.{mul-le-mul_left, mul-le-mul_right, div-mul-le_self, mul_comm, arith, ◌∙◌, ⊎_elim, length-set, get_or-set_same, get_or-set_other}
use Rattle.std.proofs.Math.Path.{ap}
use Rattle.theory.specs.Study.{capacity}
use Rattle.theory.specs.Flows.{step}
use Rattle.theory.specs.Laws.Finite.{below_suc}
use Rattle.travel.specs.Links.{share_parts, capacity_parts, reciprocal, step_by}
use Rattle.travel.specs.Ranges.{LinkPowers, Reciprocals}

-- Division by d, where a × d is below p.
module _ (p d : ℕ) (some : 1 ≤ d) where
  pub reciprocal-least : p < d * reciprocal p d
  unfolding reciprocal
  reciprocal-least = lt-mul-div-succ p some

  pub reciprocal-most : d * reciprocal p d ≤ p + d
  unfolding reciprocal
  reciprocal-most = omega (arith, mul-div-le p d)

  pub divided : (a : ℕ) → a * d < p → a * reciprocal p d / p ≡ a / d
  divided a h = div-eq_of_lt-le p least (lt_of_mul-lt-mul_left d most)
    where
      q : ℕ
      q = a / d

      y : ℕ
      y = reciprocal p d

      least : q * p ≤ a * y
      least =
          let below : p ≤ d * y = omega (arith, reciprocal-least) in
          omega (arith, mul-le-mul_left q below, mul-le-mul_right y (div-mul-le_self a d))

      most : d * (a * y) < d * ((q + 1) * p)
      most =
          let above : a + 1 ≤ d * (q + 1) = omega (arith, lt-mul-div-succ a some) in
          omega (arith, mul-le-mul_left a reciprocal-most, mul-le-mul_right p above)

  -- No reciprocal is more than p and 1.
  pub reciprocal-below : reciprocal p d ≤ p + 1
  unfolding reciprocal
  reciprocal-below = omega (arith, div-le_self p d)

-- Reciprocals of a capacity and of a share, and a flow that an accepted table of the share may have:
pub record Divisible (c w s by-capacity by-share : ℕ) : Type 0 where
  pub capacity-is : by-capacity ≡ reciprocal capacity_parts c
  pub share-is : by-share ≡ reciprocal share_parts w
  pub some-capacity : 1 ≤ c
  pub capacity-most : c ≤ 65535
  pub some_share : 1 ≤ w
  pub share-most : w ≤ 1024
  pub flow-most : s ≤ w * 65535

-- no product is too large, and the step is the same.
module _ (c w s : ℕ) {by-capacity by-share : ℕ} (g : Divisible c w s by-capacity by-share) where
  pub share-product : 64 * s * by-share < 2 ^ 64
  share-product =
      rw g.share-is
      (omega (arith, mul-le-mul_right (reciprocal share_parts w) g.flow-most, reciprocal-most share_parts w g.some_share))

  parts_are : 64 * s * by-share / share_parts ≡ 64 * s / w
  parts_are =
      rw g.share-is
      (divided share_parts w g.some_share (64 * s) (omega (arith, mul-le-mul_right w g.flow-most, mul-le-mul g.share-most g.share-most)))

  parts-most : 64 * s / w ≤ 4194240
  parts-most = div-le_of_le-mul w (omega (arith, g.flow-most))

  pub capacity-product : 64 * s * by-share / share_parts * by-capacity < 2 ^ 64
  capacity-product =
      rw (parts_are, g.capacity-is) (omega (arith, mul-le-mul parts-most (reciprocal-below capacity_parts c g.some-capacity)))

  pub step_by_lem : step_by by-capacity by-share s ≡ step c w s
  unfolding step_by step
  step_by_lem =
      ap (λ x. min 256 (x * by-capacity / capacity_parts)) parts_are
      ∙ ap (λ x. min 256 x)
      (rw g.capacity-is (divided capacity_parts c g.some-capacity (64 * s / w) (omega (arith, mul-le-mul parts-most g.capacity-most)))
      ∙ div-div-eq-div-mul (64 * s) w c
      ∙ ap (λ x. 64 * s / x) (mul_comm w c))

-- The list, link by link: a reciprocal is written before the powers, which stay.
module _ (links : List (List ℕ)) (curves : List ℕ) where
  pub reciprocals-none : Reciprocals 0 links curves
  reciprocals-none = record { reciprocal-at = λ i h. omega arith; capacity-fits = λ i h. omega arith }

  module _ (l x : ℕ) (few : l < 512) (all : LinkPowers links curves) where
    pub powers-kept : LinkPowers links (slice_set curves l x)
    powers-kept =
        let had = all.powers in
        let long : length (slice_set curves l x) ≡ length curves = length-set curves l x in
        record {
          powers =
              record {
                lists = had.lists;
                some-list = had.some-list;
                few-lists = had.few-lists;
                size = long ∙ had.size;
                power = λ i r p h. get_or-set_other curves l (512 + 257 * i + r) x 0 (λ e. omega arith) ∙ had.power i r p h;
              };
          has-list = λ i p. rw long (all.has-list i p);
        }

    pub reciprocals-more : x ≡ reciprocal capacity_parts (capacity links l) → capacity links l ≤ 65535 → Reciprocals l links curves →
        Reciprocals (l + 1) links (slice_set curves l x)
    reciprocals-more is fits so_far =
        record {
          reciprocal-at = λ i p.
              ⊎_elim (λ q. get_or-set_other curves l i x 0 (λ e. omega arith) ∙ so_far.reciprocal-at i q)
              (λ e. rw e (get_or-set_same curves l x 0 (omega (arith, all.powers.size)) ∙ is))
              (below_suc l i (omega arith));
          capacity-fits = λ i p. ⊎_elim (λ q. so_far.capacity-fits i q) (λ e. rw e fits) (below_suc l i (omega arith));
        }
