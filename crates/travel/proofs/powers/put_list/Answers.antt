-- A turn puts two numbers more: that of the odd step is computed, and that of the even one is its (`put_even`). No number is more than 256⁴
-- (`scaled-most`).
use Rattle.std.proofs.Common.{◌≡◌, ℕ, ◌+◌, ◌-◌, ◌*◌, ◌^◌, ◌≤◌, set, le_trans, arith, rules, length-set}
use native.Mathlib.Nat.{pow-le-pow_left, pow-le-pow_right}
use Rattle.travel.specs.Links.{scaled_power}
use Rattle.travel.specs.Ranges.{ListTo}
use Rattle.travel.specs.Laws.Powers.{scaled-most, put_first, put_more, put_even}
use Rattle.travel.proofs.powers.put_list.Goals as goal
use Rattle.travel.proofs.powers.put_list.Goals.{After-pow}

odd_is : (c : After-pow) → c.pow.result * c.pow-parts.result ≡ scaled_power c.args.i (2 * c.loop-k.k - 1)
odd_is c = rw (c.pow.ensures, c.pow-parts.ensures)

odd_put : (c : After-pow) →
    ListTo (2 * c.loop-k.k) c.args.i (set c.loop-k.list (2 * c.loop-k.k - 1) (c.pow.result * c.pow-parts.result))
odd_put c =
    let next : 2 * c.loop-k.k - 1 + 1 ≡ 2 * c.loop-k.k = omega arith in
    rw next at (put_more (2 * c.loop-k.k - 1) _ _ _ c.loop-k.invariant.1 (odd_is c) (omega arith))

pub pow-parts-requires : goal.pow-parts-requires
pow-parts-requires c = omega (arith, pow-le-pow_right {n = 64} (omega arith) {i = c.args.i} {j = 4} (omega arith))

pub loop-k-init : goal.loop-k-init
loop-k-init c = (search rules, put_first c.args.i c.args.list.now (search rules) (omega arith))

pub pow-requires : goal.pow-requires
pow-requires c =
    let odd = 2 * c.loop-k.k - 1 in
    let most : odd ^ (4 - c.args.i) ≤ 256 ^ 4 = le_trans (pow-le-pow_left {m = 256} (omega arith) (4 - c.args.i)) (pow-le-pow_right {n = 256} (omega arith) {j = 4} (omega arith)) in
    omega arith

pub overflow_mul-list : goal.overflow_mul-list
overflow_mul-list c =
    rw (odd_is (goal.at.overflow_mul-list c).After-pow) (omega (arith, scaled-most c.args.i (2 * c.loop-k.k - 1) (omega arith) (omega arith)))

pub overflow_mul-list-in-loop-k : goal.overflow_mul-list-in-loop-k
overflow_mul-list-in-loop-k c =
    let w = (goal.at.overflow_mul-list-in-loop-k c).After-pow in
    rw (c.pow-doubled.ensures, put_even _ _ _ (omega arith) (odd_put w)) (omega (arith, scaled-most c.args.i (2 * c.loop-k.k) (omega arith) (omega arith)))

pub loop-k-preserved : goal.loop-k-preserved
loop-k-preserved c =
    let w = (goal.at.loop-k-preserved c).After-pow in
    let next : 2 * c.loop-k.k + 1 ≡ 2 * (c.loop-k.k + 1) - 1 = omega arith in (
      search rules,
      rw c.pow-doubled.ensures (rw next at (put_more _ _ _ _ (odd_put w) (put_even _ _ _ (omega arith) (odd_put w)) (omega (arith, length-set {A = ℕ})))),
    )
