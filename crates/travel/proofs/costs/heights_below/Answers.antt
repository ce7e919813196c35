-- After a turn the sum is that of one tread more, and with the free time of each tread it is the sum of the heights (`heights-risen`).
use Rattle.std.proofs.Common.{◌≡◌, ℕ, ◌+◌, ◌-◌, ◌*◌, ◌/◌, ◌<◌, ◌≤◌, List, get_or, take, drop, sym, refl, ◌∙◌, ap₂, arith, rules, get_or-take, get_or-drop}
use Rattle.theory.specs.Finite.{sum}
use Rattle.theory.specs.Laws.Finite.{sum-suc}
use Rattle.travel.specs.Links.{row_power, row_time}
use Rattle.travel.specs.Ranges.{CurveFits, most_time}
use Rattle.travel.specs.Laws.Costs.{heights-most}
use Rattle.travel.specs.Laws.Powers.{risen_at, power_below, rise-most, rise-at, heights-risen}
use Rattle.travel.proofs.costs.heights_below.Goals as goal
use Rattle.travel.proofs.costs.heights_below.Invariants.{risen-of}

-- Tread r below a step.
module _ {link : List ℕ} {list : ℕ} {curves : List ℕ} (fits : CurveFits link list curves) (step r : ℕ) (below : r < step) (few : step ≤ 256) where
  here : get_or (take (list + step - list) (drop list curves)) r 0 ≡ get_or curves (list + r) 0
  here = get_or-take (list + step - list) (drop list curves) r 0 (omega arith) ∙ get_or-drop list curves r 0

  low : get_or (take (list + step - list) (drop list curves)) r 0 < 4294967296
  low = rw here (power_below _ _ _ fits r (omega arith))

  module _ {rise power : ℕ} (rise≡ : rise ≡ get_or link 3 0) (power≡ : power ≡ get_or (take (list + step - list) (drop list curves)) r 0) where
    most : rise * power ≤ 16383 * 4294967296
    most = rw (rise≡, power≡, here) (rise-most _ _ _ fits r (omega arith))

    turn : {risen : ℕ} → risen ≡ risen-of link r → risen + rise * power / 16777216 ≡ risen-of link (r + 1)
    turn so_far =
        rw (rise≡, power≡, here)
        (ap₂ ◌+◌ so_far (rise-at _ _ _ fits r (omega arith)) ∙ sym (sum-suc r (risen_at (get_or link 3 0) (row_power link))))

    turn-most : {risen : ℕ} → risen ≡ risen-of link r → risen + rise * power / 16777216 ≤ 256 * most_time
    turn-most so_far =
        omega (arith, turn so_far, heights-risen (get_or link 2 0) (get_or link 3 0) (row_power link) (r + 1), heights-most link (r + 1) fits.fit (omega arith))

-- What the code adds up at the end is the sum of the heights.
same : (link : List ℕ) (step : ℕ) {free risen index : ℕ} → free ≡ get_or link 2 0 → risen ≡ risen-of link index → index ≡ step →
    free * step + risen ≡ sum step (row_time link)
same link step free≡ risen≡ end = rw (free≡, risen≡, end) (heights-risen (get_or link 2 0) (get_or link 3 0) (row_power link) step)

pub loop-power-init : goal.loop-power-init
unfolding sum
loop-power-init c = refl

pub overflow_cast-low : goal.overflow_cast-low
overflow_cast-low c = omega (arith, low c.args.curve.fits c.args.step c.loop-power.power-index (search rules) (search rules))

pub overflow_mul-risen : goal.overflow_mul-risen
overflow_mul-risen c = omega (arith, most c.args.curve.fits c.args.step c.loop-power.power-index (search rules) (search rules) c.from-rise.ensures c.from.ensures)

pub overflow_add-risen : goal.overflow_add-risen
overflow_add-risen c =
    omega (arith, turn-most c.args.curve.fits c.args.step c.loop-power.power-index (search rules) (search rules) c.from-rise.ensures c.from.ensures c.loop-power.invariant)

pub loop-power-preserved : goal.loop-power-preserved
loop-power-preserved c =
    turn c.args.curve.fits c.args.step c.loop-power.power-index (search rules) (search rules) c.from-rise.ensures c.from.ensures c.loop-power.invariant

pub overflow_add-result : goal.overflow_add-result
overflow_add-result c =
    let x = c.args in
    omega (arith, same x.curve.link x.step c.from-2.ensures c.loop-power.invariant (search rules), heights-most x.curve.link x.step x.curve.fits.fit (search rules))

pub returns : goal.returns
returns c =
    let x = c.args in
    let all : c.from-2.result * x.step + c.loop-power.risen ≡ sum x.step (row_time x.curve.link) = same x.curve.link x.step c.from-2.ensures c.loop-power.invariant (search rules) in
    (all, rw all (heights-most x.curve.link x.step x.curve.fits.fit (search rules)))
