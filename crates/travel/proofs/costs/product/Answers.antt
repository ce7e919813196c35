-- A turn adds the product of one link more, which is at most `most_time * most_flow`.
use Rattle.std.proofs.Common.{◌≡◌, ℕ, ◌*◌, ◌<◌, ◌≤◌, length, get_or, take, sym, ◌∙◌, mul-le-mul, arith, get_or-take}
use Rattle.std.proofs.lemmas.List.{length_push}
use Rattle.std.proofs.lemmas.Slice.Zip.{zip_turn}
use Rattle.travel.specs.Ranges.{most_time, most_flow}
use Rattle.travel.specs.Laws.Costs.{product-none, product-more, product-most}
use Rattle.travel.proofs.costs.product.Goals as goal
use Rattle.travel.proofs.costs.product.Goals.{In-Some}

pair : (c : In-Some) →
    let x = c.args in
    let l = length c.loop-time.yielded in
    (l < x.m) × (c.in-Some.time.now ≡ get_or x.times.now l 0) × (c.in-Some.flow.now ≡ get_or x.flows.now l 0)
pair c =
    let x = c.args in
    let t = zip_turn (take x.m x.times.now) (take x.m x.flows.now) c.loop-time.yielded c.into_iter-time-iterator.result c.loop-time.time-iterator c.next.new.self _ (cc) (cc) c.loop-time.yielded_by _ c.in-Some.is c.next.ensures.steps in
    let below : length c.loop-time.yielded < x.m = omega arith in
    (below, t.2 0 ∙ get_or-take _ _ _ _ below, t.3 0 ∙ get_or-take _ _ _ _ below)

most : (c : In-Some) → {time : ℕ} → time ≡ c.in-Some.time.now → time * c.in-Some.flow.now ≤ most_time * most_flow
most c is =
    let t = pair c in
    rw (is, t.1, t.2) (mul-le-mul (c.requires.1 _ t.0) (c.requires.2 _ t.0))

pub loop-time-init : goal.loop-time-init
loop-time-init c = sym (product-none c.args.times.now c.args.flows.now)

pub overflow_mul-spent : goal.overflow_mul-spent
overflow_mul-spent c = omega (arith, most (goal.at.overflow_mul-spent c).In-Some c.from.ensures)

pub overflow_add-spent : goal.overflow_add-spent
overflow_add-spent c =
    let x = c.args in
    let w = (goal.at.overflow_add-spent c).In-Some in
    omega (
      arith,
      most w c.from.ensures,
      pair w,
      product-most x.times.now x.flows.now (length c.loop-time.yielded) most_time most_flow (λ i p. c.requires.1 i (omega (arith, pair w))) (λ i p. c.requires.2 i (omega (arith, pair w))),
    )

pub loop-time-preserved : goal.loop-time-preserved
loop-time-preserved c =
    let w = (goal.at.loop-time-preserved c).In-Some in
    rw (length_push, c.from.ensures, (pair w).1, (pair w).2, c.loop-time.invariant) (sym (product-more c.args.times.now c.args.flows.now (length c.loop-time.yielded)))
