-- What `link_cost` adds up is the staircase (`treads-cost`).
use Rattle.std.proofs.Common.{◌≡◌, ◌+◌, ◌-◌, ◌*◌, get_or, refl, ap, rules}
use Rattle.theory.specs.Cost.{link_cost}
use Rattle.travel.specs.Links.{row_time}
use Rattle.travel.specs.Laws.Costs.{treads-within, treads-cost, cost-of-most}
use Rattle.travel.proofs.costs.link_cost.Goals as goal
use Rattle.travel.proofs.costs.link_cost.Goals.{After-time_at-here}

pub overflow_sub-area : goal.overflow_sub-area
overflow_sub-area c = rw (c.from.ensures, c.from-2.ensures) (treads-within _ _ _ _ c.step_of-step.ensures.0)

pub returns-clause-area_value : goal.returns-clause-area_value
returns-clause-area_value c =
    let x = c.args in
    let fit = x.curve.fits.fit in
    let capacity = get_or x.curve.link 4 0 in
    let cost = link_cost (row_time x.curve.link) capacity x.share x.flow in
    let same : c.heights_below.result * (capacity * x.share) + c.time_at-here.result.time * (64 * x.flow - c.step_of-step.result * (capacity * x.share)) ≡ cost =
    treads-cost capacity x.share x.flow _ c.step_of-step.ensures.0 (row_time x.curve.link) _ _ fit.some-capacity (search rules) c.heights_below.ensures.0 (ap (λ r. r.time) c.time_at-here.ensures.0) in
    rw (c.from.ensures, c.from-2.ensures, same) (refl, cost-of-most x.curve.link x.share x.flow fit (search rules))
