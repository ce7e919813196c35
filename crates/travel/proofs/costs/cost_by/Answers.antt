-- After a turn the cost is that of one link more, and so is the count, which is at most 512.
use Rattle.std.proofs.Common.{◌≡◌, ℕ, ◌+◌, ◌<◌, Bool, true, false, cond, List, [], length, get_or, take, get_or-take, sym, refl, ◌∙◌, arith, rules}
use Rattle.std.proofs.lemmas.List.{length_push}
use Rattle.std.proofs.lemmas.Slice.Zip.{zip_turn, zip_end}
use mir.Val.{bool_byte}
use Rattle.theory.specs.Flows.{step, is_over}
use Rattle.theory.specs.Cost.{link_cost}
use Rattle.theory.specs.Laws.Finite.{count_most}
use Rattle.travel.specs.Links.{row_time}
use Rattle.travel.specs.Laws.Costs.{cost_to, over_at, over_to, cost-none, cost-more, cost-all, cost-most, over_none, over-more, over-all}
use Rattle.travel.proofs.costs.cost_by.Goals as goal
use Rattle.travel.proofs.costs.cost_by.Goals.{In-Some, In-None}

-- A yes is cast to 1 and a no to 0.
byte-is : (b : Bool) → bool_byte b ≡ cond b 1 0
byte-is true = refl
byte-is false = refl

module _ (links : List (List ℕ)) (share : ℕ) (flows : List ℕ) (l : ℕ) {link : List ℕ} {flow : ℕ} (link≡ : link ≡ get_or links l []) (flow≡ : flow ≡ get_or flows l 0) where
  costs : {cost area : ℕ} → cost ≡ cost_to links share flows l → area ≡ link_cost (row_time link) (get_or link 4 0) share flow →
      cost + area ≡ cost_to links share flows (l + 1)
  costs so_far is = rw (so_far, is, link≡, flow≡) (sym (cost-more links share flows l))

  overs : {over more : ℕ} {is_more : Bool} → over ≡ over_to links share flows l → more ≡ bool_byte is_more →
      is_more ≡ is_over (step (get_or link 4 0) share flow) → over + more ≡ over_to links share flows (l + 1)
  overs {is_more = is_more} so_far cast is =
      rw (so_far, cast, byte-is is_more, is, link≡, flow≡) (sym (over-more links share flows l))

-- The link and the flow of a turn.
pair : (g : _) (c : In-Some g) →
    let l = length c.loop-link.yielded in
    (l < length c.args.links.now) × (c.in-Some.link.now ≡ get_or c.args.links.now l []) × (c.in-Some.flow.now ≡ get_or c.args.flows.now l 0)
pair g c =
    let x = c.args in
    let t = zip_turn x.links.now (take (length x.links.now) x.flows.now) c.loop-link.yielded c.into_iter-link-iterator.result c.loop-link.link-iterator c.next.new.self _ (cc) (cc) c.loop-link.yielded_by _ c.in-Some.is c.next.ensures.steps in
    (t.0, t.2 [], t.3 0 ∙ get_or-take _ _ _ _ t.0)

pub loop-link-init : goal.loop-link-init
loop-link-init g c =
    let x = c.args in
    (sym (cost-none x.links.now x.share x.flows.now), sym (over_none x.links.now x.share x.flows.now))

pub overflow_add-cost : goal.overflow_add-cost
overflow_add-cost g c =
    let x = c.args in
    let l = length c.loop-link.yielded in
    let p = pair g (goal.at.overflow_add-cost g c).In-Some in
    omega (
      arith,
      costs x.links.now x.share x.flows.now l (c.new.ensures ∙ p.1) p.2 c.loop-link.invariant.0 c.link_cost-here.ensures.area_value.0,
      cost-most x.links.now x.share x.flows.now c.requires.links_fit.0 (search rules) c.requires.links_fit.2 (l + 1) (omega (arith, p.0)),
      p.0,
      c.requires.links_fit.0.few,
    )

pub overflow_add-over : goal.overflow_add-over
overflow_add-over g c =
    let x = c.args in
    let l = length c.loop-link.yielded in
    let p = pair g (goal.at.overflow_add-over g c).In-Some in
    omega (
      arith,
      overs x.links.now x.share x.flows.now l (c.new.ensures ∙ p.1) p.2 c.loop-link.invariant.1 c.from-over.ensures c.link_cost-here.ensures.over_value,
      count_most (l + 1) (over_at x.links.now x.share x.flows.now),
      p.0,
      c.requires.links_fit.0.few,
    )

pub loop-link-preserved : goal.loop-link-preserved
loop-link-preserved g c =
    let x = c.args in
    let l = length c.loop-link.yielded in
    let p = pair g (goal.at.loop-link-preserved g c).In-Some in
    rw length_push (
      costs x.links.now x.share x.flows.now l (c.new.ensures ∙ p.1) p.2 c.loop-link.invariant.0 c.link_cost-here.ensures.area_value.0,
      overs x.links.now x.share x.flows.now l (c.new.ensures ∙ p.1) p.2 c.loop-link.invariant.1 c.from-over.ensures c.link_cost-here.ensures.over_value,
    )

-- After the last turn there was one for each link.
end : (g : _) (c : In-None g) → length c.loop-link.yielded ≡ length c.args.links.now
end g c =
    let x = c.args in
    let e = zip_end x.links.now (take (length x.links.now) x.flows.now) c.loop-link.yielded c.into_iter-link-iterator.result c.loop-link.link-iterator c.next.new.self _ (cc) (cc) c.loop-link.yielded_by c.in-None.is c.next.ensures.steps in
    omega (arith, e, c.requires.links_fit.0.few)

pub returns : goal.returns
returns g c =
    let x = c.args in
    let all = end g (goal.at.returns g c).In-None in
    record {
      cost_value = rw all at c.loop-link.invariant.0 ∙ cost-all x.links.now x.share x.flows.now;
      over_value = rw all at c.loop-link.invariant.1 ∙ over-all x.links.now x.share x.flows.now;
    }
