-- A turn adds the products of one link more on both sides, and no sum is more than it can be.
use Rattle.std.proofs.Common.{◌≡◌, ℕ, ◌+◌, ◌*◌, ◌<◌, ◌≤◌, List, length, get_or, sym, ap, ap₂, ◌∙◌, mul-le-mul, arith, rules}
use Rattle.theory.specs.Study.{capacity}
use Rattle.travel.specs.Links.{row_time, total_of, load_of, share_parts, reciprocal}
use Rattle.travel.specs.Ranges.{MoveFits, Curves, most_flow, most_time}
use Rattle.travel.specs.Laws.Choice.{moved_at, moved-flow, moved_none, moved_more, moved_all, moved-most}
use Rattle.travel.specs.Laws.Reciprocals.{Divisible, share-product, capacity-product, step_by_lem}
use Rattle.travel.proofs.choice.sums_at.Goals as goal
use Rattle.travel.proofs.choice.sums_at.Goals.{After-time_at-here}
use Rattle.travel.proofs.choice.sums_at.Invariants.{moved}

module _ {links flows : List (List ℕ)} {share : ℕ} (fit : MoveFits links flows share) (j : ℕ) where
  -- No sum is more than it can be.
  loaded-most : (l : ℕ) → l ≤ length links → moved links flows share j (load_of flows) l ≤ l * (65535 * most_time)
  loaded-most l p = moved-most links share (total_of flows) (load_of flows) j (load_of flows) fit.links-fit 65535 fit.loads-fit l p

  spent-most : (l : ℕ) → l ≤ length links → moved links flows share j (total_of flows) l ≤ l * (most_flow * most_time)
  spent-most l p =
      moved-most links share (total_of flows) (load_of flows) j (total_of flows) fit.links-fit most_flow (λ i q. omega (arith, fit.totals-fit i q, fit.shared.share-fits)) l p

  -- The step of a link after the move, by reciprocals.
  divisible : {curves : List ℕ} {by_share : ℕ} → share + j ≤ 1024 → Curves links curves → by_share ≡ reciprocal share_parts (share + j) → (l : ℕ) → l < length links →
      Divisible (capacity links l) (share + j) (total_of flows l + j * load_of flows l) (get_or curves l 0) by_share
  divisible most curves is l p =
      record {
        capacity-is = curves.reciprocals.reciprocal-at l p;
        share-is = is;
        some-capacity = (fit.links-fit.link l p).some-capacity;
        capacity-most = curves.reciprocals.capacity-fits l p;
        some_share = omega (arith, fit.shared.some_share);
        share-most = most;
        flow-most = moved-flow share _ _ j (fit.totals-fit l p) (fit.loads-fit l p);
      }

  -- After a turn a sum is that of one link more.
  turn : (amount : ℕ → ℕ) (l : ℕ) {sum time : ℕ} → sum ≡ moved links flows share j amount l → time ≡ moved_at links share (total_of flows) (load_of flows) j amount l →
      sum + amount l * time ≡ moved links flows share j amount (l + 1)
  turn amount l e is =
      omega (arith, e, ap (λ t. amount l * t) is, moved_more links share (total_of flows) (load_of flows) j amount l)

-- The time that a turn works out,
time-is : (c : After-time_at-here) (amount : ℕ → ℕ) →
    let x = c.args in
    c.time_at-here.result.time ≡ moved_at x.links.now x.share (total_of x.flows.now) (load_of x.flows.now) x.j amount c.loop-l.l
time-is c amount =
    let d = divisible c.requires.0 c.args.j c.requires.1 c.requires.2 (c.reciprocal-by_share.ensures ∙ ap (reciprocal share_parts) c.from.ensures) c.loop-l.l (omega arith) in
    ap (λ r. r.time) c.time_at-here.ensures.0 ∙ ap₂ row_time c.new.ensures (c.step_by-step.ensures.0 ∙ step_by_lem _ _ _ d)

-- and both sums after it, and that neither is more than it can be.
loaded-turn : (c : After-time_at-here) →
    let x = c.args in
    c.loop-l.loaded + load_of x.flows.now c.loop-l.l * c.time_at-here.result.time ≡ moved x.links.now x.flows.now x.share x.j (load_of x.flows.now) (c.loop-l.l + 1)
loaded-turn c =
    let amount = load_of c.args.flows.now in
    turn c.requires.0 c.args.j amount c.loop-l.l c.loop-l.invariant.0 (time-is c amount)

spent-turn : (c : After-time_at-here) →
    let x = c.args in
    c.loop-l.spent + total_of x.flows.now c.loop-l.l * c.time_at-here.result.time ≡ moved x.links.now x.flows.now x.share x.j (total_of x.flows.now) (c.loop-l.l + 1)
spent-turn c =
    let amount = total_of c.args.flows.now in
    turn c.requires.0 c.args.j amount c.loop-l.l c.loop-l.invariant.1 (time-is c amount)

loaded-within : (c : After-time_at-here) →
    c.loop-l.loaded + load_of c.args.flows.now c.loop-l.l * c.time_at-here.result.time ≤ 512 * (65535 * most_time)
loaded-within c =
    omega (arith, loaded-turn c, loaded-most c.requires.0 c.args.j (c.loop-l.l + 1) (omega arith), c.requires.0.links-fit.few)

spent-within : (c : After-time_at-here) →
    c.loop-l.spent + total_of c.args.flows.now c.loop-l.l * c.time_at-here.result.time ≤ 512 * (most_flow * most_time)
spent-within c =
    omega (arith, spent-turn c, spent-most c.requires.0 c.args.j (c.loop-l.l + 1) (omega arith), c.requires.0.links-fit.few)

pub loop-l-init : goal.loop-l-init
loop-l-init c =
    let x = c.args in
    let none : (amount : ℕ → ℕ) → 0 ≡ moved x.links.now x.flows.now x.share x.j amount 0 = λ amount. sym (moved_none x.links.now x.share (total_of x.flows.now) (load_of x.flows.now) x.j amount) in
    (none (load_of x.flows.now), none (total_of x.flows.now))

pub step_by-step-requires : goal.step_by-step-requires
step_by-step-requires c =
    let d = divisible c.requires.0 c.args.j c.requires.1 c.requires.2 (c.reciprocal-by_share.ensures ∙ ap (reciprocal share_parts) c.from.ensures) c.loop-l.l (omega arith) in
    record { flow_le_most_flow = (omega (arith, d.flow-most, d.share-most), share-product _ _ _ d); by_capacity_bound = capacity-product _ _ _ d }

pub overflow_add-loaded : goal.overflow_add-loaded
overflow_add-loaded c = omega (arith, loaded-within (goal.at.overflow_add-loaded c).After-time_at-here)

pub overflow_add-spent : goal.overflow_add-spent
overflow_add-spent c = omega (arith, spent-within (goal.at.overflow_add-spent c).After-time_at-here)

pub loop-l-preserved : goal.loop-l-preserved
loop-l-preserved c = (loaded-turn (goal.at.loop-l-preserved c).After-time_at-here, spent-turn (goal.at.loop-l-preserved c).After-time_at-here)

pub overflow_mul-result : goal.overflow_mul-result
overflow_mul-result c =
    let low : c.loop-l.loaded ≤ 512 * (65535 * most_time) = omega (arith, c.loop-l.invariant.0, loaded-most c.requires.0 c.args.j c.loop-l.l (omega arith), c.requires.0.links-fit.few) in
    rw c.from-2.ensures (omega (arith, mul-le-mul {n₁ = c.args.share} {n₂ = 1024} (search rules) low))

pub returns : goal.returns
returns c =
    let x = c.args in
    let end : c.loop-l.l ≡ length x.links.now = omega arith in
    let all = moved_all x.links.now x.share (total_of x.flows.now) (load_of x.flows.now) x.j in
    rw c.from-2.ensures (record {
      loaded_value = ap (λ sum. x.share * sum) (rw end at c.loop-l.invariant.0 ∙ all (load_of x.flows.now));
      spent_value = rw end at c.loop-l.invariant.1 ∙ all (total_of x.flows.now);
    })
