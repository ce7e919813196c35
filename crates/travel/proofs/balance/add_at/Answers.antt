-- A turn adds the flow of one link more. No flow is more than a number of 32 bits, and no sum more than 512 of them.
use Rattle.std.proofs.Common.{◌≡◌, ℕ, ◌*◌, ◌<◌, ◌≤◌, List, [], length, get_or, take, ap, ◌∙◌, arith, w32, Fits, rules, get_or-take}
use Rattle.std.proofs.lemmas.List.{length_push}
use Rattle.std.proofs.lemmas.Slice.Zip.{zip_turn}
use Rattle.theory.specs.Study.{tail, head}
use Rattle.travel.specs.Ranges.{SumsAt}
use Rattle.travel.specs.Laws.Sums.{sums-more, sums-most}
use Rattle.travel.proofs.balance.add_at.Goals as goal
use Rattle.travel.proofs.balance.add_at.Goals.{In-Some}

-- The ends of the link of a turn, and its flow.
pair : (c : In-Some) →
    let links = c.args.links.now in
    let l = length c.loop-link.yielded in
    (l < length links) × (get_or c.in-Some.link.now 0 0 ≡ tail links l) × (get_or c.in-Some.link.now 1 0 ≡ head links l) × (c.in-Some.flow.now ≡ get_or c.args.row.now l 0)
pair c =
    let x = c.args in
    let t = zip_turn x.links.now (take (length x.links.now) x.row.now) c.loop-link.yielded c.into_iter-link-iterator.result c.loop-link.link-iterator c.next.new.self _ (cc) (cc) c.loop-link.yielded_by _ c.in-Some.is c.next.ensures.steps in
    (t.0, ap (λ xs. get_or xs 0 0) (t.2 []), ap (λ xs. get_or xs 1 0) (t.2 []), t.3 0 ∙ get_or-take _ _ _ _ t.0)

-- Neither the flow nor what it is added to is large.
flow-most : (c : In-Some) (i : ℕ) → get_or c.args.row.now i 0 ≤ 4294967295
flow-most c i = let fits : Fits w32 (get_or c.args.row.now i 0) = search rules in omega arith

sum-most : (c : In-Some) (end node : ℕ) {sums : List ℕ} → SumsAt (length c.loop-link.yielded) c.args.links.now end c.args.row.now sums → node < 128 →
    get_or sums node 0 ≤ 512 * 4294967295
sum-most c end node so_far h =
    let x = c.args in
    let l = length c.loop-link.yielded in
    omega (arith, so_far.at node h, c.requires.ends_fit.0.few-links, (pair c).0, sums-most x.links.now end x.row.now l 4294967295 node (flow-most c))

pub overflow_add-out : goal.overflow_add-out
overflow_add-out c =
    let w = (goal.at.overflow_add-out c).In-Some in
    let p = pair w in
    let node : c.from.result < 128 = omega (arith, c.from.ensures, p.1, c.requires.ends_fit.0.tail-node _ p.0) in
    omega (arith, sum-most w 0 c.from.result c.loop-link.invariant.0 node, c.from-flow.ensures, p.3, flow-most w (length c.loop-link.yielded))

pub overflow_add-into : goal.overflow_add-into
overflow_add-into c =
    let w = (goal.at.overflow_add-into c).In-Some in
    let p = pair w in
    let node : c.from-in-loop-link.result < 128 = omega (arith, c.from-in-loop-link.ensures, p.2, c.requires.ends_fit.0.head-node _ p.0) in
    omega (arith, sum-most w 1 c.from-in-loop-link.result c.loop-link.invariant.1 node, c.from-flow.ensures, p.3, flow-most w (length c.loop-link.yielded))

pub loop-link-preserved : goal.loop-link-preserved
loop-link-preserved c =
    let x = c.args in
    let p = pair (goal.at.loop-link-preserved c).In-Some in
    let l = length c.loop-link.yielded in
    rw (length_push, c.from-flow.ensures, c.from.ensures, c.from-in-loop-link.ensures, p.1, p.2, p.3) (
      sums-more x.links.now 0 x.row.now l c.loop-link.out (c.requires.ends_fit.0.tail-node _ p.0) c.loop-link.invariant.0,
      sums-more x.links.now 1 x.row.now l c.loop-link.into (c.requires.ends_fit.0.head-node _ p.0) c.loop-link.invariant.1,
    )
