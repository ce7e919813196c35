-- A node with a next link adds its volume there (`scatter-adds`), and any other adds nothing.
use Rattle.std.proofs.Common.{◌≡◌, ◌*◌, ◌<◌, length, get_or, take, refl, ap, sym, ◌∙◌, arith, get_or-take}
use Rattle.std.proofs.lemmas.List.{length_push}
use Rattle.std.proofs.lemmas.Slice.Zip.{zip_turn}
use Rattle.theory.specs.Study.{no_link}
use Rattle.loading.specs.Laws.Scattered.{scatter-none, scatter-skips, scatter-adds, link-within, sum_fits}
use Rattle.loading.proofs.adding.add_volumes.Goals as goal
use Rattle.loading.proofs.adding.add_volumes.Goals.{In-Some}

-- The next link and the volume of a turn.
pair : (c : In-Some) →
    let j = length c.loop-l.yielded in
    (j < c.args.nodes) × (c.in-Some.l.now ≡ get_or c.args.next.now j 0) × (c.in-Some.volume.now ≡ get_or c.args.volumes.now j 0)
pair c =
    let x = c.args in
    let t = zip_turn (take x.nodes x.next.now) (take x.nodes x.volumes.now) c.loop-l.yielded c.into_iter-l-iterator.result c.loop-l.l-iterator c.next.new.self _ (cc) (cc) c.loop-l.yielded_by _ c.in-Some.is c.next.ensures.steps in
    let below : length c.loop-l.yielded < x.nodes = omega arith in
    (below, t.2 0 ∙ get_or-take _ _ _ _ below, t.3 0 ∙ get_or-take _ _ _ _ below)

away : (c : In-Some) → (c.in-Some.l.now ≡ no_link → ⊥) → get_or c.args.next.now (length c.loop-l.yielded) 0 ≡ no_link → ⊥
away c some e = some ((pair c).1 ∙ e)

pub loop-l-init : goal.loop-l-init
loop-l-init c = scatter-none c.requires

pub overflow_mul-row : goal.overflow_mul-row
overflow_mul-row c =
    let w = (goal.at.overflow_mul-row c).In-Some in
    let p = pair w in
    rw (c.from.ensures, p.2) (omega (arith, sum_fits c.requires p.0 c.loop-l.invariant refl (away w c.if-l.true)))

pub bounds-row-from : goal.bounds-row-from
bounds-row-from c =
    let w = (goal.at.bounds-row-from c).In-Some in
    link-within c.requires (pair w).0 c.loop-l.invariant (c.from-then-l.ensures ∙ (pair w).1) (away w c.if-l.true)

pub overflow_add-row : goal.overflow_add-row
overflow_add-row c =
    let w = (goal.at.overflow_add-row c).In-Some in
    let p = pair w in
    rw (c.from.ensures, p.2) (omega (arith, sum_fits c.requires p.0 c.loop-l.invariant (c.from-then-l.ensures ∙ p.1) (away w c.if-l.true)))

pub bounds-row-from-then-l : goal.bounds-row-from-then-l
bounds-row-from-then-l c =
    let w = (goal.at.bounds-row-from-then-l c).In-Some in
    link-within c.requires (pair w).0 c.loop-l.invariant (c.from-then-l.ensures ∙ (pair w).1) (away w c.if-l.true)

pub loop-l-preserved-then-l : goal.loop-l-preserved-then-l
loop-l-preserved-then-l c =
    let w = (goal.at.loop-l-preserved-then-l c).In-Some in
    let p = pair w in
    rw length_push
    (scatter-adds c.requires p.0 c.loop-l.invariant (c.from-then-l.ensures ∙ p.1) (away w c.if-l.true) (ap (λ x. c.args.weight * x) (c.from.ensures ∙ p.2)))

pub loop-l-preserved : goal.loop-l-preserved
loop-l-preserved c =
    let p = pair (goal.at.loop-l-preserved c).In-Some in
    rw length_push (scatter-skips c.requires p.0 c.loop-l.invariant (sym p.1 ∙ c.if-l.false))
