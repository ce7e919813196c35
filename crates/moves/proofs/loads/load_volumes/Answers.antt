-- `load_volumes` meets its contract. The invariant: the rows of volumes of the commodities before `k` give their loading. The measure is what is
-- left of the destinations.
use Prim.Native.Nat.{◌+◌, ◌*◌, ◌≤◌, ◌<◌}
use mathlib.Core.Path.{◌≡◌}
use native.Mathlib.Omega.{arith}
use borrow.Author.Rules.{rules}
use lib.ListN.{length}
use Rattle.loading.specs.Laws.Scattered.{over-is-flow}
use Rattle.moves.specs.Laws.Loading.{trips-within, row-sendable, row-over, loaded-none, loaded-more, loaded-all}
use Rattle.theory.specs.Laws.Parts.{row-most}
use Rattle.moves.proofs.loads.load_volumes.Goals as goal
use Rattle.moves.proofs.loads.load_volumes.Goals.{In-loop-k}

pub loop-k-init : goal.loop-k-init
loop-k-init c = (search rules, loaded-none)

-- The part of the trips of a turn is within the whole, and small; and there are few commodities.
within :
    (c : In-loop-k) →
    let x = c.args in
    let k = c.loop-k.k in
    (k * x.nodes + x.nodes ≤ length x.trips.now) × (k * x.nodes + x.nodes ≤ 8192)
within c =
    let given = c.requires.0 in
    let inside = c.loop-k-test.true in
    (trips-within given inside, row-most 64 128 inside given.few-commodities given.few-nodes)

few : (c : In-loop-k) → c.loop-k.k < 64
few c = omega (arith, c.requires.0.few-commodities, c.loop-k-test.true)

-- There is a row of next links and one of volumes for each.
has-next : (c : In-loop-k) → c.loop-k.k < length c.args.next.now
has-next c = omega (arith, c.requires.0.has-rows, c.loop-k-test.true)

has-volumes : (c : In-loop-k) → c.loop-k.k < length c.args.volumes.now
has-volumes c = omega (arith, c.requires.1, c.loop-k-test.true)

pub overflow_mul-first : goal.overflow_mul-first
overflow_mul-first c = omega (arith, within (goal.at.overflow_mul-first c).In-loop-k)

pub overflow_add-past : goal.overflow_add-past
overflow_add-past c = omega (arith, within (goal.at.overflow_add-past c).In-loop-k)

pub offset_bounds-trips-first : goal.offset_bounds-trips-first
offset_bounds-trips-first c = omega (arith, within (goal.at.offset_bounds-trips-first c).In-loop-k)

pub slice_bounds-volumes-start : goal.slice_bounds-volumes-start
slice_bounds-volumes-start c = omega (arith, within (goal.at.slice_bounds-volumes-start c).In-loop-k)

pub slice_bounds-volumes-end : goal.slice_bounds-volumes-end
slice_bounds-volumes-end c = omega (arith, within (goal.at.slice_bounds-volumes-end c).In-loop-k)

pub offset_bounds-next-k : goal.offset_bounds-next-k
offset_bounds-next-k c = omega (arith, few (goal.at.offset_bounds-next-k c).In-loop-k)

pub bounds-next-k : goal.bounds-next-k
bounds-next-k c = has-next (goal.at.bounds-next-k c).In-loop-k

pub offset_bounds-volumes-k : goal.offset_bounds-volumes-k
offset_bounds-volumes-k c = omega (arith, few (goal.at.offset_bounds-volumes-k c).In-loop-k)

pub bounds-volumes-k : goal.bounds-volumes-k
bounds-volumes-k c = omega (arith, has-volumes (goal.at.bounds-volumes-k c).In-loop-k, c.loop-k.invariant.1.size)

pub volumes-requires : goal.volumes-requires
volumes-requires c = row-sendable c.requires.0 c.loop-k-test.true

pub loop-k-preserved : goal.loop-k-preserved
loop-k-preserved c =
    let given = c.requires.0 in
    let inside = c.loop-k-test.true in (
      search rules,
      loaded-more c.loop-k.invariant.1 (has-volumes (goal.at.loop-k-preserved c).In-loop-k) _
          (row-over given inside _ (λ l b. over-is-flow (given.followable c.loop-k.k inside) _ c.volumes.ensures l)),
    )

pub shape_of-volumes : goal.shape_of-volumes
shape_of-volumes c = c.loop-k.invariant.1.size

pub returns : goal.returns
returns c =
    let all : c.loop-k.k ≡ length c.args.commodities.now = omega arith in
    loaded-all (rw all at c.loop-k.invariant.1)
