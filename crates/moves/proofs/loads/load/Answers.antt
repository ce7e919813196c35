-- `load` meets its contract. The invariant: the sums are the totals of the commodities before `k`, whose rows of volumes give their loading.
-- The measure is what is left of the destinations.
use Prim.Native.Nat.{◌+◌, ◌*◌, ◌≤◌, ◌<◌}
use mathlib.Core.Path.{◌≡◌, sym, ◌∙◌, ap}
use native.Mathlib.Omega.{arith}
use borrow.Author.Rules.{rules}
use lib.ListN.{length, set}
use Rattle.travel.specs.Laws.Padded.{length-padded, padded-zeros}
use Rattle.travel.specs.Laws.Totals.{link_total-none}
use Rattle.loading.specs.Laws.Scattered.{over-is-flow}
use Rattle.moves.specs.Laws.Loading.{trips-within, row-sendable, row-over, totals-scatterable, totals-more, totals-widened, LoadedRows, loaded-none, loaded-more, loaded-all}
use Rattle.theory.specs.Laws.Parts.{row-most}
use Rattle.moves.proofs.loads.load.Goals as goal
use Rattle.moves.proofs.loads.load.Goals.{After-volumes, In-loop-k}

pub loop-k-init : goal.loop-k-init
loop-k-init c = (
  search rules,
  padded-zeros (length c.args.links.now) _ c.requires.all_followable.0.few-links (λ l h. link_total-none _ _ l),
  loaded-none,
)

-- The part of the trips of a turn is within the whole, and small; and there are few commodities.
within :
    (c : In-loop-k) →
    let x = c.args in
    let k = c.loop-k.k in
    (k * x.nodes + x.nodes ≤ length x.trips.now) × (k * x.nodes + x.nodes ≤ 8192)
within c =
    let given = c.requires.all_followable.0 in
    let inside = c.loop-k-test.true in
    (trips-within given inside, row-most 64 128 inside given.few-commodities given.few-nodes)

few : (c : In-loop-k) → c.loop-k.k < 64
few c = omega (arith, c.requires.all_followable.0.few-commodities, c.loop-k-test.true)

-- There is a row of next links and one of volumes for each.
has-next : (c : In-loop-k) → c.loop-k.k < length c.args.next.now
has-next c = omega (arith, c.requires.all_followable.0.has-rows, c.loop-k-test.true)

has-volumes : (c : In-loop-k) → c.loop-k.k < length c.args.volumes.now
has-volumes c = omega (arith, c.requires.all_followable.1, c.loop-k-test.true)

pub overflow_mul-first : goal.overflow_mul-first
overflow_mul-first c = omega (arith, within (goal.at.overflow_mul-first c).In-loop-k)

pub overflow_add-past : goal.overflow_add-past
overflow_add-past c = omega (arith, within (goal.at.overflow_add-past c).In-loop-k)

pub offset_bounds-trips-first : goal.offset_bounds-trips-first
offset_bounds-trips-first c = omega (arith, within (goal.at.offset_bounds-trips-first c).In-loop-k)

pub slice_bounds-volumes-start : goal.slice_bounds-volumes-start
slice_bounds-volumes-start c = omega (arith, within (goal.at.slice_bounds-volumes-start c).In-loop-k)

pub slice_bounds-volumes-end : goal.slice_bounds-volumes-end
slice_bounds-volumes-end c = omega (arith, within (goal.at.slice_bounds-volumes-end c).In-loop-k)

pub offset_bounds-next-k : goal.offset_bounds-next-k
offset_bounds-next-k c = omega (arith, few (goal.at.offset_bounds-next-k c).In-loop-k)

pub bounds-next-k : goal.bounds-next-k
bounds-next-k c = has-next (goal.at.bounds-next-k c).In-loop-k

pub offset_bounds-volumes-k : goal.offset_bounds-volumes-k
offset_bounds-volumes-k c = omega (arith, few (goal.at.offset_bounds-volumes-k c).In-loop-k)

pub bounds-volumes-k : goal.bounds-volumes-k
bounds-volumes-k c = omega (arith, has-volumes (goal.at.bounds-volumes-k c).In-loop-k, c.loop-k.invariant.2.size)

pub volumes-requires : goal.volumes-requires
volumes-requires c = row-sendable c.requires.all_followable.0 c.loop-k-test.true

loaded :
    (c : After-volumes) →
    let at = c.loop-k in
    let x = c.args in
    LoadedRows x.nodes x.links.now (at.k + 1) x.trips.now x.next.now x.volumes.now (set at.volumes at.k c.volumes.new.volumes)
loaded c =
    let given = c.requires.all_followable.0 in
    let inside = c.loop-k-test.true in
    loaded-more c.loop-k.invariant.2 (omega (arith, c.requires.all_followable.1, inside)) _
    (row-over given inside _ (λ l b. over-is-flow (given.followable c.loop-k.k inside) _ c.volumes.ensures l))

pub slice_bounds-add_volumes-end : goal.slice_bounds-add_volumes-end
slice_bounds-add_volumes-end c =
    sym
    (ap length c.loop-k.invariant.1
    ∙ length-padded (length c.args.links.now) _ c.requires.all_followable.0.few-links)

pub offset_bounds-next-k-in-loop-k : goal.offset_bounds-next-k-in-loop-k
offset_bounds-next-k-in-loop-k c = omega (arith, few (goal.at.offset_bounds-next-k-in-loop-k c).In-loop-k)

pub bounds-next-k-in-loop-k : goal.bounds-next-k-in-loop-k
bounds-next-k-in-loop-k c = has-next (goal.at.bounds-next-k-in-loop-k c).In-loop-k

pub offset_bounds-volumes-k-in-loop-k : goal.offset_bounds-volumes-k-in-loop-k
offset_bounds-volumes-k-in-loop-k c = omega (arith, few (goal.at.offset_bounds-volumes-k-in-loop-k c).In-loop-k)

pub bounds-volumes-k-in-loop-k : goal.bounds-volumes-k-in-loop-k
bounds-volumes-k-in-loop-k c = omega (arith, has-volumes (goal.at.bounds-volumes-k-in-loop-k c).In-loop-k, (loaded (goal.at.bounds-volumes-k-in-loop-k c).After-volumes).size)

pub add_volumes-requires : goal.add_volumes-requires
add_volumes-requires c =
    totals-scatterable c.requires.all_followable.0 c.loop-k-test.true _
    (λ l b. (loaded (goal.at.add_volumes-requires c).After-volumes).over c.loop-k.k l (omega arith) b) c.loop-k.invariant.1

pub loop-k-preserved : goal.loop-k-preserved
loop-k-preserved c = (
  search rules,
  totals-more c.requires.all_followable.0 c.loop-k-test.true _ (λ l b. (loaded (goal.at.loop-k-preserved c).After-volumes).over c.loop-k.k l (omega arith) b)
      c.loop-k.invariant.1 c.add_volumes.ensures,
  loaded (goal.at.loop-k-preserved c).After-volumes,
)

pub widened-requires : goal.widened-requires
widened-requires c = (c.requires.all_followable.0.few-links, c.requires.clear)

pub shape_of-volumes : goal.shape_of-volumes
shape_of-volumes c = c.loop-k.invariant.2.size

pub returns : goal.returns
returns c =
    let all : c.loop-k.k ≡ length c.args.commodities.now = omega arith in record {
      loads_after = c.widened.ensures
          ∙ totals-widened (length c.args.links.now) _ c.requires.all_followable.0.few-links (rw all at c.loop-k.invariant.1);
      volumes_after = loaded-all (rw all at c.loop-k.invariant.2);
      volumes_len_unchanged = c.loop-k.invariant.2.size;
    }
