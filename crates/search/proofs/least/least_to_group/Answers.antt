-- `least::least_to_group` meets its contract.
use Rattle.std.proofs.Common.{◌≡◌, ◌∙◌, ◌+◌, ◌*◌, ◌<◌, length, take, drop, arith}
use Rattle.std.proofs.Math.Nat.{lt_of_mul-lt-mul_right}
use Rattle.std.specs.Iterator.Adapters.{enumerate_source}
use Rattle.std.specs.Slice.Iter.{chunks_exact_rest}
use Rattle.search.specs.Laws.Trips.{PartsLeft, parts-none, parts-more, parts-end}
use Rattle.search.specs.Laws.Least.{first-none, first-more}
use Rattle.search.proofs.least.least_to_group.Goals as goal
use Rattle.search.proofs.least.least_to_group.Goals.{In-Some}

pub loop-k-init : goal.loop-k-init
loop-k-init c =
    let left = c.enumerate-k-items.ensures in
    rw (c.into_iter-k-iterator.ensures.into_iter_gives, left.source, left.count, c.chunks_exact.ensures.rest)
    (c.chunks_exact.ensures.size, parts-none, first-none _ _ _)

-- The trips to destination k are cut off, of which there are eight at most.
cut-off : (c : In-Some) →
    let x = c.args in
    let k = c.in-Some.k in
    let trips = c.in-Some.trips.now in
    (k < 8) × (length trips ≡ x.nodes) × (trips ≡ take x.nodes (drop (k * x.nodes) x.trips.now))
    × PartsLeft x.nodes x.trips.now (k + 1) (chunks_exact_rest (enumerate_source c.next.new.self))
cut-off c =
    let x = c.args in
    let k = c.in-Some.k in
    let ((same, (parts, long), rest), number, next, few) = c.in-Some.ensures.steps in
    let (size, left, so_far) = c.loop-k.invariant in
    let (within, own, left') = parts-more (rw (← number) at left) parts (rw size at long) in
    (lt_of_mul-lt-mul_right x.nodes {m = k} {n = 8} (omega (arith, within, c.requires)), rw size at long, own, left')

pub least_to-least-requires : goal.least_to-least-requires
least_to-least-requires c =
    let (few, long, own, left) = cut-off (goal.at.least_to-least-requires c).In-Some in
    (omega (arith, long, c.requires), few, c.requires.3)

pub loop-k-preserved : goal.loop-k-preserved
loop-k-preserved c =
    let x = c.args in
    let (few, long, own, left) = cut-off (goal.at.loop-k-preserved c).In-Some in
    let ((same, cut, rest), number, next, bound) = c.in-Some.ensures.steps in
    let (size, before, so_far) = c.loop-k.invariant in
    rw (next, ← number)
    (same ∙ size, left, first-more x.nodes x.trips.now x.marks.now c.in-Some.k c.loop-k.least c.least_to-least.result c.requires.1 (rw (← number) at so_far) (rw (long, own) at c.least_to-least.ensures))

pub returns : goal.returns
returns c = λ m h.
    let (size, left, so_far) = c.loop-k.invariant in
    rw (← parts-end left (rw size at c.in-None.ensures.steps.0.1.0) h) so_far
