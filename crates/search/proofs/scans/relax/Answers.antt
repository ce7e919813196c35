-- `scans::relax` meets its contract.
use Rattle.std.proofs.Common.{◌≡◌, arith}
use native.Mathlib.Nat.{le_refl}
use Rattle.search.specs.Laws.Lanes.{row-most, each-relaxed}
use Rattle.search.proofs.scans.relax.Goals as goal

pub lower-requires : goal.lower-requires
lower-requires c =
    let k = c.loop-k.k in
    let inside = c.loop-k-test.true in (
      omega (arith, c.requires.tail_bound.2 k inside),
      omega (arith, row-most c.args.marks.now c.requires.shaped.1 c.requires.tail_bound.0 k inside, c.loop-k.invariant.rest k (le_refl _)),
    )

pub returns : goal.returns
returns c =
    let all : c.loop-k.k ≡ 8 = omega arith in
    each-relaxed c.requires.shaped.0 c.requires.tail_bound.0 (rw all at c.loop-k.invariant)
