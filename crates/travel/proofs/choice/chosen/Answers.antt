-- A try moves one of the bounds to it, and where they meet is the j that is sought.
use Rattle.std.proofs.Common.{◌≡◌, sym, arith, rules}
use Rattle.travel.specs.Laws.Choice.{roads-chosen, qualifies-yes, qualifies-no}
use Rattle.travel.specs.Laws.Bisection.{between-up, between-down}
use Rattle.travel.proofs.choice.chosen.Goals as goal

pub loop-bounds-preserved-then-sums : goal.loop-bounds-preserved-then-sums
loop-bounds-preserved-then-sums c =
    let is = c.sums_at-sums.ensures in (
      between-up _ _ c.loop-bounds.invariant.0 _ (omega arith) (qualifies-yes _ _ _ _ _ is.loaded_value is.spent_value c.if-sums.true),
      omega arith,
    )

pub loop-bounds-preserved : goal.loop-bounds-preserved
loop-bounds-preserved c =
    let is = c.sums_at-sums.ensures in (
      between-down _ _ c.loop-bounds.invariant.0 _ (omega arith) (omega arith) (qualifies-no _ _ _ _ _ is.loaded_value is.spent_value c.if-sums.false),
      omega arith,
    )

pub returns : goal.returns
returns c =
    let x = c.args in
    let inv = c.loop-bounds.invariant.0 in
    let met : c.loop-bounds.bounds.high ≡ c.loop-bounds.bounds.low = omega arith in
    sym (roads-chosen _ c.requires.0.links-fit x.share (search rules) _ _ _ (omega (arith, inv.within, inv.ordered)) inv.holds (rw met at inv.ends))
