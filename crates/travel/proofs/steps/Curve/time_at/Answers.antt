-- The time is the one that the power of the step makes (`time-at`), and no time is more than `most_time`.
use Rattle.std.proofs.Common.{◌≡◌, ◌+◌, ◌*◌, ◌/◌, get_or, refl, arith, rules}
use Rattle.travel.specs.Links.{row_time}
use Rattle.travel.specs.Laws.Times.{row_time-most}
use Rattle.travel.specs.Laws.Powers.{rise-most, time-at}
use Rattle.travel.proofs.steps.Curve.time_at.Goals as goal

pub overflow_mul-time : goal.overflow_mul-time
overflow_mul-time c = rw c.from-2.ensures (omega (arith, rise-most _ _ _ c.args.self.fits c.args.step (search rules)))

pub returns : goal.returns
returns c =
    let curve = c.args.self in
    let same : get_or curve.link 2 0 + get_or curve.link 3 0 * get_or curve.curves.now (curve.list + c.args.step) 0 / 16777216 ≡ row_time curve.link c.args.step = time-at _ _ _ curve.fits c.args.step (search rules) in
    rw (c.from.ensures, c.from-2.ensures, same) (refl, row_time-most curve.link c.args.step curve.fits.fit (search rules))
