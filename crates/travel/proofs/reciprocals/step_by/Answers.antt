-- `step_by` is the smaller of 256 and the parts.
use Rattle.std.proofs.Common.{arith}
use Rattle.travel.specs.Links.{step_by}
use Rattle.travel.proofs.reciprocals.step_by.Goals as goal

pub returns : goal.returns
unfolding step_by
returns c = grind arith
