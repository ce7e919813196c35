-- What is divided fits 32 bits, and the smaller of the treads and 256 is the step.
use Rattle.std.proofs.Common.{arith}
use Rattle.theory.specs.Flows.{step}
use Rattle.travel.proofs.steps.Curve.step_of.Goals as goal

pub returns : goal.returns
unfolding step
returns c = grind arith
