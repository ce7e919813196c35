-- This is the definition of `reciprocal`.
use Rattle.std.proofs.Common.{refl}
use Rattle.travel.specs.Links.{reciprocal}
use Rattle.travel.proofs.reciprocals.reciprocal.Goals as goal

pub returns : goal.returns
unfolding reciprocal
returns c = refl
