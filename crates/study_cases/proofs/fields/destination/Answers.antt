-- A destination below the count has its bytes.
use Rattle.std.proofs.Common.{arith}
use Rattle.study.specs.Laws.{has-destination}
use Rattle.study_cases.proofs.fields.destination.Goals as goal

pub destination-node-requires : goal.destination-node-requires
destination-node-requires g c = rw c.destinations.ensures (has-destination _ _ (omega arith))
