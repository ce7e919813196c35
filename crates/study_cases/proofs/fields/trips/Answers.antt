-- An entry whose node and destination are below the counts has its bytes.
use Rattle.std.proofs.Common.{arith}
use Rattle.study.specs.Laws.{has-trips}
use Rattle.study_cases.proofs.fields.trips.Goals as goal

pub trips_from-trips-requires : goal.trips_from-trips-requires
trips_from-trips-requires g c = rw (c.trips.ensures, c.node_count-n.ensures) (has-trips _ _ _ (omega arith) (omega arith))
