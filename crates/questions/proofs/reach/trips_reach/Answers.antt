-- `questions::reach::trips_reach` meets its contract.
use Rattle.questions.specs.Laws.Reach.{none-at-first, room-more}
use Rattle.questions.proofs.reach.trips_reach.Goals as goal

pub trips_reach_in-requires : goal.trips_reach_in-requires
trips_reach_in-requires c = record { sized = c.requires.sized; links_value = c.requires.links_value; to_nodes = c.requires.to_nodes; room = (room-more c.row_count-count.ensures.0 c.row_count-count.ensures.1, none-at-first 256) }

pub trips_reach_in-requires-then-count-gt16 : goal.trips_reach_in-requires-then-count-gt16
trips_reach_in-requires-then-count-gt16 c = record { sized = c.requires.sized; links_value = c.requires.links_value; to_nodes = c.requires.to_nodes; room = (room-more c.row_count-count.ensures.0 c.if-count-gt64.false, none-at-first 64) }

pub trips_reach_in-requires-2 : goal.trips_reach_in-requires-2
trips_reach_in-requires-2 c = record { sized = c.requires.sized; links_value = c.requires.links_value; to_nodes = c.requires.to_nodes; room = (room-more c.row_count-count.ensures.0 c.if-count-gt16.false, none-at-first 16) }
