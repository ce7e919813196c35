-- `study::trips_from` meets its contract: the bytes of the entry are there, and the field is the u16 at its place.
use borrow.Author.Rules.{rules}
use Rattle.study.specs.Fields.{trips, HasTrips}
use Rattle.study.proofs.fields.trips_from.Goals as goal

pub overflow_mul-k : goal.overflow_mul-k
unfolding HasTrips
overflow_mul-k c = search rules

pub overflow_add-k : goal.overflow_add-k
unfolding HasTrips
overflow_add-k c = search rules

pub overflow_mul-k-2 : goal.overflow_mul-k-2
unfolding HasTrips
overflow_mul-k-2 c = search rules

pub u16_at-requires : goal.u16_at-requires
unfolding HasTrips
u16_at-requires c = search rules

pub returns : goal.returns
unfolding trips
returns c = search rules
