-- The invariant of `times`: the times of the links passed are written, and past all links there are zeros.
use Rattle.std.proofs.Common.{length}
use Rattle.travel.specs.Links.{list_time}
use Rattle.travel.specs.Laws.Padded.{Filled}
use Rattle.travel.proofs.steps.times.Given as goal

abbrev pub invariant-loop-l : goal.invariant-loop-l
invariant-loop-l l = Filled l.l (length l.links) (list_time l.links l.share l.flows) l.times
