-- The invariant of `add_at`: both sums are those of the links passed.
use Rattle.std.proofs.Common.{length}
use Rattle.travel.specs.Ranges.{SumsAt}
use Rattle.travel.proofs.balance.add_at.Given as goal

abbrev pub invariant-loop-link : goal.invariant-loop-link
invariant-loop-link l =
    SumsAt (length l.yielded) l.links 0 l.row l.out × SumsAt (length l.yielded) l.links 1 l.row l.into
