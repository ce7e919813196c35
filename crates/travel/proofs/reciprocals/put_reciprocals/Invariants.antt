-- The invariant of `put_reciprocals`: the powers are there, and the reciprocals of the links passed, and the curves are as long as before.
use Rattle.std.proofs.Common.{◌≡◌, length}
use Rattle.travel.specs.Ranges.{LinkPowers, Reciprocals}
use Rattle.travel.proofs.reciprocals.put_reciprocals.Given as goal

abbrev pub invariant-loop-l : goal.invariant-loop-l
invariant-loop-l l =
    LinkPowers l.links l.curves × Reciprocals l.l l.links l.curves × (length l.curves ≡ length l.initial.curves)
