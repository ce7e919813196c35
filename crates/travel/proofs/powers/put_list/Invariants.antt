-- The invariant of `put_list`: after the number of step 0, those of the steps below 2k - 1 are put.
use Rattle.std.proofs.Common.{◌≡◌, ◌-◌, ◌*◌, length}
use Rattle.travel.specs.Ranges.{ListTo}
use Rattle.travel.proofs.powers.put_list.Given as goal

abbrev pub invariant-loop-k : goal.invariant-loop-k
invariant-loop-k l = (length l.list ≡ 257) × ListTo (2 * l.k - 1) l.i l.list
