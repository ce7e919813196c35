-- The invariant of `add_row`: the row is added to the sums passed.
use Rattle.std.proofs.Common.{◌≡◌, length}
use Rattle.travel.specs.Ranges.{RowAdded}
use Rattle.travel.proofs.table.add_row.Given as goal

abbrev pub invariant-loop-l : goal.invariant-loop-l
invariant-loop-l l = (length l.sums ≡ 512) × RowAdded l.l l.row l.initial.sums l.sums
