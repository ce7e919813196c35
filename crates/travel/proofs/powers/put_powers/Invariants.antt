-- The invariant of `put_powers`: there is room for four lists, and those passed are put.
use Rattle.travel.specs.Laws.Powers.{ListsTo}
use Rattle.travel.proofs.powers.put_powers.Given as goal

abbrev pub invariant-loop-i : goal.invariant-loop-i
invariant-loop-i l = ListsTo l.i 4 l.curves
