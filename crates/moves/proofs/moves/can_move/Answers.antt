-- `can_move` meets its contract.
use Rattle.moves.specs.Laws.Moves.{can-add, can_double}
use Rattle.moves.proofs.moves.can_move.Goals as goal

pub returns-then-j-gt0 : goal.returns-then-j-gt0
returns-then-j-gt0 c = can-add _ _ c.if-j-gt0.true

pub returns : goal.returns
returns c = can_double _ _ c.if-j-gt0.false
