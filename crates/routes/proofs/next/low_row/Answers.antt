-- `next::low_row` meets its contract.
use Rattle.std.proofs.Common.{arith}
use Rattle.theory.specs.Laws.Filled.{filled_more}
use Rattle.routes.proofs.next.low_row.Goals as goal

pub loop-k-preserved : goal.loop-k-preserved
loop-k-preserved c = filled_more (omega arith) c.low.ensures c.loop-k.invariant
