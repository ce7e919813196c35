-- `scans::has_fallen` meets its contract.
use Rattle.search.specs.Laws.Rows.{compared-more}
use Rattle.search.proofs.scans.has_fallen.Goals as goal

pub loop-k-preserved : goal.loop-k-preserved
loop-k-preserved c = compared-more c.loop-k.invariant (c.requires c.loop-k.k c.loop-k-test.true)
