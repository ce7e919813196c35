-- `scans::Search::enter` meets its contract.
use Rattle.std.proofs.Common.{refl}
use Rattle.search.specs.Laws.Lanes.{enter-hands, enter-more}
use Rattle.search.proofs.scans.Search.enter.Goals as goal

pub scan-requires-clause-hands_on : goal.scan-requires-clause-hands_on
scan-requires-clause-hands_on c = enter-hands c.args.self.now.searchable c.loop-k-test.true c.loop-k.invariant c.node_of.ensures refl

pub loop-k-preserved : goal.loop-k-preserved
loop-k-preserved c = enter-more c.args.self.now.searchable c.loop-k-test.true c.loop-k.invariant c.node_of.ensures refl c.scan.ensures
