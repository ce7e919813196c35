-- `scans::Search::scan_node` meets its contract.
use Rattle.std.proofs.Common.{◌<◌, arith}
use Rattle.search.specs.Laws.Lanes.{row-most, each-hands, each-searching, rescans}
use Rattle.search.proofs.scans.Search.scan_node.Goals as goal
use Rattle.search.proofs.scans.Search.scan_node.Goals.{Start}

-- The node is one of 128.
node : (c : Start) → c.args.j < 128
node c = omega (arith, c.requires.1, (c.args.self.now.searchable.each 0 (omega arith)).roads.few-nodes)

pub scan-requires-clause-under_way : goal.scan-requires-clause-under_way
scan-requires-clause-under_way c =
    let inside = node (goal.at.scan-requires-clause-under_way c).Start in
    let searching = each-searching c.args.self.now.searchable c.requires.0 in
    (searching, omega (arith, inside), row-most _ (λ i h. (searching.each i h).marked) inside)

pub scan-requires-clause-hands_on : goal.scan-requires-clause-hands_on
scan-requires-clause-hands_on c = each-hands c.args.self.now.searchable c.requires.1

pub returns : goal.returns
returns c =
    rescans c.args.self.now.searchable c.requires.0 (node (goal.at.returns c).Start) c.requires.2 c.requires.1 c.scan.ensures
