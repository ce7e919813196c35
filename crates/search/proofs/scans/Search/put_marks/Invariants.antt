-- The search sets out with all marks unreached, and with no node scanned. The first loop's invariant: the first `k` destinations of the group are
-- marked, and nothing else is. Then the links into closed destinations are scanned. The second loop's: in each lane the marks are those of a search
-- under way, and no link gives its tail less than its mark by the mark that its head had when it was last scanned. The sum of those falls with each
-- sweep up that scans a node; after one that scans none the marks are the distances.
use Rattle.std.proofs.Common.{◌≤◌}
use Rattle.search.specs.Lanes.{totals, Swept, SetOut}
use Rattle.search.specs.Searches.{NodesScanned}
use Rattle.search.proofs.scans.Search.put_marks.Given as goal

abbrev pub invariant-loop-k : goal.invariant-loop-k
invariant-loop-k l = SetOut l.fn.self.group l.k l.marks

abbrev pub invariant-loop-j : goal.invariant-loop-j
invariant-loop-j l = NodesScanned l.fn.self l.marks l.scanned

abbrev pub decreases-loop-j : goal.decreases-loop-j
decreases-loop-j l = totals l.scanned

abbrev pub invariant-loop-j-2 : goal.invariant-loop-j-2
invariant-loop-j-2 l = Swept l.fn.self.nodes l.fn.self.links.now l.fn.self.times.now l.fn.self.group l.j (totals l.initial.scanned) l.marks l.scanned l.fallen

abbrev pub invariant-loop-j-3 : goal.invariant-loop-j-3
invariant-loop-j-3 l = NodesScanned l.fn.self l.marks l.scanned × (totals l.scanned ≤ totals l.initial.scanned)
