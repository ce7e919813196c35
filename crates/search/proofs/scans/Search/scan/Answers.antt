-- `scans::Search::scan` meets its contract.
use Rattle.std.proofs.Common.{◌≤◌, ◌<◌, length, get_or, refl, arith}
use Rattle.theory.specs.Study.{tail}
use Rattle.search.specs.Given.{longest}
use Rattle.search.specs.Laws.Lanes.{each-begins, each_at, each_goes}
use Rattle.search.proofs.scans.Search.scan.Goals as goal
use Rattle.search.proofs.scans.Search.scan.Goals.{After-from-i}

pub loop-l-init : goal.loop-l-init
loop-l-init c =
    let s = c.args.self.now in
    each-begins s.searchable s.chained c.requires.under_way.0 c.requires.hands_on (omega (arith, c.requires.under_way.1)) refl

-- The scan is at a link of the network.
at-link : (c : After-from-i) →
    let s = c.args.self.now in
    let i = c.from-i.result in
    (i < length s.links.now) × (i < 512) × (tail s.links.now i < 128) × (get_or s.times.now i 0 ≤ longest)
at-link c =
    let s = c.args.self.now in each_at s.searchable s.chained c.loop-l.invariant c.loop-l-test.true c.from-i.ensures

pub loop-l-smaller : goal.loop-l-smaller
loop-l-smaller c =
    let s = c.args.self.now in
    let next = each_goes s.searchable s.chained c.loop-l.invariant c.loop-l-test.true c.from-i.ensures c.from.ensures c.relax.ensures refl in
    omega (arith, next.0, (at-link (goal.at.loop-l-smaller c).After-from-i).1)

pub loop-l-preserved : goal.loop-l-preserved
loop-l-preserved c =
    let s = c.args.self.now in
    (each_goes s.searchable s.chained c.loop-l.invariant c.loop-l-test.true c.from-i.ensures c.from.ensures c.relax.ensures refl).1
