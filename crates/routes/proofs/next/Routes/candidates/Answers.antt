-- `next::Routes::candidates` meets its contract.
use Rattle.std.proofs.Common.{refl, arith}
use Rattle.search.specs.Chains.{Chainable}
use Rattle.search.specs.Laws.Chains.{chainable}
use Rattle.routes.specs.Laws.Candidates.{walk_begins, walk_at, walk-goes}
use Rattle.routes.proofs.next.Routes.candidates.Goals as goal
use Rattle.routes.proofs.next.Routes.candidates.Goals.{Start, After-from-i}

-- The links can be chained.
links-chain : (c : Start) → Chainable c.args.self.now.search.links.now
links-chain c = chainable (c.args.self.now.search.searchable.each 0 (omega arith)).roads

pub loop-l-init : goal.loop-l-init
loop-l-init c = walk_begins (links-chain (goal.at.loop-l-init c).Start) c.args.self.now.chained c.requires refl

-- The next link of the chain is higher, and the walk may go on from it.
pub loop-l-smaller : goal.loop-l-smaller
loop-l-smaller c =
    let g = links-chain (goal.at.loop-l-smaller c).Start in
    let chain = c.args.self.now.chained in
    let next = walk-goes g chain c.loop-l.invariant c.loop-l-test.true c.from-i.ensures c.from.ensures c.low.ensures c.keep_row.ensures refl in
    omega (arith, next.0, (walk_at g chain c.loop-l.invariant c.loop-l-test.true c.from-i.ensures).1)

pub loop-l-preserved : goal.loop-l-preserved
loop-l-preserved c =
    (walk-goes (links-chain (goal.at.loop-l-preserved c).Start) c.args.self.now.chained c.loop-l.invariant c.loop-l-test.true c.from-i.ensures c.from.ensures
    c.low.ensures c.keep_row.ensures refl).1
