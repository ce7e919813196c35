-- `next::Routes::next_link` meets its contract.
use Rattle.std.proofs.Common.{◌<◌, length, refl, arith}
use Rattle.theory.specs.Study.{head}
use Rattle.routes.specs.Laws.Next.{gives, next-none, next-at, next_here, next-goes}
use Rattle.routes.proofs.next.Routes.next_link.Goals as goal
use Rattle.routes.proofs.next.Routes.next_link.Goals.{After-from-i}

-- The search stands at a link of the network.
at-link :
    (c : After-from-i) →
    let links = c.args.self.now.search.links.now in
    let i = c.from-i.result in (i < length links) × (i < 512) × (head links i < 128)
at-link c =
    let r = c.args.self.now in
    next-at r.search.searchable r.found c.requires.0 c.requires.1 c.loop-l.invariant c.loop-l-test.true c.from-i.ensures

pub overflow_add-given : goal.overflow_add-given
overflow_add-given c =
    let r = c.args.self.now in
    omega (arith, gives r.search.searchable r.found c.requires.1 (at-link (goal.at.overflow_add-given c).After-from-i).0 c.from-head.ensures)

-- The next link of the chain is higher, and the search may go on from it.
pub loop-l-smaller : goal.loop-l-smaller
loop-l-smaller c =
    let r = c.args.self.now in
    let next =
    next-goes r.search.searchable r.found c.requires.0 c.requires.1 c.loop-l.invariant c.loop-l-test.true c.from-i.ensures c.from-head.ensures r.chained
    c.if-given-own.false refl in
    omega (arith, next.0, (at-link (goal.at.loop-l-smaller c).After-from-i).1)

pub loop-l-preserved : goal.loop-l-preserved
loop-l-preserved c =
    let r = c.args.self.now in
    (next-goes r.search.searchable r.found c.requires.0 c.requires.1 c.loop-l.invariant c.loop-l-test.true c.from-i.ensures c.from-head.ensures r.chained
    c.if-given-own.false refl).1

pub returns-after-loop-l : goal.returns-after-loop-l
returns-after-loop-l c =
    let r = c.args.self.now in
    next-none r.search.searchable r.found c.requires.0 c.requires.1 c.loop-l.invariant c.loop-l-test.false

pub returns-then-given-own : goal.returns-then-given-own
returns-then-given-own c =
    let r = c.args.self.now in
    next_here r.search.searchable r.found c.requires.0 c.requires.1 c.loop-l.invariant c.loop-l-test.true c.from-i.ensures c.from-head.ensures
    c.if-given-own.true
