-- `next::Routes::put_own` meets its contract.
use Rattle.std.proofs.Common.{◌+◌, ◌<◌, length, get_or, refl, ap, arith}
use Rattle.theory.specs.Study.{tail, head}
use Rattle.routes.specs.Next.{OwnBelow}
use Rattle.routes.specs.Routes.{destination}
use Rattle.routes.specs.Laws.Next.{gives}
use Rattle.routes.specs.Laws.Own.{own-begins, own-ends, own_at, own-goes}
use Rattle.routes.proofs.next.Routes.put_own.Goals as goal
use Rattle.routes.proofs.next.Routes.put_own.Goals.{After-from-i, Joined-given-self, then-given-self, else-given-self}

pub loop-l-init : goal.loop-l-init
loop-l-init c =
    let r = c.args.self.now in
    own-begins r.search.searchable r.found c.requires.0 r.search.chained c.requires.1 (ap (λ s. 128 + s) c.node_of.ensures) refl

-- The walk stands at a link of the network, between two of 128 nodes.
at-link :
    (c : After-from-i) →
    let links = c.args.self.now.search.links.now in
    let i = c.from-i.result in (i < length links) × (i < 512) × (tail links i < 128) × (head links i < 128)
at-link c =
    let r = c.args.self.now in
    let few = (r.search.searchable.each c.args.k c.requires.0).roads.few-nodes in
    let (below, link, tail-node, head-node) =
    own_at r.search.searchable r.found c.requires.0 r.search.chained c.loop-l.invariant c.loop-l-test.true c.from-i.ensures in
    (below, link, omega arith, omega arith)

pub overflow_add-given : goal.overflow_add-given
overflow_add-given c =
    let r = c.args.self.now in
    omega (arith, gives r.search.searchable r.found c.requires.0 (at-link (goal.at.overflow_add-given c).After-from-i).0 c.from-head.ensures)

-- The next link of the chain is higher, and the walk may go on from it.
goes :
    (c : Joined-given-self) →
    let r = c.args.self.now in
    let next = get_or r.search.into.now (384 + c.from-i.result) 0 in
    (c.loop-l.l < next) × OwnBelow r.search.nodes r.search.links.now r.search.times.now (destination r c.args.k) next c.if-given-self.row
goes c =
    let r = c.args.self.now in
    elim c.if-given-self.branch [
      | then-given-self w ↦
          own-goes r.search.searchable r.found c.requires.0 r.search.chained c.loop-l.invariant c.loop-l-test.true c.from-i.ensures c.from-j.ensures
          c.from-head.ensures (λ same. rw (← w.min.ensures) w.row-is) (λ differ. absurd (differ w.if-given-self.true)) refl
      | else-given-self w ↦
          own-goes r.search.searchable r.found c.requires.0 r.search.chained c.loop-l.invariant c.loop-l-test.true c.from-i.ensures c.from-j.ensures
          c.from-head.ensures (λ same. absurd (w.if-given-self.false same)) (λ differ. w.row-is) refl
    ]

pub loop-l-smaller : goal.loop-l-smaller
loop-l-smaller c =
    let joined = (goal.at.loop-l-smaller c).Joined-given-self in
    omega (arith, (goes joined).0, (at-link (goal.at.loop-l-smaller c).After-from-i).1)

pub loop-l-preserved : goal.loop-l-preserved
loop-l-preserved c = (goes (goal.at.loop-l-preserved c).Joined-given-self).1

pub returns : goal.returns
returns c =
    let r = c.args.self.now in own-ends r.search.searchable r.found c.requires.0 r.search.chained c.loop-l.invariant c.loop-l-test.false
