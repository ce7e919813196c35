-- `next::Routes::put_node` meets its contract.
use Rattle.std.proofs.Common.{arith}
use Rattle.routes.specs.Laws.Candidates.{ruled-out-unfit}
use Rattle.routes.proofs.next.Routes.put_node.Goals as goal

pub next_link-requires : goal.next_link-requires
next_link-requires c =
    let r = c.args.self.now in
    let (lows, node, few) = c.requires in
    (node, omega arith, ruled-out-unfit r.search.searchable r.found lows node (omega arith) (c.candidates-from.ensures _ (omega arith)))
