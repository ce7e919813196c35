-- The loop's invariant: the next links of the node to the first `k` destinations are written.
use Rattle.routes.specs.Routes.{NodePut}
use Rattle.routes.proofs.next.Routes.put_node.Given as goal

abbrev pub invariant-loop-k : goal.invariant-loop-k
invariant-loop-k l = NodePut l.self l.j l.initial.rows l.k l.rows
