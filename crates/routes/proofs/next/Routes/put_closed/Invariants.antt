-- The loop's invariant: the rows of the first `k` destinations have the next links of all nodes, and the others are as they were.
use Rattle.routes.specs.Table.{RowsPut}
use Rattle.routes.specs.Routes.{RowRouted}
use Rattle.routes.proofs.next.Routes.put_closed.Given as goal

abbrev pub invariant-loop-k : goal.invariant-loop-k
invariant-loop-k l = RowsPut (RowRouted l.self) l.initial.rows 0 l.k l.rows
