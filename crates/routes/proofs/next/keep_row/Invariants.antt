-- The loop's invariant: the link is kept, where it is not ruled out, for each of the first `k` destinations that had none.
use Rattle.routes.specs.Next.{RowKept}
use Rattle.routes.proofs.next.keep_row.Given as goal

abbrev pub invariant-loop-k : goal.invariant-loop-k
invariant-loop-k l = RowKept l.own l.ahead l.time l.l l.initial.row l.k l.row
