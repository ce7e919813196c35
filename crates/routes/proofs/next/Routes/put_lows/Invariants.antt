-- The loop's invariant: the last 16 bits of the marks of the nodes below `j` are taken.
use Rattle.routes.specs.Next.{Lows}
use Rattle.routes.proofs.next.Routes.put_lows.Given as goal

abbrev pub invariant-loop-j : goal.invariant-loop-j
invariant-loop-j l = Lows l.j l.self.marks.now l.lows
