-- The loop's invariant: the next links of the nodes below `j` are written.
use Rattle.std.proofs.Common.{ℕ, ◌<◌, [], length, get_or}
use Rattle.routes.specs.Table.{OpenBelow}
use Rattle.routes.specs.Routes.{destination}
use Rattle.routes.proofs.next.Routes.put_open.Given as goal

abbrev pub invariant-loop-j : goal.invariant-loop-j
invariant-loop-j l =
    (k : ℕ) → k < length l.rows → OpenBelow l.self.search.nodes l.self.search.links.now l.self.search.times.now (destination l.self k) l.j (get_or l.rows k [])
