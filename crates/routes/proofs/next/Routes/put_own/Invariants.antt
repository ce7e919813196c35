-- The loop's invariant: the row has for each node the first fitting link of those whose head is open or that are below `l`; and `l` is a link into
-- the closed destination, or none. The links of a chain rise, so the measure is what is left to `NO_LINK`.
use Rattle.std.proofs.Common.{◌-◌}
use Rattle.theory.specs.Study.{no_link}
use Rattle.routes.specs.Next.{OwnBelow}
use Rattle.routes.specs.Routes.{destination}
use Rattle.routes.proofs.next.Routes.put_own.Given as goal

abbrev pub invariant-loop-l : goal.invariant-loop-l
invariant-loop-l l = OwnBelow l.self.search.nodes l.self.search.links.now l.self.search.times.now (destination l.self l.k) l.l l.row

abbrev pub decreases-loop-l : goal.decreases-loop-l
decreases-loop-l l = no_link - l.l
