-- The loop's invariant: `l` is a link out of the node, or none, and no link out of the node before it fits. The links of a chain rise, so the measure
-- is what is left to `NO_LINK`.
use Rattle.std.proofs.Common.{◌-◌}
use Rattle.theory.specs.Study.{no_link}
use Rattle.routes.specs.Routes.{UnfitBefore}
use Rattle.routes.proofs.next.Routes.next_link.Given as goal

abbrev pub invariant-loop-l : goal.invariant-loop-l
invariant-loop-l l = UnfitBefore l.self l.k l.j l.l

abbrev pub decreases-loop-l : goal.decreases-loop-l
decreases-loop-l l = no_link - l.l
