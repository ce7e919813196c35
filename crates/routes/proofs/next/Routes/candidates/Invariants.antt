-- The loop's invariant: for each destination a link is kept before which all are ruled out, or all links before `l` are ruled out; and `l` is a link
-- out of the node, or none. The links of a chain rise, so the measure is what is left to `NO_LINK`.
use Rattle.std.proofs.Common.{◌-◌}
use Rattle.theory.specs.Study.{no_link}
use Rattle.search.specs.Given.{class_of}
use Rattle.routes.specs.Next.{EachCandidate}
use Rattle.routes.proofs.next.Routes.candidates.Given as goal

abbrev pub invariant-loop-l : goal.invariant-loop-l
invariant-loop-l l = EachCandidate (class_of l.self.search.group) l.self.search.links.now l.self.search.times.now l.lows l.j l.l l.row

abbrev pub decreases-loop-l : goal.decreases-loop-l
decreases-loop-l l = no_link - l.l
