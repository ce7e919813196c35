-- The loop's invariant: in each lane the links below `l` that end at the place are relaxed, and `l` is such a link, or none. The links of a chain
-- rise, so the measure is what is left to `NO_LINK`.
use Rattle.std.proofs.Common.{◌-◌}
use Rattle.theory.specs.Study.{no_link}
use Rattle.search.specs.Lanes.{EachScanning}
use Rattle.search.proofs.scans.Search.scan.Given as goal

abbrev pub invariant-loop-l : goal.invariant-loop-l
invariant-loop-l l = EachScanning l.self.nodes l.self.links.now l.self.times.now l.self.group l.place l.ahead l.initial.marks l.marks l.l

abbrev pub decreases-loop-l : goal.decreases-loop-l
decreases-loop-l l = no_link - l.l
