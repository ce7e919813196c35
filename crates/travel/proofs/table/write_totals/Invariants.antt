-- The invariant of `write_totals`: the sums are the totals over the rows passed.
use Rattle.std.proofs.Common.{◌≡◌}
use Rattle.theory.specs.Flows.{link_total}
use Rattle.travel.specs.Links.{padded}
use Rattle.travel.proofs.table.write_totals.Given as goal

abbrev pub invariant-loop-k : goal.invariant-loop-k
invariant-loop-k l = l.sums ≡ padded l.m (link_total l.k l.m l.table)
