-- `assignment::turns_in`, the loop over its turns. The invariant: as many tables as `judged` says have been judged and moved, the run goes on with
-- the table and the share that are there now, and where `known` says so the arrays hold what judging computes of them; the totals are those of
-- the table. The measure is what is left of the budget.
use Rattle.std.proofs.Common.{◌≡◌, ◌-◌, true}
use Rattle.judging.specs.Study.{study_of}
use Rattle.judging.specs.Judged.{Known, Lent, TotalsOf}
use Rattle.assignment.specs.Runs.{Running}
use Rattle.assignment.proofs.running.turns_in.Given as goal

abbrev pub invariant-loop-flows : goal.invariant-loop-flows
invariant-loop-flows l =
    record {
      under-way : Running l.file l.fn.table l.course.budget l.course.excess l.judged l.table l.share;
      known : l.known ≡ true → Known (study_of l.nodes l.links l.commodities l.trips) l.share l.times l.next l.volumes l.flows;
      lent : Lent (study_of l.nodes l.links l.commodities l.trips) l.times l.next l.volumes l.flows;
      totals-are : TotalsOf (study_of l.nodes l.links l.commodities l.trips) l.table l.flows;
    }

abbrev pub decreases-loop-flows : goal.decreases-loop-flows
decreases-loop-flows l =
    l.course.budget - l.judged
