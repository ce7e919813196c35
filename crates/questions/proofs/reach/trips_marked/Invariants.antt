-- `questions::reach::trips_marked` meets its contract: the nodes that have passed.
use Rattle.theory.specs.Laws.Marks.{lacking}
use Rattle.questions.specs.Reach.{Passed}
use Rattle.questions.proofs.reach.trips_marked.Given as goal

abbrev pub invariant-loop-all : goal.invariant-loop-all
invariant-loop-all l = Passed l.trips l.initial.passed l.passed

abbrev pub decreases-loop-all : goal.decreases-loop-all
decreases-loop-all l = lacking l.passed
