-- `questions::reach::search` meets its contract: the nodes reached and visited, and the next.
use mathlib.Core.Path.{◌≡◌}
use Rattle.theory.specs.Laws.Marks.{lacking}
use Rattle.questions.specs.Reach.{Searching, next_node}
use Rattle.questions.proofs.reach.search.Given as goal

abbrev pub invariant-loop-next : goal.invariant-loop-next
invariant-loop-next l = Searching l.rows l.s l.reached l.visited × (l.next ≡ next_node l.nodes l.reached l.visited)

abbrev pub decreases-loop-next : goal.decreases-loop-next
decreases-loop-next l = lacking l.visited
