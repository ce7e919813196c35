-- `questions::reach::next_node` meets its contract.
use mathlib.Core.Path.{sym, ◌∙◌}
use Rattle.questions.specs.Reach.{next_node}
use Rattle.questions.proofs.reach.next_node.Goals as goal

pub returns-then-all_reached : goal.returns-then-all_reached
unfolding next_node
returns-then-all_reached c = rw (sym c.all_reached.ensures ∙ c.if-all_reached.true)

pub returns : goal.returns
unfolding next_node
returns c = rw (sym c.all_reached.ensures ∙ c.if-all_reached.false) c.lowest_unvisited.ensures
