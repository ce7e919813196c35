-- `questions::reach::all_reached` meets its contract.
use Rattle.questions.specs.Reach.{all_reached}
use Rattle.questions.proofs.reach.all_reached.Goals as goal

pub returns : goal.returns
unfolding all_reached
returns c = rw (← c.nodes_below.ensures, ← c.lowest_unvisited.ensures)
