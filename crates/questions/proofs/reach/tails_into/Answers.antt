-- `questions::reach::tails_into` meets its contract.
use native.Mathlib.Omega.{arith}
use Rattle.questions.specs.Reach.{tails_into}
use Rattle.questions.proofs.reach.tails_into.Goals as goal

pub returns-then-all_open : goal.returns-then-all_open
unfolding tails_into
returns-then-all_open c = rw c.if-all_open.true

pub bounds-rows-nodes : goal.bounds-rows-nodes
bounds-rows-nodes c = omega (arith, c.requires.1, c.requires.2.rows-closed c.if-all_open.false)

pub returns : goal.returns
unfolding tails_into
returns c = rw c.if-all_open.false c.both.ensures
