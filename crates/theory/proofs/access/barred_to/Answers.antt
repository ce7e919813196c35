-- `access::barred_to` meets its contract.
use Rattle.theory.specs.Study.{barred_to}
use Rattle.theory.proofs.access.barred_to.Goals as goal

pub returns-then-lorries : goal.returns-then-lorries
unfolding barred_to
returns-then-lorries c = rw c.if-lorries.true

pub returns : goal.returns
unfolding barred_to
returns c = rw c.if-lorries.false
