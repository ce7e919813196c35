-- `desks::calling::within` meets its contract.
use Rattle.std.proofs.Common.{le-leb}
use Rattle.std.proofs.lemmas.Bool.{lt-leb}
use Rattle.desks.proofs.calling.within.Goals as goal

pub returns-then-number-ge1 : goal.returns-then-number-ge1
returns-then-number-ge1 c = rw (le-leb _ _ c.if-number-ge1.true)

pub returns-else-number-ge1 : goal.returns-else-number-ge1
returns-else-number-ge1 c = rw (lt-leb _ _ c.if-number-ge1.false)
