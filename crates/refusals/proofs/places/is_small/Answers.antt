-- `refusals::is_small` meets its contract.
use borrow.Author.Tests.{le-leb, lt-leb}
use Rattle.refusals.specs.Places.{is_small}
use Rattle.refusals.proofs.places.is_small.Goals as goal

pub returns-then-file-le-SHORT : goal.returns-then-file-le-SHORT
unfolding is_small
returns-then-file-le-SHORT c = rw (le-leb _ _ c.if-file-le-SHORT.true, ← c.curve_places.ensures)

pub returns-else-file-le-SHORT : goal.returns-else-file-le-SHORT
unfolding is_small
returns-else-file-le-SHORT c = rw (lt-leb _ _ c.if-file-le-SHORT.false)
