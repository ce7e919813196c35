-- `has_lorries` meets its contract.
use borrow.Author.Tests.{lt-ltb, le-ltb}
use Rattle.network.specs.Decoded.{has_lorries}
use Rattle.network.proofs.decoding.has_lorries.Goals as goal

pub returns-then-file-lt32 : goal.returns-then-file-lt32
unfolding has_lorries
returns-then-file-lt32 c = rw (lt-ltb _ _ c.if-file-lt32.true)

pub returns : goal.returns
unfolding has_lorries
returns c = rw (le-ltb _ _ c.if-file-lt32.false, ← c.version.ensures)
