-- `refusals::curve_places` meets its contract.
use borrow.Author.Tests.{lt-ltb, le-ltb}
use Rattle.refusals.specs.Places.{curve_places}
use Rattle.refusals.proofs.places.curve_places.Goals as goal

pub returns-then-file-lt32 : goal.returns-then-file-lt32
unfolding curve_places
returns-then-file-lt32 c = rw (lt-ltb _ _ c.if-file-lt32.true)

pub returns-then-version-lt3 : goal.returns-then-version-lt3
unfolding curve_places
returns-then-version-lt3 c = rw (le-ltb _ _ c.if-file-lt32.false, ← c.version.ensures, lt-ltb _ _ c.if-version-lt3.true)

pub returns : goal.returns
unfolding curve_places
returns c = rw (le-ltb _ _ c.if-file-lt32.false, ← c.version.ensures, le-ltb _ _ c.if-version-lt3.false)
