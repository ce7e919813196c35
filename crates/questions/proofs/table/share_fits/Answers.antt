-- `share_fits` meets its contract.
use mathlib.Core.Path.{refl}
use borrow.Author.Tests.{le-leb, lt-leb}
use Rattle.study.proofs.Flags.{and_yes, and_no}
use Rattle.calls.specs.Questions.{share_fits}
use Rattle.questions.proofs.table.share_fits.Goals as goal

pub returns-then-share-ge1 : goal.returns-then-share-ge1
unfolding share_fits
returns-then-share-ge1 c = and_yes _ _ (le-leb _ _ c.if-share-ge1.true) refl

pub returns-else-share-ge1 : goal.returns-else-share-ge1
unfolding share_fits
returns-else-share-ge1 c = and_no _ _ (lt-leb _ _ c.if-share-ge1.false) refl
