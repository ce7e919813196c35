-- `questions::questions::within` meets its contract.
use borrow.Author.Tests.{le-leb, lt-leb}
use mathlib.Core.Path.{refl}
use Rattle.study.proofs.Flags.{and_yes, and_no}
use Rattle.questions.proofs.fields.within.Goals as goal

pub returns-then-least-x : goal.returns-then-least-x
returns-then-least-x c = and_yes _ _ (le-leb _ _ c.if-least-x.true) refl

pub returns-else-least-x : goal.returns-else-least-x
returns-else-least-x c = and_no _ _ (lt-leb _ _ c.if-least-x.false) refl
