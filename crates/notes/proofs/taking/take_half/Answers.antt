-- `notes::taking::take_half` meets its contract.
use mathlib.Core.Path.{sym, ◌∙◌}
use borrow.Author.Tests.{eq-eqb, ne_eqb}
use Rattle.notes.specs.Laws.Taken.{tested-refused, tested-taken}
use Rattle.notes.proofs.taking.take_half.Goals as goal

pub returns-then-share-ne0 : goal.returns-then-share-ne0
returns-then-share-ne0 c = tested-refused (rw (ne_eqb _ _ c.if-share-ne0.true)) c.refused.ensures

pub returns-then-not-all_even : goal.returns-then-not-all_even
returns-then-not-all_even c =
    tested-refused (rw (eq-eqb _ _ c.if-share-ne0.false) (sym c.all_even.ensures ∙ c.if-not-all_even.true)) c.refused-then-not-all_even.ensures

pub returns : goal.returns
returns c =
    tested-taken _ _ (rw (eq-eqb _ _ c.if-share-ne0.false) (sym c.all_even.ensures ∙ c.if-not-all_even.false)) c.taken.ensures c.halve.ensures
