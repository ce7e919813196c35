-- `access::may_use` meets its contract.
use mathlib.Core.List.{[], ◌∷◌}
use mathlib.Core.Path.{◌≡◌, sym, ◌∙◌}
use Rattle.theory.specs.Study.{of_lorries, barred_to}
use Rattle.theory.specs.Laws.Permission.{may-barred, may-open, own-only}
use Rattle.theory.proofs.access.may_use.Goals as goal
use Rattle.theory.proofs.access.may_use.Goals.{After-barred_to}

-- Whether the commodity is barred from the link.
answer : (c : After-barred_to) → let x = c.args in c.barred_to.result ≡ barred_to (x.link ∷ []) (of_lorries x.commodity) 0
answer c = rw c.of_lorries.ensures at c.barred_to.ensures

pub returns-then-barred_to : goal.returns-then-barred_to
returns-then-barred_to c = sym (may-barred _ _ _ (sym (answer (goal.at.returns-then-barred_to c).After-barred_to) ∙ c.if-barred_to.true))

pub returns-then-link-eq1 : goal.returns-then-link-eq1
returns-then-link-eq1 c =
    rw (c.from.ensures, c.node_of.ensures)
    (sym (own-only _ _ _ (sym (answer (goal.at.returns-then-link-eq1 c).After-barred_to) ∙ c.if-barred_to.false) c.if-link-eq1.true))

pub returns : goal.returns
returns c = sym (may-open _ _ _ (sym (answer (goal.at.returns c).After-barred_to) ∙ c.if-barred_to.false) c.if-link-eq1.false)
