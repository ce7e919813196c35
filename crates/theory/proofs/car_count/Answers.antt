-- `car_count` meets its contract.
use native.Mathlib.Omega.{arith}
use mathlib.Core.Path.{sym, ◌∙◌}
use borrow.Author.Rules.{rules}
use Rattle.theory.specs.Laws.Classes.{count_none, count-half, count-all}
use Rattle.theory.proofs.car_count.Goals as goal

pub returns-then-count-eq0 : goal.returns-then-count-eq0
returns-then-count-eq0 c = (sym (count_none _ c.if-count-eq0.true), omega arith)

pub returns-then-of_lorries : goal.returns-then-of_lorries
returns-then-of_lorries c = (sym (count-half _ (sym c.of_lorries.ensures ∙ c.if-of_lorries.true)), omega arith)

pub returns : goal.returns
returns c = (sym (count-all _ (sym c.of_lorries.ensures ∙ c.if-of_lorries.false)), omega arith)
