-- `study::sections::count` meets its contract: an accepted file has its header.
use mathlib.Core.Path.{sym, ◌∙◌}
use native.Mathlib.Omega.{arith}
use Rattle.study.specs.Laws.{accepted, value-accepted, value-refused}
use Rattle.study.proofs.sections.count.Goals as goal

pub returns-then-refusal-ne0 : goal.returns-then-refusal-ne0
returns-then-refusal-ne0 c = sym (value-refused _ _ _ (λ e. c.if-refusal-ne0.true (c.refusal.ensures ∙ e)))

pub u16_at-requires : goal.u16_at-requires
u16_at-requires c = omega (arith, accepted _ (sym c.refusal.ensures ∙ c.if-refusal-ne0.false))

pub returns : goal.returns
returns c = c.u16_at.ensures ∙ sym (value-accepted _ _ _ (sym c.refusal.ensures ∙ c.if-refusal-ne0.false))
