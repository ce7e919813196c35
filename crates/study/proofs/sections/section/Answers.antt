-- `study::sections::section` meets its contract: a refused file has an empty part.
use mathlib.Core.Path.{sym, ◌∙◌}
use Rattle.study.specs.Laws.{part-refused}
use Rattle.study.proofs.sections.section.Goals as goal

pub returns-then-refusal-ne0 : goal.returns-then-refusal-ne0
returns-then-refusal-ne0 c = sym (part-refused _ _ (λ e. c.if-refusal-ne0.true (c.refusal.ensures ∙ e)))

pub accepted_section-requires : goal.accepted_section-requires
accepted_section-requires c = (sym c.refusal.ensures ∙ c.if-refusal-ne0.false, c.requires)

pub returns : goal.returns
returns c = c.accepted_section.ensures
