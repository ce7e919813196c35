-- `study::tail` meets its contract: the field at the start of the link.
use mathlib.Core.Path.{◌∙◌}
use native.Mathlib.Nat.{add-zero}
use Rattle.study.specs.Fields.{tail}
use Rattle.study.proofs.fields.tail.Goals as goal

pub returns : goal.returns
unfolding tail
returns c = c.link_field.ensures ∙ rw add-zero
