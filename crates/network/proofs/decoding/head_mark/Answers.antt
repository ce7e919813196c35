-- `head_mark` meets its contract.
use mathlib.Core.Path.{◌∙◌, ap}
use Rattle.calls.specs.Study.{as_mark}
use Rattle.network.proofs.decoding.head_mark.Goals as goal

pub returns : goal.returns
returns c = (c.mark.ensures.0 ∙ ap as_mark c.mark_byte.ensures, c.mark.ensures.1)
