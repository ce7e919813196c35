-- `text::put_text` meets its contract.
use Rattle.std.proofs.Common.{refl}
use Rattle.text.specs.Laws.Put.{put-part}
use Rattle.text.proofs.put_text.Goals as goal

pub returns : goal.returns
returns c = put-part c.copy_from_slice.ensures.after refl c.requires
