-- `study::capacity` meets its contract: the field 8 bytes on in the link.
use borrow.Author.Rules.{rules}
use Rattle.study.specs.Fields.{capacity}
use Rattle.study.proofs.fields.capacity.Goals as goal

pub returns : goal.returns
unfolding capacity
returns c = search rules
