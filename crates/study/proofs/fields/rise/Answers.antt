-- `study::rise` meets its contract: the field 6 bytes on in the link.
use borrow.Author.Rules.{rules}
use Rattle.study.specs.Fields.{rise}
use Rattle.study.proofs.fields.rise.Goals as goal

pub returns : goal.returns
unfolding rise
returns c = search rules
