-- `study::head` meets its contract: the field 2 bytes on in the link.
use borrow.Author.Rules.{rules}
use Rattle.study.specs.Fields.{head}
use Rattle.study.proofs.fields.head.Goals as goal

pub returns : goal.returns
unfolding head
returns c = search rules
