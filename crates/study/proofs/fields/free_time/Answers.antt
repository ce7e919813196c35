-- `study::free_time` meets its contract: the field 4 bytes on in the link.
use borrow.Author.Rules.{rules}
use Rattle.study.specs.Fields.{free_time}
use Rattle.study.proofs.fields.free_time.Goals as goal

pub returns : goal.returns
unfolding free_time
returns c = search rules
