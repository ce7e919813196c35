-- `study::header::link_field` meets its contract: the field is the u16 at its place.
use borrow.Author.Rules.{rules}
use Rattle.study.specs.Header.{link_field}
use Rattle.study.proofs.header.link_field.Goals as goal

pub returns : goal.returns
unfolding link_field
returns c = search rules
