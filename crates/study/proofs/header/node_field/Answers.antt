-- `study::header::node_field` meets its contract: the field is the u16 at its place.
use borrow.Author.Rules.{rules}
use Rattle.study.specs.Header.{node_field}
use Rattle.study.proofs.header.node_field.Goals as goal

pub returns : goal.returns
unfolding node_field
returns c = search rules
