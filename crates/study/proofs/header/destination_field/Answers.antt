-- `study::header::destination_field` meets its contract: the field is the u16 at its place.
use borrow.Author.Rules.{rules}
use Rattle.study.specs.Header.{destination_field}
use Rattle.study.proofs.header.destination_field.Goals as goal

pub returns : goal.returns
unfolding destination_field
returns c = search rules
