-- `study::header::version` meets its contract: the field is the u16 at its place.
use borrow.Author.Rules.{rules}
use Rattle.study.specs.Header.{version}
use Rattle.study.proofs.header.version.Goals as goal

pub returns : goal.returns
unfolding version
returns c = search rules
