-- `study::node_count` meets its contract.
use borrow.Author.Rules.{rules}
use Rattle.study.specs.Header.{node_field}
use Rattle.study.specs.Sections.{nodes}
use Rattle.study.proofs.sections.node_count.Goals as goal

pub returns : goal.returns
unfolding node_field nodes
returns c = search rules
