-- `study::link_count` meets its contract.
use borrow.Author.Rules.{rules}
use Rattle.study.specs.Header.{link_field}
use Rattle.study.specs.Sections.{links}
use Rattle.study.proofs.sections.link_count.Goals as goal

pub returns : goal.returns
unfolding link_field links
returns c = search rules
