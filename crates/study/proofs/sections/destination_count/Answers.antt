-- `study::destination_count` meets its contract.
use borrow.Author.Rules.{rules}
use Rattle.study.specs.Header.{destination_field}
use Rattle.study.specs.Sections.{destinations}
use Rattle.study.proofs.sections.destination_count.Goals as goal

pub returns : goal.returns
unfolding destination_field destinations
returns c = search rules
