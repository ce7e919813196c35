-- `study::header::has_section` meets its contract.
use Rattle.study.specs.Header.{has_section}
use Rattle.study.proofs.header.has_section.Goals as goal

pub returns : goal.returns
unfolding has_section
returns c = cc
