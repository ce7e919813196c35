-- `study::questions::version_known` meets its contract.
use Rattle.study.specs.Questions.{version_known}
use Rattle.study.specs.Versions.{versions}
use Rattle.study.proofs.questions.version_known.Goals as goal

pub returns : goal.returns
unfolding version_known versions
returns c = cc
