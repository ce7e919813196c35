-- `study::questions::length_fits` meets its contract.
use borrow.Author.Rules.{rules}
use Rattle.study.specs.Questions.{length_fits}
use Rattle.study.proofs.questions.length_fits.Goals as goal

pub returns : goal.returns
unfolding length_fits
returns c = search rules
