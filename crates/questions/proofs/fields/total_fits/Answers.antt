-- `questions::questions::total_fits` meets its contract.
use Rattle.questions.proofs.fields.total_fits.Goals as goal

pub returns : goal.returns
returns c = rw c.total_trips.ensures
