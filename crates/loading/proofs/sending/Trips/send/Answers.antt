-- These are the definitions.
use Rattle.std.proofs.Common.{refl}
use Rattle.loading.specs.Sending.{waiting_after, volumes_after}
use Rattle.loading.proofs.sending.Trips.send.Goals as goal

pub returns : goal.returns
unfolding waiting_after volumes_after
returns c = record { trips = refl; volume = refl }
