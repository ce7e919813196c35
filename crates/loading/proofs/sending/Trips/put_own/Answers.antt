-- At first no trips are written.
use Rattle.std.proofs.Common.{refl}
use Rattle.loading.specs.Laws.Sending.{own-none}
use Rattle.loading.proofs.sending.Trips.put_own.Goals as goal

pub loop-j-init : goal.loop-j-init
loop-j-init c = (rw c.requires.1 (own-none c.args.trips.now), refl)
