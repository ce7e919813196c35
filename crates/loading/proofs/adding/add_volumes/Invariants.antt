-- The invariant of `add_volumes`: the volumes of the nodes passed are added.
use Rattle.std.proofs.Common.{◌≡◌, length}
use Rattle.loading.specs.Along.{scattered}
use Rattle.loading.proofs.adding.add_volumes.Given as goal

abbrev pub invariant-loop-l : goal.invariant-loop-l
invariant-loop-l l = l.row ≡ scattered (length l.yielded) l.m l.next l.volumes l.weight l.initial.row
