-- `network::decode_trips` meets its contract: the entries before i are read.
use lib.ListN.{length}
use Prim.Native.Nat.{◌≤◌, ◌-◌}
use Rattle.study.specs.Fields.{trips as trips_of}
use Rattle.theory.specs.Finite.{tabulate}
use Rattle.network.specs.Decoded.{Holds}
use Rattle.network.proofs.decoding.decode_trips.Given as goal

abbrev pub invariant-loop-i : goal.invariant-loop-i
invariant-loop-i l = (l.i ≤ l.entries) × Holds (length l.initial.trips) (tabulate l.i (trips_of l.bytes l.entries 0)) l.trips

abbrev pub decreases-loop-i : goal.decreases-loop-i
decreases-loop-i l = l.entries - l.i
