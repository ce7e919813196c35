-- The invariant of `volumes`: each node's final volume is what all trips make it. The measure is the links that the waiting trips have still to go
-- by.
use Rattle.std.proofs.Common.{◌≡◌, get_or}
use Rattle.loading.specs.Along.{volumes_along}
use Rattle.loading.specs.Sending.{links_ahead, final_volumes, Sending}
use Rattle.loading.proofs.sending.volumes.Given as goal

abbrev pub invariant-loop-next_links : goal.invariant-loop-next_links
invariant-loop-next_links l =
    Sending l.nodes l.links l.next l.on_way.waiting l.on_way.volumes
    × (final_volumes l.nodes l.links l.next l.on_way.waiting l.on_way.volumes ≡ volumes_along l.nodes l.links l.next (λ j. get_or l.trips j 0))

abbrev pub decreases-loop-next_links : goal.decreases-loop-next_links
decreases-loop-next_links l = links_ahead l.nodes l.links l.next l.on_way.waiting
