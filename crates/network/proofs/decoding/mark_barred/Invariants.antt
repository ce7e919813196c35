-- `network::decoding::mark_barred` meets its contract. The loop's invariant: the rows of the links below `l` have their marks. The measure is what
-- is left of the links.
use Prim.Native.Nat.{◌≤◌, ◌-◌}
use Rattle.network.specs.Decoded.{Changed, barred_marked}
use Rattle.network.proofs.decoding.mark_barred.Given as goal

abbrev pub invariant-loop-l : goal.invariant-loop-l
invariant-loop-l l = (l.l ≤ l.m) × Changed (barred_marked l.barred) l.l l.initial.links l.links

abbrev pub decreases-loop-l : goal.decreases-loop-l
decreases-loop-l l = l.m - l.l
