-- `network::decode_links` meets its contract.
use mathlib.Core.List.{[]}
use lib.ListN.{length}
use Prim.Native.Nat.{◌≤◌, ◌-◌}
use Rattle.network.specs.Decoded.{Holds, link_rows_in}
use Rattle.network.proofs.decoding.decode_links.Given as goal

abbrev pub invariant-loop-l : goal.invariant-loop-l
invariant-loop-l l = (l.l ≤ l.m) × Holds (length l.initial.links) (link_rows_in l.bytes l.size [] [] l.l) l.links

abbrev pub decreases-loop-l : goal.decreases-loop-l
decreases-loop-l l = l.m - l.l
