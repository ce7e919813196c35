-- `network::decode_destinations` meets its contract: the array holds the first k nodes.
use Prim.Native.Nat.{◌≤◌, ◌-◌}
use Rattle.network.specs.Decoded.{Holds, nodes_in}
use Rattle.network.proofs.decoding.decode_destinations.Given as goal

abbrev pub invariant-loop-k : goal.invariant-loop-k
invariant-loop-k l = (l.k ≤ l.p) × Holds 64 (nodes_in l.bytes l.k) l.commodities

abbrev pub decreases-loop-k : goal.decreases-loop-k
decreases-loop-k l = l.p - l.k
