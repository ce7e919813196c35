-- `network::decoding::decode_lorries` meets its contract: the array holds the commodities of cars, and then the first k of lorries.
use mathlib.Core.List.{◌++◌}
use Prim.Native.Nat.{◌≤◌, ◌-◌}
use Rattle.network.specs.Decoded.{Holds, nodes_in, lorries_in}
use Rattle.network.proofs.decoding.decode_lorries.Given as goal

abbrev pub invariant-loop-k : goal.invariant-loop-k
invariant-loop-k l = (l.k ≤ l.lorries) × Holds 64 (nodes_in l.bytes l.p ++ lorries_in l.bytes l.k) l.commodities

abbrev pub decreases-loop-k : goal.decreases-loop-k
decreases-loop-k l = l.lorries - l.k
