-- `network::packing::write_bytes` meets its contract: the first i bytes are written.
use lib.ListN.{length, take}
use mathlib.Core.Path.{◌≡◌}
use Prim.Native.Nat.{◌≤◌, ◌-◌}
use Rattle.network.specs.Written.{written}
use Rattle.network.proofs.packing.write_bytes.Given as goal

abbrev pub invariant-loop-i : goal.invariant-loop-i
invariant-loop-i l =
    (l.i ≤ length l.bytes) × (l.output ≡ written l.at (take l.i l.bytes) l.initial.output) × (length l.output ≡ length l.initial.output)

abbrev pub decreases-loop-i : goal.decreases-loop-i
decreases-loop-i l = length l.bytes - l.i
