-- `network::packing::packed_end` meets its contract: the place is where the next section begins.
use mathlib.Core.Path.{◌≡◌}
use Prim.Native.Nat.{◌≤◌, ◌-◌}
use Rattle.calls.specs.Pack.{section_place}
use Rattle.network.proofs.packing.packed_end.Given as goal

abbrev pub invariant-loop-section : goal.invariant-loop-section
invariant-loop-section l = (l.section ≤ l.sections) × (l.place ≡ section_place l.version l.n l.m l.p l.section)

abbrev pub decreases-loop-section : goal.decreases-loop-section
decreases-loop-section l = l.sections - l.section
