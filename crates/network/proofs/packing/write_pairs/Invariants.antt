-- `network::packing::write_pairs` meets its contract: the pairs of the first sections are written.
use mathlib.Core.Path.{◌≡◌}
use lib.ListN.{length}
use Prim.Native.Nat.{◌≤◌, ◌-◌}
use Rattle.theory.specs.Finite.{rows}
use Rattle.calls.specs.Pack.{section_place}
use Rattle.network.specs.Written.{written}
use Rattle.calls.specs.Laws.Pack.{pair_of}
use Rattle.network.proofs.packing.write_pairs.Given as goal

abbrev pub invariant-loop-section : goal.invariant-loop-section
invariant-loop-section l =
    (l.section ≤ l.sections)
    × (l.place ≡ section_place l.version l.n l.m l.p l.section)
    × (l.output ≡ written 8 (rows l.section (pair_of l.version l.n l.m l.p)) l.initial.output)
    × (length l.output ≡ length l.initial.output)

abbrev pub decreases-loop-section : goal.decreases-loop-section
decreases-loop-section l = l.sections - l.section
