-- `network::packing::write_sections` meets its contract: the first sections are written.
use mathlib.Core.Path.{◌≡◌}
use lib.ListN.{length}
use Prim.Native.Nat.{◌+◌, ◌≤◌, ◌-◌}
use Rattle.study.specs.Header.{version}
use Rattle.study.specs.Sections.{part}
use Rattle.study.specs.Versions.{form_of}
use Rattle.theory.specs.Finite.{rows}
use Rattle.network.specs.Written.{written}
use Rattle.network.proofs.packing.write_sections.Given as goal

abbrev pub invariant-loop-section : goal.invariant-loop-section
invariant-loop-section l =
    (l.section ≤ l.sections)
    × (l.place ≡ (form_of (version l.file)).header + length (rows l.section (part l.file)))
    × (l.output ≡ written (form_of (version l.file)).header (rows l.section (part l.file)) l.initial.output)
    × (length l.output ≡ length l.initial.output)

abbrev pub decreases-loop-section : goal.decreases-loop-section
decreases-loop-section l = l.sections - l.section
