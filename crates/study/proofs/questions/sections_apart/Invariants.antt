-- `study::questions::sections_apart` meets its contract. The loop's invariant: the sections before this one end at or before the next offset. The
-- measure is what is left of them.
use Prim.Native.Nat.{◌+◌, ◌-◌, ◌≤◌}
use mathlib.Core.Bool.{true}
use mathlib.Core.Path.{◌≡◌}
use lib.Dec.{leb}
use Rattle.study.specs.Versions.{form_of}
use Rattle.study.specs.Header.{version, offset}
use Rattle.study.specs.Questions.{section_end, each_section}
use Rattle.study.proofs.questions.sections_apart.Given as goal

abbrev pub invariant-loop-section : goal.invariant-loop-section
invariant-loop-section l =
    (l.sections ≡ (form_of (version l.file)).sections)
    × (l.section ≤ l.sections)
    × (each_section l.section (λ s. leb (section_end l.file s) (offset l.file (s + 1))) ≡ true)

abbrev pub decreases-loop-section : goal.decreases-loop-section
decreases-loop-section l = l.sections - l.section
