-- `study::questions::sizes_fit` meets its contract. The loop's invariant: the sections before this one have the version's lengths. The measure is
-- what is left of them.
use Prim.Native.Nat.{◌-◌, ◌≤◌}
use mathlib.Core.Bool.{true}
use mathlib.Core.Path.{◌≡◌}
use lib.Dec.{eqb}
use Rattle.study.specs.Versions.{form_of, section_size}
use Rattle.study.specs.Header.{version, node_field, link_field, destination_field, size}
use Rattle.study.specs.Questions.{each_section}
use Rattle.study.proofs.questions.sizes_fit.Given as goal

abbrev pub invariant-loop-section : goal.invariant-loop-section
invariant-loop-section l =
    (l.sections ≡ (form_of (version l.file)).sections)
    × (l.section ≤ l.sections)
    × (each_section l.section (λ s. eqb (size l.file s) (section_size (version l.file) (node_field l.file) (link_field l.file) (destination_field l.file) s)) ≡ true)

abbrev pub decreases-loop-section : goal.decreases-loop-section
decreases-loop-section l = l.sections - l.section
