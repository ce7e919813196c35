-- `network::packing::write_sections` meets its contract: the first sections are written.
use borrow.Author.Rules.{rules}
use mathlib.Core.Path.{◌≡◌, refl, ◌∙◌, ap}
use lib.ListN.{length}
use native.Mathlib.Omega.{arith}
use Prim.Native.Nat.{◌+◌, ◌≤◌, ◌<◌}
use Rattle.study.specs.Header.{version}
use Rattle.study.specs.Laws.{accepted}
use Rattle.study.specs.Sections.{part}
use Rattle.study.specs.Versions.{form_of}
use Rattle.theory.specs.Finite.{rows}
use Rattle.network.specs.Written.{section_bytes}
use Rattle.network.specs.Laws.Packing.{rows_none, rows_more, rows-longer, section-fits}
use Rattle.network.proofs.packing.write_sections.Goals as goal
use Rattle.network.proofs.packing.write_sections.Goals.{In-loop-section}

-- The section is one of the version's,
below : (c : In-loop-section) → c.loop-section.section < (form_of (version c.args.file.now)).sections
below c = rw (c.form_of-form.ensures, c.version.ensures) at c.loop-section-test.true

-- and ends within the output.
fits : (c : In-loop-section) → c.loop-section.place + length (part c.args.file.now c.loop-section.section) ≤ length c.args.output.now
fits c = omega (arith, c.loop-section.invariant.1, section-fits c.args.file.now c.loop-section.section (below c), c.requires.1)

pub version-requires : goal.version-requires
version-requires c = (accepted _ c.requires.0).length-least

pub form_of-form-requires : goal.form_of-form-requires
form_of-form-requires c = let known = (accepted _ c.requires.0).version-known in rw c.version.ensures (known.least, known.most)

pub loop-section-init : goal.loop-section-init
unfolding rows
loop-section-init c = (search rules, rw (c.form_of-form.ensures, c.version.ensures) (omega arith), rows_none _ (part c.args.file.now) _, refl)

pub accepted_section-bytes-requires : goal.accepted_section-bytes-requires
accepted_section-bytes-requires c = let known = (accepted _ c.requires.0).version-known in (c.requires.0, omega (arith, below (goal.at.accepted_section-bytes-requires c).In-loop-section, known.some-sections))

pub write_bytes-requires : goal.write_bytes-requires
write_bytes-requires c = omega (arith, fits (goal.at.write_bytes-requires c).In-loop-section, ap length c.accepted_section-bytes.ensures, c.loop-section.invariant.3)

pub overflow_add-place : goal.overflow_add-place
overflow_add-place c = omega (arith, fits (goal.at.overflow_add-place c).In-loop-section, ap length c.accepted_section-bytes.ensures)

pub loop-section-preserved : goal.loop-section-preserved
loop-section-preserved c =
    let x = c.args in
    let turn = c.loop-section in
    let read = c.accepted_section-bytes.ensures in (
      omega arith,
      omega (arith, turn.invariant.1, ap length read, rows-longer turn.section (part x.file.now)),
      rows_more (form_of (version x.file.now)).header (part x.file.now) x.output.now turn.section turn.place turn.invariant.1 (fits (goal.at.loop-section-preserved c).In-loop-section) read turn.invariant.2
          c.write_bytes.ensures,
      c.write_bytes.auto.output ∙ turn.invariant.3,
    )

pub shape_of-output : goal.shape_of-output
shape_of-output c = c.loop-section.invariant.3

pub returns : goal.returns
unfolding section_bytes
returns c =
    let last : c.loop-section.section ≡ c.form_of-form.result.sections = omega arith in
    rw (last, c.form_of-form.ensures, c.version.ensures) at c.loop-section.invariant.2
