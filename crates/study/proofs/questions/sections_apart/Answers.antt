-- `study::questions::sections_apart` meets its contract. The loop's invariant: the sections before this one end at or before the next offset. The
-- measure is what is left of them.
use Prim.Native.Nat.{◌+◌, ◌≤◌, ◌<◌}
use borrow.Author.Tests.{le-leb, lt-leb}
use mathlib.Core.Path.{◌≡◌, refl, sym, ◌∙◌, ap}
use native.Mathlib.Omega.{arith}
use lib.Dec.{leb}
use Rattle.study.specs.Versions.{form_of}
use Rattle.study.specs.Header.{version, offset}
use Rattle.study.specs.Questions.{section_end, each_section, sections_apart}
use Rattle.study.specs.Laws.{known, each-no, each_more}
use Rattle.study.proofs.questions.sections_apart.Goals as goal

pub loop-section-init : goal.loop-section-init
unfolding each_section
loop-section-init c = (ap (λ form. form.sections) c.form_of-sections.ensures ∙ ap (λ v. (form_of v).sections) c.version.ensures, omega arith, refl)

pub offset-requires : goal.offset-requires
offset-requires c =
    let inv = c.loop-section.invariant in
    (c.requires, omega (arith, inv.0, (known _ c.requires.version-least c.requires.version-most).some-sections))

pub section_end-requires : goal.section_end-requires
section_end-requires c =
    let inv = c.loop-section.invariant in
    (c.requires, omega (arith, inv.0, (known _ c.requires.version-least c.requires.version-most).some-sections))

pub returns-then-offset-section_end : goal.returns-then-offset-section_end
unfolding sections_apart
returns-then-offset-section_end c =
    let file = c.args.file.now in
    let inside = c.loop-section-test.true in
    let past : offset file (c.loop-section.section + 1) < section_end file c.loop-section.section =
    omega (arith, c.offset.ensures.0, c.section_end.ensures, c.if-offset-section_end.true) in
    sym
    (each-no (form_of (version file)).sections (λ s. leb (section_end file s) (offset file (s + 1))) c.loop-section.section (omega (arith, c.loop-section.invariant.0))
    (lt-leb _ _ past))

pub loop-section-preserved : goal.loop-section-preserved
loop-section-preserved c =
    let file = c.args.file.now in
    let near : section_end file c.loop-section.section ≤ offset file (c.loop-section.section + 1) =
    omega (arith, c.offset.ensures.0, c.section_end.ensures, c.if-offset-section_end.false) in (
      c.loop-section.invariant.0,
      omega arith,
      each_more c.loop-section.section (λ s. leb (section_end file s) (offset file (s + 1))) c.loop-section.invariant.2 (le-leb _ _ near),
    )

pub returns : goal.returns
unfolding sections_apart
returns c =
    let inv = c.loop-section.invariant in
    let all : c.loop-section.section ≡ (form_of (version c.args.file.now)).sections = omega (arith, inv.0) in
    sym (rw all at inv.2)
