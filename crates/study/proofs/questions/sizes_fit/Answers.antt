-- `study::questions::sizes_fit` meets its contract. The loop's invariant: the sections before this one have the version's lengths. The measure is
-- what is left of them.
use borrow.Author.Tests.{eq-eqb, ne_eqb}
use mathlib.Core.Path.{◌≡◌, refl, sym, ◌∙◌, ap}
use native.Mathlib.Omega.{arith}
use Rattle.study.specs.Versions.{form_of, section_size}
use Rattle.study.specs.Header.{version, node_field, link_field, destination_field}
use Rattle.study.specs.Questions.{each_section, sizes_fit}
use Rattle.study.specs.Laws.{known, each-no, each_more}
use Rattle.study.proofs.questions.sizes_fit.Goals as goal
use Rattle.study.proofs.questions.sizes_fit.Goals.{After-section_size}

pub loop-section-init : goal.loop-section-init
unfolding each_section
loop-section-init c = (ap (λ form. form.sections) c.form_of-sections.ensures ∙ ap (λ v. (form_of v).sections) c.version.ensures, omega arith, refl)

pub size-requires : goal.size-requires
size-requires c =
    (c.requires, omega (arith, c.loop-section.invariant.0, (known _ c.requires.version-least c.requires.version-most).some-sections))

pub section_size-requires : goal.section_size-requires
section_size-requires c = (
  rw c.version-in-loop-section.ensures c.requires.version-least,
  rw c.version-in-loop-section.ensures c.requires.version-most,
  c.node_field-n.ensures.1,
  c.link_field-m.ensures.1,
  c.destination_field-p.ensures.1,
)

-- The length that the version wants of the section.
wanted : (c : After-section_size) →
    let file = c.args.file.now in
    c.section_size.result ≡ section_size (version file) (node_field file) (link_field file) (destination_field file) c.loop-section.section
wanted c =
    rw (← c.version-in-loop-section.ensures, ← c.node_field-n.ensures.0, ← c.link_field-m.ensures.0, ← c.destination_field-p.ensures.0)
    c.section_size.ensures

pub returns-then-size-section_size : goal.returns-then-size-section_size
unfolding sizes_fit
returns-then-size-section_size c =
    let file = c.args.file.now in
    sym
    (each-no (form_of (version file)).sections _ c.loop-section.section (omega (arith, c.loop-section.invariant.0, c.loop-section-test.true))
    (ne_eqb _ _ (λ same. c.if-size-section_size.true (c.size.ensures.0 ∙ same ∙ sym (wanted (goal.at.returns-then-size-section_size c).After-section_size)))))

pub loop-section-preserved : goal.loop-section-preserved
loop-section-preserved c =
    let file = c.args.file.now in (
      c.loop-section.invariant.0,
      omega arith,
      each_more c.loop-section.section _ c.loop-section.invariant.2 (eq-eqb _ _ (sym c.size.ensures.0 ∙ c.if-size-section_size.false ∙ wanted (goal.at.loop-section-preserved c).After-section_size)),
    )

pub returns : goal.returns
unfolding sizes_fit
returns c =
    let inv = c.loop-section.invariant in
    let all : c.loop-section.section ≡ (form_of (version c.args.file.now)).sections = omega (arith, inv.0) in
    sym (rw all at inv.2)
