-- `study::versions::section_size` meets its contract.
use Prim.Native.Nat.{ℕ, ◌*◌, ◌≤◌, ◌<◌}
use mathlib.Core.List.{[], ◌∷◌}
use mathlib.Core.Path.{◌≡◌, sym, ◌∙◌, ap}
use lib.ListN.{get_or}
use native.Mathlib.Nat.{le_of_lt, mul-le-mul, mul-le-mul_left}
use native.Mathlib.Omega.{arith}
use Rattle.study.specs.Versions.{form_of, section_size}
use Rattle.study.specs.Laws.{known, size_none, size-there, size-trips}
use Rattle.study.proofs.versions.section_size.Goals as goal
use Rattle.study.proofs.versions.section_size.Goals.{Else-form-section}

-- A section that the version has.
there : (c : Else-form-section) → c.args.section < (form_of c.args.version).sections
there c = rw (← c.form_of-form.ensures) c.if-form-section.false

-- The numbers of the sections, at most six.
few : (c : Else-form-section) → (form_of c.args.version).sections ≤ 6
few c = (known _ c.requires.0 c.requires.1).some-sections.1

-- The length of the section of a number.
at-section : (c : Else-form-section) (number : ℕ) → c.args.section ≡ number →
    let x = c.args in
    section_size x.version x.n x.m x.p x.section
    ≡ get_or ((form_of x.version).link * x.m ∷ 2 * x.p ∷ 2 * x.p * x.n ∷ x.n ∷ 2 * x.p * x.n ∷ x.m ∷ []) number 0
at-section c number e =
    let x = c.args in
    size-there x.version x.n x.m x.p x.section (there c)
    ∙ ap (λ i. get_or ((form_of x.version).link * x.m ∷ 2 * x.p ∷ 2 * x.p * x.n ∷ x.n ∷ 2 * x.p * x.n ∷ x.m ∷ []) i 0) e

pub returns-then-form-section : goal.returns-then-form-section
returns-then-form-section c =
    sym (size_none c.args.version c.args.n c.args.m c.args.p c.args.section (rw (← c.form_of-form.ensures) c.if-form-section.true))

pub overflow_mul-result : goal.overflow_mul-result
overflow_mul-result c =
    let few_bytes : c.form_of-form.result.link ≤ 12 =
    rw c.form_of-form.ensures (known _ c.requires.0 c.requires.1).link-bytes.1 in
    omega (arith, mul-le-mul few_bytes (le_of_lt c.requires.3))

pub returns-then-section-eq0 : goal.returns-then-section-eq0
returns-then-section-eq0 c =
    ap (λ form. form.link * c.args.m) c.form_of-form.ensures
    ∙ sym (at-section (goal.at.returns-then-section-eq0 c).Else-form-section 0 c.if-section-eq0.true)

pub returns-then-section-eq1 : goal.returns-then-section-eq1
returns-then-section-eq1 c = sym (at-section (goal.at.returns-then-section-eq1 c).Else-form-section 1 c.if-section-eq1.true)

pub returns-then-section-eq3 : goal.returns-then-section-eq3
returns-then-section-eq3 c = sym (at-section (goal.at.returns-then-section-eq3 c).Else-form-section 3 c.if-section-eq3.true)

pub returns-then-section-eq5 : goal.returns-then-section-eq5
returns-then-section-eq5 c = sym (at-section (goal.at.returns-then-section-eq5 c).Else-form-section 5 c.if-section-eq5.true)

pub overflow_mul-result-3 : goal.overflow_mul-result-3
overflow_mul-result-3 c =
    omega (arith, mul-le-mul_left (2 * c.args.p) (le_of_lt c.requires.2))

pub returns : goal.returns
returns c =
    sym (size-trips _ _ _ _ _ (there (goal.at.returns c).Else-form-section) (few (goal.at.returns c).Else-form-section) c.if-section-eq0.false c.if-section-eq1.false c.if-section-eq3.false c.if-section-eq5.false)
