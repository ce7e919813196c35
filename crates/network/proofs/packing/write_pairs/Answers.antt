-- `network::packing::write_pairs` meets its contract: the pairs of the first sections are written.
use borrow.Author.Rules.{rules}
use mathlib.Core.Path.{◌≡◌, refl, ◌∙◌, ap₂}
use mathlib.Core.List.{◌++◌}
use native.Mathlib.Omega.{arith}
use Prim.Native.Nat.{◌+◌, ◌*◌, ◌<◌}
use Rattle.study.specs.Versions.{form_of}
use Rattle.calls.specs.Pack.{bytes32}
use Rattle.network.specs.Written.{pair_bytes}
use Rattle.calls.specs.Laws.Pack.{pair_of, pair-long, pairs-long, place-first, place-more, place-most}
use Rattle.network.specs.Laws.Packing.{rows_none, rows_more}
use Rattle.network.proofs.packing.write_pairs.Goals as goal
use Rattle.network.proofs.packing.write_pairs.Goals.{In-loop-section}

-- The section is one of the version's.
below : (c : In-loop-section) → c.loop-section.section < (form_of c.args.version).sections
below c = rw c.form_of-form.ensures at c.loop-section-test.true

pub form_of-form-requires : goal.form_of-form-requires
form_of-form-requires c = let known = c.requires.0 in (known.least, known.most)

pub loop-section-init : goal.loop-section-init
loop-section-init c = (search rules, rw c.form_of-form.ensures (place-first _ _ _ _), rows_none _ _ _, refl)

pub section_size-size-requires : goal.section_size-size-requires
section_size-size-requires c = (c.requires.0, c.requires.2)

pub overflow_mul-section : goal.overflow_mul-section
overflow_mul-section c = omega (arith, below (goal.at.overflow_mul-section c).In-loop-section, c.requires.0)

pub overflow_add-section : goal.overflow_add-section
overflow_add-section c = omega (arith, below (goal.at.overflow_add-section c).In-loop-section, c.requires.0)

pub write_pair-requires : goal.write_pair-requires
write_pair-requires c = omega (arith, below (goal.at.write_pair-requires c).In-loop-section, c.requires.0.pairs, c.requires.1, c.loop-section.invariant.3)

pub overflow_add-place : goal.overflow_add-place
overflow_add-place c =
    let bounds = c.requires.2 in
    omega (arith, place-most c.requires.0 bounds.0 bounds.1 bounds.2 c.loop-section.section (omega (arith, below (goal.at.overflow_add-place c).In-loop-section)), c.loop-section.invariant.1, c.section_size-size.ensures.1)

pub loop-section-preserved : goal.loop-section-preserved
loop-section-preserved c =
    let x = c.args in
    let turn = c.loop-section in
    let sized = c.section_size-size.ensures.0 in (
      omega arith,
      place-more _ _ _ _ _ turn.invariant.1 sized,
      rows_more 8 (pair_of x.version x.n x.m x.p) x.output.now turn.section (8 + 8 * turn.section)
          (omega (arith, pairs-long x.version x.n x.m x.p turn.section))
          (omega (arith, pair-long x.version x.n x.m x.p turn.section, below (goal.at.loop-section-preserved c).In-loop-section, c.requires.0.pairs, c.requires.1))
          (ap₂ (λ place size. bytes32 place ++ bytes32 size) turn.invariant.1 sized)
          turn.invariant.2
          c.write_pair.ensures,
      c.write_pair.auto.output ∙ turn.invariant.3,
    )

pub shape_of-output : goal.shape_of-output
shape_of-output c = c.loop-section.invariant.3

pub returns : goal.returns
unfolding pair_bytes
returns c =
    let last : c.loop-section.section ≡ c.form_of-form.result.sections = omega arith in
    rw (last, c.form_of-form.ensures) at c.loop-section.invariant.2
