-- `network::packing::packed_end` meets its contract: the place is where the next section begins.
use borrow.Author.Rules.{rules}
use mathlib.Core.Path.{◌≡◌}
use native.Mathlib.Omega.{arith}
use Rattle.calls.specs.Laws.Pack.{place-first, place-more, place-most}
use Rattle.network.proofs.packing.packed_end.Goals as goal

pub loop-section-init : goal.loop-section-init
loop-section-init c = (search rules, rw c.form_of-form.ensures (place-first _ _ _ _))

pub section_size-place-requires : goal.section_size-place-requires
section_size-place-requires c = c.requires

pub overflow_add-place : goal.overflow_add-place
overflow_add-place c =
    let bounds = c.requires.1 in
    let below = rw c.form_of-form.ensures at c.loop-section.invariant.0 in
    omega (arith, place-most c.requires.0 bounds.0 bounds.1 bounds.2 c.loop-section.section below)

pub loop-section-preserved : goal.loop-section-preserved
loop-section-preserved c = (search rules, place-more _ _ _ _ _ c.loop-section.invariant.1 c.section_size-place.ensures.0)

pub returns : goal.returns
returns c =
    let last : c.loop-section.section ≡ c.form_of-form.result.sections = omega arith in
    rw (last, c.form_of-form.ensures) at c.loop-section.invariant.1
