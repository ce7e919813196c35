-- `network::check_in` meets its contract: questions 1 to 5 of the file, and then those of its study.
use borrow.Author.Rules.{rules}
use borrow.Author.Tests.{ltb-true}
use mathlib.Core.Path.{sym, ◌∙◌}
use native.Mathlib.Omega.{arith}
use Rattle.network.specs.Laws.Decoding.{trips-few, links-counted, commodities-counted, destinations-counted, trips-counted, decoded-closed, decoded-fourth}
use Rattle.network.specs.Laws.Checking.{check-refused, decoded-sized, decoded-commodities, check-decoded}
use Rattle.network.proofs.checking.check_in.Goals as goal

pub returns-then-refusal-ne0 : goal.returns-then-refusal-ne0
returns-then-refusal-ne0 c =
    let decoded = c.decode-opening.ensures in
    decoded.refusal_is ∙ sym (check-refused _ (λ e. c.if-refusal-ne0.true (decoded.refusal_is ∙ e)))

pub slice_bounds-places-end : goal.slice_bounds-places-end
slice_bounds-places-end c = c.decode-opening.ensures.commodities-within

pub slice_bounds-commodities-end : goal.slice_bounds-commodities-end
slice_bounds-commodities-end c = commodities-counted c.decode-opening.ensures

pub slice_bounds-destinations-end : goal.slice_bounds-destinations-end
slice_bounds-destinations-end c = destinations-counted c.decode-opening.ensures

pub overflow_mul-entries : goal.overflow_mul-entries
overflow_mul-entries c = omega (arith, trips-few c.decode-opening.ensures)

pub slice_bounds-study_refusal-end-2 : goal.slice_bounds-study_refusal-end-2
slice_bounds-study_refusal-end-2 c = links-counted c.decode-opening.ensures

pub slice_bounds-study_refusal-end-3 : goal.slice_bounds-study_refusal-end-3
slice_bounds-study_refusal-end-3 c = c.decode-opening.ensures.trips-within

pub slice_bounds-study_refusal-end-4 : goal.slice_bounds-study_refusal-end-4
slice_bounds-study_refusal-end-4 c = trips-counted c.decode-opening.ensures

pub study_refusal-requires : goal.study_refusal-requires
study_refusal-requires c =
    let decoded = c.decode-opening.ensures in record { sized = (decoded-sized decoded, rw c.accepted_section.ensures (decoded-closed decoded)); destinations_len_bound = decoded-commodities decoded; all_fourth = λ short. decoded-fourth decoded (rw c.link_size.ensures at (ltb-true c.link_size.result 12 short)) }

pub returns : goal.returns
returns c =
    let decoded = c.decode-opening.ensures in
    check-decoded decoded c.if-refusal-ne0.false c.accepted_section.ensures c.accepted_section-2.ensures c.study_refusal.ensures
