-- `report::write_accepted` meets its contract: the arrays of totals and times hold what the definitions say of the study's network.
use mathlib.Core.Path.{refl}
use mathlib.Core.Logic.{inr}
use borrow.Author.Rules.{rules}
use Rattle.network.specs.Laws.Decoding.{room_most, links-counted}
use Rattle.travel.specs.Laws.Padded.{zeros-clear}
use Rattle.travel.specs.Laws.Powers.{link-powers}
use Rattle.report.specs.Laws.Links.{rows-there, lists-there, times-there, listed_same}
use Rattle.report.specs.Laws.Printed.{written_as}
use Rattle.report.proofs.write_accepted.Goals as goal

pub decode-opening-requires : goal.decode-opening-requires
decode-opening-requires c = (room_most _ refl refl, search rules)

pub totals-flows-requires : goal.totals-flows-requires
totals-flows-requires c = rows-there _ _ _ c.requires.0 c.decode-opening.ensures

pub put_powers-requires : goal.put_powers-requires
put_powers-requires c = inr refl

pub slice_bounds-rows-end : goal.slice_bounds-rows-end
slice_bounds-rows-end c = c.decode-opening.ensures.links-within

pub slice_bounds-times-end : goal.slice_bounds-times-end
slice_bounds-times-end c = links-counted c.decode-opening.ensures

pub times-requires : goal.times-requires
times-requires c =
    record { links_fit = times-there _ _ _ c.requires.0 c.decode-opening.ensures c.totals-flows.ensures.0; link_powers = (link-powers (lists-there _ _ _ c.requires.0 c.decode-opening.ensures) c.put_powers.ensures, zeros-clear _) }

pub write_listing-requires : goal.write_listing-requires
write_listing-requires c =
    let pre = c.requires in
    record { m_bound = (rows-there _ _ _ pre.0 c.decode-opening.ensures).1; in_bounds = pre.1 }

pub returns : goal.returns
returns c =
    written_as
    (listed_same _ _ _ c.requires.0 c.decode-opening.ensures c.totals-flows.ensures.0 _ refl c.times.ensures.times_after)
    (c.write_listing.ensures.value, c.write_listing.ensures.out_after)
