-- `passes::pass` meets its contract: there is room for the file in the places that it lends.
use mathlib.Core.Path.{refl, sym, ◌∙◌}
use Rattle.network.specs.Laws.Decoding.{room_most, room-cars, room-short}
use Rattle.refusals.specs.Laws.Places.{small-length, small-curves, curves-most, curves-counted}
use Rattle.passes.proofs.passing.pass.Goals as goal

pub pass_in-requires : goal.pass_in-requires
pass_in-requires c =
    let small = sym c.is_small.ensures ∙ c.if-is_small.true in
    (room-short _ (small-length _ small) refl refl, small-curves _ small)

pub slice_bounds-curves-end : goal.slice_bounds-curves-end
slice_bounds-curves-end c = rw c.curve_places.ensures (curves-most _)

pub slice_bounds-curves-end-2 : goal.slice_bounds-curves-end-2
slice_bounds-curves-end-2 c = curves-counted _ _ refl c.curve_places.ensures

pub pass_in-requires-then-has_lorries : goal.pass_in-requires-then-has_lorries
pass_in-requires-then-has_lorries c =
    let are = c.curve_places.ensures in
    (room_most _ refl refl, sym (curves-counted _ _ refl are) ∙ are)

pub pass_in-requires-2 : goal.pass_in-requires-2
pass_in-requires-2 c =
    let are = c.curve_places.ensures in
    (room-cars _ (sym c.has_lorries.ensures ∙ c.if-has_lorries.false) refl refl, sym (curves-counted _ _ refl are) ∙ are)
