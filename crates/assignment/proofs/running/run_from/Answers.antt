-- `assignment::run_from` meets its contract: there is room for the file in the places that it lends.
use Rattle.std.proofs.Common.{sym, refl, ◌∙◌}
use Rattle.network.specs.Laws.Decoding.{room_most, room-cars, room-short}
use Rattle.refusals.specs.Laws.Places.{small-length, small-curves, curves-most, curves-counted}
use Rattle.assignment.proofs.running.run_from.Goals as goal

pub run_in-requires-clause-room : goal.run_in-requires-clause-room
run_in-requires-clause-room c =
    let small = sym c.is_small.ensures ∙ c.if-is_small.true in
    (room-short _ (small-length _ small) refl refl, small-curves _ small)

pub slice_bounds-curves-end : goal.slice_bounds-curves-end
slice_bounds-curves-end c = rw c.curve_places.ensures (curves-most _)

pub slice_bounds-curves-end-2 : goal.slice_bounds-curves-end-2
slice_bounds-curves-end-2 c = curves-counted _ _ refl c.curve_places.ensures

pub run_in-requires-then-file-le-SHORT-clause-room : goal.run_in-requires-then-file-le-SHORT-clause-room
run_in-requires-then-file-le-SHORT-clause-room c =
    let are = c.curve_places.ensures in
    (room-short _ c.if-file-le-SHORT.true refl refl, sym (curves-counted _ _ refl are) ∙ are)

pub run_in-requires-then-has_lorries-clause-room : goal.run_in-requires-then-has_lorries-clause-room
run_in-requires-then-has_lorries-clause-room c =
    let are = c.curve_places.ensures in
    (room_most _ refl refl, sym (curves-counted _ _ refl are) ∙ are)

pub run_in-requires-2-clause-room : goal.run_in-requires-2-clause-room
run_in-requires-2-clause-room c =
    let are = c.curve_places.ensures in
    (room-cars _ (sym c.has_lorries.ensures ∙ c.if-has_lorries.false) refl refl, sym (curves-counted _ _ refl are) ∙ are)
