-- `passes::take_back` meets its contract: there is room for the file in the places that it lends.
use mathlib.Core.Path.{refl, sym, ◌∙◌}
use Rattle.network.specs.Laws.Decoding.{room_most, room-cars, room-short}
use Rattle.passes.proofs.taking.take_back.Goals as goal

pub take_back_in-requires : goal.take_back_in-requires
take_back_in-requires c = room-short _ c.if-file-le-SHORT.true refl refl

pub take_back_in-requires-then-has_lorries : goal.take_back_in-requires-then-has_lorries
take_back_in-requires-then-has_lorries c = room_most _ refl refl

pub take_back_in-requires-2 : goal.take_back_in-requires-2
take_back_in-requires-2 c = room-cars _ (sym c.has_lorries.ensures ∙ c.if-has_lorries.false) refl refl
