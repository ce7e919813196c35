use borrow.Author.Rules.{rules}
use mathlib.Core.Path.{refl, sym, ◌∙◌}
use native.Mathlib.Omega.{arith}
use Rattle.network.specs.Laws.Decoding.{room-short, room_most, room-cars}
use Rattle.network.proofs.checking.check.Goals as goal

pub check_in-requires : goal.check_in-requires
check_in-requires c = room-short _ (omega arith) refl refl

pub check_in-requires-then-has_lorries : goal.check_in-requires-then-has_lorries
check_in-requires-then-has_lorries c = room_most _ refl refl

pub check_in-requires-2 : goal.check_in-requires-2
check_in-requires-2 c = room-cars _ (sym c.has_lorries.ensures ∙ c.if-has_lorries.false) refl refl
