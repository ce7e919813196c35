-- What the row of a link says of who may use it.
use Rattle.std.specs.Prelude.{ℕ, ◌≡◌, Bool, false, List}
use Rattle.std.proofs.Math.Bool.{and-false}
use Rattle.theory.specs.Study.{barred, barred_to}

-- A link that is not barred is barred to no class.
pub none-barred : (links : List (List ℕ)) (lorries : Bool) (l : ℕ) → barred links l ≡ 0 → barred_to links lorries l ≡ false
unfolding barred_to
none-barred links lorries l on = rw (on, and-false)
