-- What the code's flags say of a definition's tests.
use mathlib.Core.Bool.{Bool, true, false, ◌&&◌}
use mathlib.Core.Path.{◌≡◌, sym, ◌∙◌}

-- Where the two ways of `a && b` meet, the flag is b if a held, and a itself if it did not.
pub and_yes : (a b : Bool) {flag : Bool} → a ≡ true → flag ≡ b → flag ≡ a && b
and_yes a b e f = rw e f

pub and_no : (a b : Bool) {flag : Bool} → a ≡ false → flag ≡ a → flag ≡ a && b
and_no a b e f = f ∙ e ∙ rw e

-- The answer to a question, where the code turns on `!flag`.
pub was-yes : {flag answer : Bool} → flag ≡ answer → flag ≡ true → answer ≡ true
was-yes e f = sym e ∙ f

pub was-no : {flag answer : Bool} → flag ≡ answer → flag ≡ false → answer ≡ false
was-no e f = sym e ∙ f
