-- Ways of telling cases apart and keeping the equation.
use Rattle.std.specs.Prelude.{ℕ, ◌≡◌, refl, Bool, true, false, ◌||◌, ◌⊎◌, ◌↔◌}
use Rattle.std.proofs.Math.Decide.{ℕ_discrete}
use Rattle.std.proofs.Common.{sym, ◌∙◌, true≢false, inl, inr}
use Rattle.std.proofs.Math.Option.{Option, none, some, none-ne-some}

-- A distance is none, or some number.
pub on-option : {C : Type 0} (o : Option ℕ) → (o ≡ none → C) → ((x : ℕ) → o ≡ some x → C) → C
on-option none f g = f refl
on-option (some x) f g = g x refl

-- A test is true or false.
pub on_test : {C : Type 0} (b : Bool) → (b ≡ true → C) → (b ≡ false → C) → C
on_test true f g = f refl
on_test false f g = g refl

-- One of two tests holds where their `or` does.
pub either : (a b : Bool) → (a || b) ≡ true → (a ≡ true) ⊎ (b ≡ true)
either true b e = inl refl
either false b e = inr e

-- Two tests that hold together are the same.
pub same_test : (a b : Bool) → (a ≡ true) ↔ (b ≡ true) → a ≡ b
same_test true b h = sym (h.0 refl)
same_test false true h = h.1 refl
same_test false false h = refl

-- Two numbers are equal or not.
pub on-equal : {C : Type 0} (a b : ℕ) → (a ≡ b → C) → ((a ≡ b → ⊥) → C) → C
on-equal {C} a b f g = go (ℕ_discrete a b)
  where
    go : Dec (a ≡ b) → C
    go (yes e) = f e
    go (no n) = g n

-- Nothing is both none and some number.
pub none-some : {C : Type 0} {o : Option ℕ} {x : ℕ} → o ≡ none → o ≡ some x → C
none-some {x} e f = absurd (none-ne-some x (sym e ∙ f))

-- No test is both true and false.
pub true-false : {C : Type 0} {b : Bool} → b ≡ true → b ≡ false → C
true-false e f = absurd (true≢false (sym e ∙ f))
