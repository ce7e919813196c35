-- Marks for each of 128 nodes, where only the first nodes have something to mark.
use Rattle.std.specs.Prelude.{ℕ, zero, suc, ◌+◌, ◌-◌, ◌≤◌, ◌<◌, ◌≡◌, refl, List, [], ◌∷◌, ◌++◌, map, length, get_or, replicate}
use Rattle.std.proofs.Common.{le_of_suc-le-suc, arith, sym, ◌∙◌, ap, ⊎_elim, length-append, get_or-append-add, ext_get_or}
use Rattle.std.proofs.Math.Option.{Option, none}
use Rattle.std.proofs.lemmas.List.{length-replicate, length-map, get_or-replicate}
use Rattle.std.proofs.Math.ListN.{get_or-append, get_or-map, get_or-eq_default}
use Rattle.theory.specs.Laws.Finite.{order}

-- What stands at a place of a list goes by no default.
pub get_d_default : {A : Type 0} (xs : List A) (j : ℕ) (a b : A) → j < length xs → get_or xs j a ≡ get_or xs j b
get_d_default [] j a b h = absurd (omega arith)
get_d_default (x ∷ xs) zero a b h = refl
get_d_default (x ∷ xs) (suc j) a b h = get_d_default xs j a b (le_of_suc-le-suc h)

module _ (f : Option ℕ → ℕ) (xs : List (Option ℕ)) (n : ℕ) (size : length xs ≡ n) (few : n ≤ 128) where
  pub length-padded : length (map f xs ++ replicate (128 - n) (f none)) ≡ 128
  length-padded =
      omega (arith, length-append (map f xs) (replicate (128 - n) (f none)), length-map xs f, length-replicate (128 - n) (f none))

  -- A node past the last has the mark of none.
  pub padded-at : (j : ℕ) → j < 128 → get_or (map f xs ++ replicate (128 - n) (f none)) j 0 ≡ f (get_or xs j none)
  padded-at j h = ⊎_elim within past (order j n)
    where
      marks : length (map f xs) ≡ n
      marks = length-map xs f ∙ size

      within : j < n → get_or (map f xs ++ replicate (128 - n) (f none)) j 0 ≡ f (get_or xs j none)
      within b =
          get_or-append (map f xs) (replicate (128 - n) (f none)) 0 j (omega (arith, marks))
          ∙ get_d_default (map f xs) j 0 (f none) (omega (arith, marks))
          ∙ get_or-map f xs j none

      past : n ≤ j → get_or (map f xs ++ replicate (128 - n) (f none)) j 0 ≡ f (get_or xs j none)
      past b =
          let place : j ≡ length (map f xs) + (j - n) = omega (arith, marks) in
          ap (λ i. get_or (map f xs ++ replicate (128 - n) (f none)) i 0) place
          ∙ get_or-append-add (map f xs) (replicate (128 - n) (f none)) (j - n) 0
          ∙ get_or-replicate (128 - n) (j - n) (f none) 0 (omega arith)
          ∙ ap f (sym (get_or-eq_default xs none (omega arith)))

  -- Marks are these where they agree node by node.
  pub padded-is : (ys : List ℕ) → length ys ≡ 128 → ((j : ℕ) → j < 128 → get_or ys j 0 ≡ f (get_or xs j none)) → ys ≡ map f xs ++ replicate (128 - n) (f none)
  padded-is ys long same =
      ext_get_or 0 ys (map f xs ++ replicate (128 - n) (f none)) (long ∙ sym length-padded) (λ j h. same j (omega arith) ∙ sym (padded-at j (omega arith)))
