-- (A.7) The chains of cars and of lorries, put into rows one class after the other.
use Rattle.std.specs.Prelude.{ℕ, zero, suc, ◌-◌, ◌≤◌, ◌<◌, ◌≡◌, refl, true, false, List, ◌++◌, length, get_or, take, drop, replicate}
use Rattle.std.proofs.Common.{arith, sym, ◌∙◌, ap, length-append, length-take, length-drop, take_at, drop_at}
use Rattle.std.proofs.Math.ListN.{get_or-append}
use Rattle.theory.specs.Study.{no_link}
use Rattle.theory.specs.Laws.Parts.{behind, behind-is, replaced_behind, behind-replaced}
use Rattle.search.specs.Chains.{Linked}
use Rattle.search.specs.Laws.Chains.{linked-two}
use Rattle.judging.specs.Study.{Study, commodity_count}
use Rattle.judging.specs.Classes.{cars_in, HasLorries, ClassChains, ChainRoom}

-- A list whose first numbers have become others, as many.
module _ {A : Type 0} (xs : List A) (first : ℕ) (within : first ≤ length xs) (ys : List A) (long : length ys ≡ first) where
  pub length_front : length (ys ++ drop first xs) ≡ length xs
  length_front = omega (arith, length-append ys (drop first xs), length-drop first xs)

  pub take-front : take first (ys ++ drop first xs) ≡ ys
  take-front = take_at ys (drop first xs) first long

  pub front-row : (i : ℕ) (d : A) → i < first → get_or (ys ++ drop first xs) i d ≡ get_or ys i d
  front-row i d h = get_or-append ys (drop first xs) d i (omega arith)

  pub behind-front : behind (ys ++ drop first xs) first ≡ behind xs first
  behind-front = behind-is (ys ++ drop first xs) first ∙ drop_at ys (drop first xs) first long ∙ sym (behind-is xs first)

-- Two of the rows of a list of equal rows.
two-of : (row : List ℕ) (n : ℕ) → 2 ≤ n → take 2 (replicate n row) ≡ replicate 2 row
two-of row zero h = absurd (omega arith)
two-of row (suc zero) h = absurd (omega arith)
two-of row (suc (suc n)) h = refl

module _ {d : Study} {chains : List (List ℕ)} (room : ChainRoom d chains) where
  -- The rows that are lent for cars have no links,
  pub first-empty : take 2 chains ≡ replicate 2 (replicate 896 no_link)
  first-empty = ap (take 2) room.empty ∙ two-of (replicate 896 no_link) (length chains) room.for-cars

  module _ (rows : List (List ℕ)) (long : length rows ≡ 2) where
    -- nor have those for lorries, when those for cars are filled.
    pub rest-empty : HasLorries d → behind (rows ++ drop 2 chains) 2 ≡ replicate 2 (replicate 896 no_link)
    rest-empty some-lorries =
        behind-front chains 2 room.for-cars rows long
        ∙ behind-is chains 2
        ∙ ap (drop 2) (room.empty ∙ ap (λ n. replicate n (replicate 896 no_link)) (room.for-lorries some-lorries))

    pub rest-two : HasLorries d → length (rows ++ drop 2 chains) - 2 ≡ 2
    rest-two some-lorries = omega (arith, length_front chains 2 room.for-cars rows long, room.for-lorries some-lorries)

    module _ (found : Linked false d.links rows) where
      pub chains-cars : commodity_count d ≤ cars_in d → ClassChains d (rows ++ drop 2 chains)
      chains-cars no-lorries =
          record {
            cars = rw (take-front chains 2 room.for-cars rows long) found;
            lorries = λ some-lorries. absurd (omega arith);
          }

      pub chains-both : {others : List (List ℕ)} → HasLorries d → Linked true d.links others → length others ≡ 2
          → ClassChains d (replaced_behind (rows ++ drop 2 chains) 2 others)
      chains-both {others} some-lorries found-others others-long =
          let filled = rows ++ drop 2 chains in
          let whole = length_front chains 2 room.for-cars rows long in
          let within : 2 ≤ length filled = omega (arith, whole, room.for-cars) in
          let firsts : length (take 2 filled) ≡ 2 = omega (arith, within, length-take 2 filled) in
          record {
            cars =
                rw (take_at (take 2 filled) (others ++ drop (length filled - 2) (drop 2 filled)) 2 firsts, take-front chains 2 room.for-cars rows long) found;
            lorries = λ h. rw (behind-replaced filled 2 within others (others-long ∙ sym (rest-two some-lorries))) found-others;
          }

-- Chains for cars are in the first two rows.
pub two-rows : {d : Study} {chains : List (List ℕ)} → ClassChains d chains → 2 ≤ length chains
two-rows {chains} w = omega (arith, linked-two w.cars, length-take 2 chains)

-- Places for the chains of both classes, and for those of cars alone.
pub room-both : (d : Study) → ChainRoom d (replicate 4 (replicate 896 no_link))
room-both d = record { empty = refl; for-cars = omega arith; for-lorries = λ some-lorries. refl }

pub room-cars : (d : Study) → commodity_count d ≤ cars_in d → ChainRoom d (replicate 2 (replicate 896 no_link))
room-cars d no-lorries = record { empty = refl; for-cars = omega arith; for-lorries = λ some-lorries. absurd (omega arith) }
