-- Columns: right-aligned digits behind others, and what stands before the digits put already. These theorems stand here and not beside the other laws
-- on digits, so that a left-aligned column is refused where they fall.
use Rattle.std.specs.Prelude.{ℕ, zero, suc, ◌+◌, ◌-◌, ◌/◌, ◌%◌, ◌^◌, ◌≤◌, ◌<◌, ◌≡◌, refl, List, [], ◌∷◌, ◌++◌, length, replicate}
use Rattle.std.proofs.Common.{arith, sym, ◌∙◌, ap, ⊎_elim, append_assoc, length-append, ne_eqb}
use Rattle.std.proofs.lemmas.List.{replicate-append-replicate}
use Rattle.theory.specs.Laws.Finite.{order}
use Rattle.text.specs.Decimal.{digits_within, decimal, hundredths, aligned}
use Rattle.text.specs.Put.{leading_byte, leading}
use Rattle.std.proofs.lemmas.Grind.{common_steps}
use Rattle.std.proofs.lemmas.List.Edits.{sets, sets-eq}
use Rattle.std.specs.Prelude.{set}
use Rattle.text.specs.Laws.Decimal.{decimal-small, decimal-large, leading-none}
use Rattle.text.specs.Laws.Put.{Left, sets-before}

-- Bytes behind others in a column.
aligned-append : (width : ℕ) (bytes more : List ℕ) → aligned (width + length more) (bytes ++ more) ≡ aligned width bytes ++ more
unfolding aligned
aligned-append width bytes more =
    let spaces : width + length more - length (bytes ++ more) ≡ width - length bytes = omega (arith, length-append bytes more) in
    rw (spaces, append_assoc)

-- A column of its own width.
pub aligned-whole : (bytes : List ℕ) → aligned (length bytes) bytes ≡ bytes
unfolding aligned
aligned-whole bytes = let none : length bytes - length bytes ≡ 0 = omega arith in rw none

-- Hundredths in a column: the digits before the point in theirs, then the point and two digits.
pub aligned-hundredths : (width x : ℕ) →
    aligned (width + 3) (hundredths x) ≡ aligned width (decimal (x / 100)) ++ (46 ∷ []) ++ ((48 + x / 10 % 10) ∷ []) ++ ((48 + x % 10) ∷ [])
unfolding hundredths
aligned-hundredths width x =
    aligned-append width (decimal (x / 100)) (46 ∷ (48 + x / 10 % 10) ∷ (48 + x % 10) ∷ []) ∙ sym (simp append_assoc)

-- What stands before the digits put already: nothing in no column (a law of specs/), and in others
leading-zero : (width : ℕ) → leading width 0 ≡ replicate width 32
unfolding leading
leading-zero width = refl

leading-some : (width rest : ℕ) → (rest ≡ 0 → ⊥) → leading width rest ≡ aligned width (decimal rest)
unfolding leading
leading-some width rest h = rw (ne_eqb rest 0 h)

-- the last digit of a number behind what stands before it,
aligned-digit : (width x : ℕ) → x < 10 → aligned (suc width) (decimal x) ≡ leading width (x / 10) ++ ((48 + x % 10) ∷ [])
unfolding aligned
aligned-digit width x h =
    let tenth : x / 10 ≡ 0 = omega arith in
    let digit : x % 10 ≡ x = omega arith in
    let spaces : suc width - 1 ≡ width = omega arith in
    rw (decimal-small x h, tenth, digit, leading-zero width, spaces)

aligned-digits : (width x : ℕ) → 10 ≤ x → aligned (suc width) (decimal x) ≡ leading width (x / 10) ++ ((48 + x % 10) ∷ [])
aligned-digits width x h =
    let size : suc width ≡ width + 1 = omega arith in
    rw (
      decimal-large x h,
      size,
      aligned-append width (decimal (x / 10)) ((48 + x % 10) ∷ []),
      leading-some width (x / 10) (λ e. omega arith),
    )

pub aligned-last : (width x : ℕ) → aligned (suc width) (decimal x) ≡ leading width (x / 10) ++ ((48 + x % 10) ∷ [])
aligned-last width x = ⊎_elim (aligned-digit width x) (aligned-digits width x) (order x 10)

-- and so on with the digits that are left.
spaces-more : (width : ℕ) → replicate {A = ℕ} (suc width) 32 ≡ replicate width 32 ++ (32 ∷ [])
spaces-more width =
    let size : width + 1 ≡ suc width = omega arith in
    sym (replicate-append-replicate {A = ℕ} width 1 32 ∙ ap (λ n. replicate {A = ℕ} n 32) size)

pub leading-more : (width rest : ℕ) → leading (suc width) rest ≡ leading width (rest / 10) ++ (leading_byte rest ∷ [])
leading-more width rest = ⊎_elim none some (order rest 1)
  where
    none : rest < 1 → leading (suc width) rest ≡ leading width (rest / 10) ++ (leading_byte rest ∷ [])
    none h =
        let gone : rest ≡ 0 = omega arith in
        rw (gone, leading-zero (suc width), leading-zero width) (spaces-more width)

    some : 1 ≤ rest → leading (suc width) rest ≡ leading width (rest / 10) ++ (leading_byte rest ∷ [])
    some h = rw (leading-some (suc width) rest (λ e. omega arith), ne_eqb rest 0 (λ e. omega arith)) (aligned-last width rest)

-- It fills its column.
pub length-leading : (width rest : ℕ) → rest < 10 ^ width → length (leading width rest) ≡ width
length-leading zero rest h = ap length (leading-none rest h)
length-leading (suc width) rest h =
    rw (leading-more width rest)
    (omega (arith, length-append (leading width (rest / 10)) (leading_byte rest ∷ []), length-leading width (rest / 10) (omega arith)))

-- Digits that are put from the last one on, in a column that begins at a place: one byte less is left each turn.
module _ (target : List ℕ) (at : ℕ) where
  pub left_less : {out : List ℕ} {width rest : ℕ} → Left target at out (suc width) rest → Left target at (set out (at + width) (leading_byte rest)) width (rest / 10)
  left_less {out} {width} {rest} so_far =
      let below = so_far.small in
      let tenth : rest / 10 < 10 ^ width = omega arith in
      record {
        small = tenth;
        left =
            ap (λ k. sets (set out (at + k) (leading_byte rest)) at (leading width (rest / 10))) (sym (length-leading width (rest / 10) tenth))
            ∙ sets-before out at (leading width (rest / 10)) (leading_byte rest ∷ [])
            ∙ ap (sets out at) (sym (leading-more width rest))
            ∙ so_far.left;
      }

-- Bytes over a whole column.
pub sets-whole : (column bytes : List ℕ) → length bytes ≡ length column → sets column 0 bytes ≡ bytes
sets-whole column bytes full = sets-eq bytes column 0 (omega arith) ∙ grind (arith, common_steps)

-- " 42" and "420" in a column of three
aligned-42 : aligned 3 (decimal 42) ≡ 32 ∷ 52 ∷ 50 ∷ []
unfolding digits_within decimal aligned
aligned-42 = refl

aligned-420 : aligned 3 (decimal 420) ≡ 52 ∷ 50 ∷ 48 ∷ []
unfolding digits_within decimal aligned
aligned-420 = refl
