-- Bytes put one behind the other, and digits one before the other.
use Rattle.std.specs.Prelude.{ℕ, suc, ◌+◌, ◌-◌, ◌^◌, ◌≤◌, ◌<◌, ◌≡◌, refl, List, [], ◌∷◌, ◌++◌, length, take, drop, get_or, set}
use Rattle.std.proofs.Common.{add-zero, sym, ◌∙◌, ap, append_assoc, length-append, take-suc}
use Rattle.std.proofs.Math.Numerals.{add-one}
use native.Mathlib.Omega.{arith}
use Rattle.std.proofs.lemmas.List.Edits.{sets, sets-eq}
use Rattle.std.proofs.Math.Seq.{length-sets}
use borrow.Rule.Slice.PartMut.{put_mid}
use Rattle.std.proofs.lemmas.List.{drop-drop, set_comm}
use Rattle.theory.specs.Finite.{rows}
use Rattle.text.specs.Put.{Put, leading}
use Rattle.text.specs.Laws.Decimal.{leading-none}

sets-append : (l : List ℕ) (i : ℕ) (xs ys : List ℕ) → sets (sets l i xs) (i + length xs) ys ≡ sets l i (xs ++ ys)
sets-append l i [] ys = ap (λ k. sets l k ys) (add-zero i)
sets-append l i (x ∷ xs) ys =
    let e : i + suc (length xs) ≡ suc i + length xs = omega arith in
    ap (λ k. sets (sets (set l i x) (suc i) xs) k ys) e ∙ sets-append (set l i x) (suc i) xs ys

-- A byte put before others that are there already.
set-sets : (l : List ℕ) (i j x : ℕ) (ys : List ℕ) → i < j → set (sets l j ys) i x ≡ sets (set l i x) j ys
set-sets l i j x [] h = refl
set-sets l i j x (y ∷ ys) h =
    set-sets (set l j y) i (suc j) x ys (omega arith) ∙ ap (λ k. sets k (suc j) ys) (set_comm l j i y x (λ e. omega arith))

pub sets-before : (l : List ℕ) (i : ℕ) (xs ys : List ℕ) → sets (sets l (i + length xs) ys) i xs ≡ sets l i (xs ++ ys)
sets-before l i [] ys = ap (λ k. sets l k ys) (add-zero i)
sets-before l i (x ∷ xs) ys =
    let e : i + suc (length xs) ≡ suc i + length xs = omega arith in
    ap (λ k. sets k (suc i) xs) (set-sets l i (i + suc (length xs)) x ys (omega arith))
    ∙ ap (λ k. sets (sets (set l i x) k ys) (suc i) xs) e
    ∙ sets-before (set l i x) (suc i) xs ys

module _ {before after : List ℕ} {at next : ℕ} {bytes : List ℕ} (first : Put before at bytes after next) where
  pub same_length : length after ≡ length before
  same_length = ap length first.held ∙ length-sets before at bytes

  -- Two runs of bytes, one behind the other, are one run.
  pub then : {more last : List ℕ} {end : ℕ} → Put after next more last end → Put before at (bytes ++ more) last end
  then {more} second =
      record { held = cc (sets-append before at bytes more); place = omega (arith, length-append bytes more) }

-- One more byte of a text.
pub text-more : {before after : List ℕ} {at i : ℕ} (text : List ℕ) → i < length text → Put before at (take i text) after (at + i) → Put before at (take (i + 1) text) (set after (at + i) (get_or text i 0)) (at + (i + 1))
text-more {before} {after} {at} {i} text h p = rw (add-one i, take-suc text i 0) (rw (add-one i) at (then p byte))
  where
    byte : Put after (at + i) (get_or text i 0 ∷ []) (set after (at + i) (get_or text i 0)) (at + (i + 1))
    byte = record { held = refl; place = omega arith }

-- Bytes that are copied over a part, as by `copy_from_slice`.
pub put-part : {out bytes part : List ℕ} {at end : ℕ} → part ≡ bytes → at + length bytes ≡ end → end ≤ length out → Put out at bytes (put_mid at (end - at) out part) end
put-part {out} {bytes} {part} {at} {end} same full inside =
    let size : end - at ≡ length bytes = omega arith in
    record { held = rw (size, same, sets-eq bytes out at (omega arith), append_assoc, drop-drop); place = sym full }

-- Rows of bytes: none at first, and one more each turn.
module _ (row : ℕ → List ℕ) where
  pub no_rows : (before : List ℕ) (at : ℕ) → Put before at (rows 0 row) before at
  unfolding rows
  no_rows before at = record { held = refl; place = omega arith }

  rows_more : (k : ℕ) → rows (k + 1) row ≡ rows k row ++ row k
  unfolding rows
  rows_more k = rw add-one

  pub then-row : (k : ℕ) {before after last : List ℕ} {at next end : ℕ} → Put before at (rows k row) after next → Put after next (row k) last end → Put before at (rows (k + 1) row) last end
  then-row k first second = rw (rows_more k) (then first second)

-- Digits that are put from the last one on, in a column that begins at a place, until the memory is as it has to be.
module _ (target : List ℕ) (at : ℕ) where
  -- What is left to put is what stands in the first bytes of the column:
  pub record Left (out : List ℕ) (width rest : ℕ) : Type 0 where
    pub small : rest < 10 ^ width
    pub left : sets out at (leading width rest) ≡ target

  -- and nothing at last. (That it is one byte less each turn stands with the theorems on columns.)
  pub left-none : {out : List ℕ} {rest : ℕ} → Left out 0 rest → out ≡ target
  left-none {out} {rest} so_far = ap (sets out at) (sym (leading-none rest so_far.small)) ∙ so_far.left

-- Bytes put at the start are followed by what stood there.
pub at-start : {before after bytes : List ℕ} {next : ℕ} → Put before 0 bytes after next → next ≤ length before → (next ≡ length bytes) × (after ≡ bytes ++ drop next before)
at-start {before} {after} {bytes} {next} p h =
    let size : 0 + length bytes ≡ next = omega arith in
    (omega arith, p.held ∙ sets-eq bytes before 0 (omega arith) ∙ ap (λ k. bytes ++ drop k before) size)
