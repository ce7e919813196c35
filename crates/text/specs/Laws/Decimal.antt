-- The digits of a number, of hundredths, and of a column.
use Rattle.std.specs.Prelude.{ℕ, max, zero, suc, ◌+◌, ◌-◌, ◌*◌, ◌/◌, ◌%◌, ◌^◌, ◌≤◌, ◌<◌, ◌≡◌, List, [], ◌∷◌, ◌++◌, length, get_or}
use Rattle.std.proofs.Common.{not-suc-le-zero, arith, sym, ◌∙◌, ap, ⊎_elim, length-append, lt-ltb, le-ltb, eq-eqb}
use Rattle.std.proofs.lemmas.List.{length-replicate}
use Rattle.std.proofs.Math.ListN.{get_or-append}
use Rattle.theory.specs.Laws.Finite.{order}
use Rattle.text.specs.Decimal.{digits_within, decimal, hundredths, aligned}
use Rattle.text.specs.Put.{leading}

-- The digits of a number.

digits-small : (more x : ℕ) → x < 10 → digits_within (suc more) x ≡ (48 + x) ∷ []
unfolding digits_within
digits-small more x h = rw (lt-ltb x 10 h, digits_within)

digits-large : (more x : ℕ) → 10 ≤ x → digits_within (suc more) x ≡ digits_within more (x / 10) ++ ((48 + x % 10) ∷ [])
unfolding digits_within
digits-large more x h = rw (le-ltb x 10 h, digits_within)

-- Any two bounds above the number give the same digits.
digits_same : (a b x : ℕ) → x < a → x < b → digits_within a x ≡ digits_within b x
digits_same zero b x p q = absurd (not-suc-le-zero p)
digits_same (suc a) zero x p q = absurd (not-suc-le-zero q)
digits_same (suc a) (suc b) x p q =
    ⊎_elim (λ h. digits-small a x h ∙ sym (digits-small b x h))
    (λ h. digits-large a x h
    ∙ ap (λ d. d ++ ((48 + x % 10) ∷ [])) (digits_same a b (x / 10) (omega arith) (omega arith))
    ∙ sym (digits-large b x h))
    (order x 10)

pub decimal-small : (x : ℕ) → x < 10 → decimal x ≡ (48 + x) ∷ []
unfolding decimal
decimal-small x h = digits-small x x h

pub decimal-large : (x : ℕ) → 10 ≤ x → decimal x ≡ decimal (x / 10) ++ ((48 + x % 10) ∷ [])
unfolding decimal
decimal-large x h =
    digits-large x x h
    ∙ ap (λ d. d ++ ((48 + x % 10) ∷ [])) (digits_same x (suc (x / 10)) (x / 10) (omega arith) (omega arith))

pub length-small : (x : ℕ) → x < 10 → length (decimal x) ≡ 1
length-small x h = ap length (decimal-small x h)

pub length-large : (x : ℕ) → 10 ≤ x → length (decimal x) ≡ length (decimal (x / 10)) + 1
length-large x h = ap length (decimal-large x h) ∙ length-append (decimal (x / 10)) ((48 + x % 10) ∷ [])

-- A number below a power of 10 has no more digits than the power,
pub length-decimal : (k x : ℕ) → x < 10 ^ suc k → length (decimal x) ≤ suc k
length-decimal zero x h = omega (arith, length-small x (omega arith))
length-decimal (suc k) x h =
    ⊎_elim (λ p. omega (arith, length-small x p))
    (λ p. omega (arith, length-large x p, length-decimal k (x / 10) (omega arith)))
    (order x 10)

-- and is below the power of its digits.
below_power : (more x : ℕ) → x < more → x < 10 ^ length (decimal x)
below_power zero x h = absurd (not-suc-le-zero h)
below_power (suc more) x h =
    ⊎_elim (λ p. rw (length-small x p) (omega arith))
    (λ p.
    let size : length (decimal x) ≡ suc (length (decimal (x / 10))) = omega (arith, length-large x p) in
    rw size (omega (arith, below_power more (x / 10) (omega arith))))
    (order x 10)

pub some-digit : (x : ℕ) → 1 ≤ length (decimal x)
some-digit x = ⊎_elim (λ p. omega (arith, length-small x p)) (λ p. omega (arith, length-large x p)) (order x 10)

pub decimal-below : (x : ℕ) → x < 10 ^ length (decimal x)
decimal-below x = below_power (suc x) x (omega arith)

-- So its digits are one more than the highest power of 10 that it is not below; 0 has one digit, as 1 has.
pub digits_of : (k x : ℕ) → 10 ^ k ≤ max x 1 → max x 1 < 10 * 10 ^ k → length (decimal x) ≡ k + 1
digits_of zero x low high = omega (arith, length-small x (omega arith))
digits_of (suc k) x low high = omega (arith, length-large x (omega arith), digits_of k (x / 10) (omega arith) (omega arith))

-- Without its last digit it is below one power less.
pub tenth-below : (width x : ℕ) → 1 ≤ width → x < 10 ^ width → x / 10 < 10 ^ (width - 1)
tenth-below zero x some h = absurd (not-suc-le-zero some)
tenth-below (suc width) x some h = let size : suc width - 1 ≡ width = omega arith in rw size (omega arith)

-- Numbers of 64 and of 32 bits.
pub digits-64 : (x : ℕ) → x < 2 ^ 64 → length (decimal x) ≤ 20
digits-64 x h = length-decimal 19 x (omega arith)

pub digits-32 : (x : ℕ) → x < 2 ^ 32 → length (decimal x) ≤ 10
digits-32 x h = length-decimal 9 x (omega arith)

-- No needless leading zero: the first digit of a number is 0 only where the number is 0.
leading-digit : (more x : ℕ) → x < more → get_or (decimal x) 0 0 ≡ 48 → x ≡ 0
leading-digit zero x h e = absurd (not-suc-le-zero h)
leading-digit (suc more) x h e =
    ⊎_elim (λ p. let digit = sym (ap (λ d. get_or d 0 0) (decimal-small x p)) ∙ e in omega arith)
    (λ p.
    let first = ap (λ d. get_or d 0 0) (decimal-large x p) ∙ get_or-append (decimal (x / 10)) ((48 + x % 10) ∷ []) 0 0 (some-digit (x / 10)) in
    let none = leading-digit more (x / 10) (omega arith) (sym first ∙ e) in
    omega arith)
    (order x 10)

pub no-leading-zero : (x : ℕ) → get_or (decimal x) 0 0 ≡ 48 → x ≡ 0
no-leading-zero x = leading-digit (suc x) x (omega arith)

-- Columns.

-- Bytes that fit a column fill it together with the spaces before them.
pub length-aligned : (width : ℕ) (bytes : List ℕ) → length bytes ≤ width → length (aligned width bytes) ≡ width
unfolding aligned
length-aligned width bytes h = simp (length-append, length-replicate) (omega arith)

pub length-hundredths : (k x : ℕ) → x / 100 < 10 ^ suc k → length (hundredths x) ≤ suc k + 3
unfolding hundredths
length-hundredths k x h =
    omega (arith, length-append (decimal (x / 100)) (46 ∷ (48 + x / 10 % 10) ∷ (48 + x % 10) ∷ []), length-decimal k (x / 100) h)

-- What stands before the digits put already: nothing in no column.
pub leading-none : (rest : ℕ) → rest < 1 → leading 0 rest ≡ []
unfolding leading
leading-none rest h = rw (eq-eqb rest 0 (omega arith))
