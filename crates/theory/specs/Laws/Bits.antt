-- The bits of a word, one by one.
use Rattle.std.specs.Prelude.{ℕ, zero, suc, ◌+◌, ◌-◌, ◌*◌, ◌/◌, ◌%◌, ◌^◌, ◌≤◌, ◌<◌, true, false, ◌||◌, ◌&&◌, not, ◌⊎◌, ◌≡◌, refl, eqb, ltb}
use Rattle.std.proofs.Math.Nat.{div-eq_of_lt, div_self, mul-mod_left}
use Rattle.std.proofs.Common.{div-one, mod-lt, not-suc-le-zero, one-mul, pow-suc, arith, inl, inr, ⊎_elim, sym, ◌∙◌, ap, pow-add, pow_mono, pow_pos, shl_exact, shr-shr, eq-eqb, ne_eqb, lt-ltb, le-ltb}
use Rattle.std.specs.Int.Bits.{bit_and, bit_or, or_add_and}
use Rattle.std.proofs.lemmas.Nat.{and_le_r, and_mask, and_shr, and_mod, or_shr, or_mod, shl-shr}
use Rattle.std.specs.Int.Count.{count_trailing_zeros, under}
use Rattle.std.proofs.Math.Pow.{high, ones_lt, ones_split, pow-lt}
use Rattle.theory.specs.Marks.{bit}
use Rattle.theory.specs.Laws.Cases.{on-equal}
use Rattle.theory.specs.Laws.Finite.{order}

-- A number grows with its bits.
pub or-grows : (a b : ℕ) → a ≤ bit_or a b
or-grows a b = omega (arith, or_add_and a b, and_le_r a b)

-- A digit is 0 or 1,
digit : (a : ℕ) → (a % 2 ≡ 0) ⊎ (a % 2 ≡ 1)
digit a = ⊎_elim (λ h. inl (omega arith)) (λ h. inr (let most = mod-lt a {m = 2} (omega arith) in omega arith)) (order (a % 2) 1)

-- a bit of `a | b` is that bit of a or that bit of b,
or_digits : (a b : ℕ) → (a ≡ 0) ⊎ (a ≡ 1) → (b ≡ 0) ⊎ (b ≡ 1) → eqb (bit_or a b) 1 ≡ (eqb a 1 || eqb b 1)
or_digits a b (inl e) (inl f) = rw (e, f)
or_digits a b (inl e) (inr f) = rw (e, f)
or_digits a b (inr e) (inl f) = rw (e, f)
or_digits a b (inr e) (inr f) = rw (e, f)

pub bit-or : (a b k : ℕ) → bit (bit_or a b) k ≡ (bit a k || bit b k)
unfolding bit
bit-or a b k = rw (or_shr a b k, or_mod (a / 2 ^ k) (b / 2 ^ k) 1) (or_digits (a / 2 ^ k % 2) (b / 2 ^ k % 2) (digit (a / 2 ^ k)) (digit (b / 2 ^ k)))

-- and one of `a & b` is that bit of both.
and-digits : (a b : ℕ) → (a ≡ 0) ⊎ (a ≡ 1) → (b ≡ 0) ⊎ (b ≡ 1) → eqb (bit_and a b) 1 ≡ (eqb a 1 && eqb b 1)
and-digits a b (inl e) f = rw e
and-digits a b (inr e) (inl f) = rw (e, f)
and-digits a b (inr e) (inr f) = rw (e, f)

pub bit-and : (a b k : ℕ) → bit (bit_and a b) k ≡ (bit a k && bit b k)
unfolding bit
bit-and a b k = rw (and_shr a b k, and_mod (a / 2 ^ k) (b / 2 ^ k) 1) (and-digits (a / 2 ^ k % 2) (b / 2 ^ k % 2) (digit (a / 2 ^ k)) (digit (b / 2 ^ k)))

-- Bit 0 is the last digit, and the others are those of the half.
bit-last : (a : ℕ) → bit a 0 ≡ eqb (a % 2) 1
unfolding bit
bit-last a = rw (div-one a)

bit-half : (a k : ℕ) → bit a (suc k) ≡ bit (a / 2) k
unfolding bit
bit-half a k = let e : suc k ≡ 1 + k = omega arith in rw (e, ← shr-shr a 1 k)

-- The bits of `!a` are those that a has not.
pub bit_not : (w a k : ℕ) → k < w → a < 2 ^ w → bit (2 ^ w - 1 - a) k ≡ not (bit a k)
bit_not zero a k h most = absurd (not-suc-le-zero h)
bit_not (suc w) a zero h most =
    rw (bit-last (2 ^ suc w - 1 - a), bit-last a) (⊎_elim
    (λ e. let odd : (2 ^ suc w - 1 - a) % 2 ≡ 1 = omega (arith, pow-suc 2 w) in ap (λ d. eqb d 1) odd ∙ ap (λ d. not (eqb d 1)) (sym e))
    (λ e. let even : (2 ^ suc w - 1 - a) % 2 ≡ 0 = omega (arith, pow-suc 2 w) in ap (λ d. eqb d 1) even ∙ ap (λ d. not (eqb d 1)) (sym e))
    (digit a))
bit_not (suc w) a (suc k) h most =
    let half : (2 ^ suc w - 1 - a) / 2 ≡ 2 ^ w - 1 - a / 2 = omega (arith, pow-suc 2 w) in
    rw (bit-half (2 ^ suc w - 1 - a) k, bit-half a k, half) (bit_not w (a / 2) k (omega arith) (omega (arith, pow-suc 2 w)))

-- Bit k of `1 << i` is 1 where k is i,
pub one_shifted : (w i : ℕ) → i < w → (1 * 2 ^ i) % 2 ^ w ≡ 2 ^ i
one_shifted w i h = shl_exact {a = 1} 1 i w (omega arith) (omega arith) ∙ one-mul (2 ^ i)

higher-even : (d k : ℕ) → 2 ^ (suc d + k) / 2 ^ k % 2 ≡ 0
higher-even d k = rw (pow-add 2 (suc d) k, shl-shr, pow-suc 2 d, mul-mod_left)

apart : (i k : ℕ) → (i ≡ k → ⊥) → eqb (2 ^ i / 2 ^ k % 2) 1 ≡ false
apart i k n =
    ⊎_elim
    (λ h. rw (div-eq_of_lt {n = 2 ^ i} {m = 2 ^ k} (pow-lt h)))
    (λ h. let e : i ≡ suc (i - k - 1) + k = omega arith in rw e (rw higher-even))
    (order i k)

pub bit-one : (i k : ℕ) → bit (2 ^ i) k ≡ eqb i k
unfolding bit
bit-one i k =
    on-equal i k
    (λ e. rw (e, eq-eqb k k refl, div_self (pow_pos k)))
    (λ n. rw (ne_eqb i k n) (apart i k n))

-- that of `(1 << n) - 1` where k is below n,
below-ones : (d k : ℕ) → eqb ((2 ^ (suc d + k) - 1) / 2 ^ k % 2) 1 ≡ true
below-ones d k =
    let odd : (2 ^ suc d - 1) % 2 ≡ 1 = omega (arith, pow-suc 2 d, pow_pos d) in
    rw (ones_split (suc d) k, high (2 ^ suc d - 1) k (ones_lt k), odd)

pub bit-ones : (n k : ℕ) → bit (2 ^ n - 1) k ≡ ltb k n
unfolding bit
bit-ones n k =
    ⊎_elim
    (λ h. let e : n ≡ suc (n - k - 1) + k = omega arith in rw (lt-ltb k n h) (rw e (below-ones (n - k - 1) k)))
    (λ h. rw (le-ltb k n h, div-eq_of_lt {n = 2 ^ n - 1} {m = 2 ^ k} (omega (arith, ones_lt n, pow_mono h))))
    (order k n)

-- and no bit of 0 is 1.
pub bit-zero : (k : ℕ) → bit 0 k ≡ false
unfolding bit
bit-zero k = rw (div-eq_of_lt (pow_pos k))

-- Bit k is read off by a shift.
pub read-bit : (word k : ℕ) → eqb (bit_and (word / 2 ^ k) 1) 1 ≡ bit word k
unfolding bit
read-bit word k = rw (and_mask (word / 2 ^ k) 1)

-- The count of the zeros below the lowest of k bits that is 1 is that bit's place, and k where none is 1.
pub trailing_below : (k word i : ℕ) → i < count_trailing_zeros k word → bit word i ≡ false
unfolding count_trailing_zeros
trailing_below zero word i h = absurd (not-suc-le-zero h)
trailing_below (suc k) word i h = go i (word % 2) refl h (trailing_below k (word / 2))
  where
    go : (i d : ℕ) → word % 2 ≡ d → i < under d (count_trailing_zeros k (word / 2)) → ((i : ℕ) → i < count_trailing_zeros k (word / 2) → bit (word / 2) i ≡ false) → bit word i ≡ false
    go zero zero e h rest = rw (bit-last word, e)
    go (suc i) zero e h rest = bit-half word i ∙ rest i (omega arith)
    go i (suc d) e h rest = absurd (not-suc-le-zero h)

pub trailing-bit : (k word : ℕ) → count_trailing_zeros k word < k → bit word (count_trailing_zeros k word) ≡ true
unfolding count_trailing_zeros
trailing-bit zero word h = absurd (not-suc-le-zero h)
trailing-bit (suc k) word h = go (word % 2) refl h (trailing-bit k (word / 2))
  where
    go : (d : ℕ) → word % 2 ≡ d → under d (count_trailing_zeros k (word / 2)) < suc k → (count_trailing_zeros k (word / 2) < k → bit (word / 2) (count_trailing_zeros k (word / 2)) ≡ true) → bit word (under d (count_trailing_zeros k (word / 2))) ≡ true
    go zero e h rest = bit-half word (count_trailing_zeros k (word / 2)) ∙ rest (omega arith)
    go (suc d) e h rest = let one : word % 2 ≡ 1 = (let most = mod-lt word {m = 2} (omega arith) in omega arith) in rw (bit-last word, one)
