-- Trips to destinations, where all are 0.
use Rattle.std.specs.Prelude.{ℕ, zero, suc, ◌+◌, ◌*◌, ◌-◌, ◌/◌, ◌%◌, ◌≤◌, ◌<◌, ◌≡◌, refl, List, [], ◌∷◌, ◌++◌, ◌↔◌, length, get_or, take, drop, fold}
use Rattle.std.proofs.Common.{div-add-mod', le-div_iff_mul-le, div-lt_iff_lt-mul, mod-lt, mul-le-mul_right, arith, sym, ◌∙◌, ap, length-append, length-drop, length-take-le, get_or-take, get_or-drop}
use Rattle.std.specs.Int.Bits.{bit_or, or_zero_l}
use Rattle.std.proofs.Math.Nat.{lt_of_mul-lt-mul_right}
use Rattle.std.proofs.Math.Seq.{take-append_seam}
use Rattle.std.proofs.lemmas.List.{drop_at, drop-drop}
use Rattle.std.proofs.lemmas.Nat.{or_comm}
use Rattle.theory.specs.Laws.Bits.{or-grows}
use Rattle.theory.specs.Laws.Cases.{on-equal}
use Rattle.search.specs.Groups.{ZeroBelow, Unused}

-- Numbers are all 0 where all bits of them are, and only there.
zeros : (a : ℕ) (xs : List ℕ) → fold bit_or a xs ≡ 0 → (a ≡ 0) × ZeroBelow (length xs) xs
zeros a [] e = (e, λ i h. absurd (omega arith))
zeros a (x ∷ xs) e =
    let (joined, rest) = zeros (bit_or a x) xs e in (
      omega (arith, joined, or-grows a x),
      λ i h. first-or-rest i h (omega (arith, joined, or_comm a x, or-grows x a)) rest,
    )
  where
    first-or-rest : (i : ℕ) → i < length (x ∷ xs) → x ≡ 0 → ZeroBelow (length xs) xs → get_or (x ∷ xs) i 0 ≡ 0
    first-or-rest zero h here rest = here
    first-or-rest (suc i) h here rest = rest i (omega arith)

joined-zero : (xs : List ℕ) → ZeroBelow (length xs) xs → fold bit_or 0 xs ≡ 0
joined-zero [] none = refl
joined-zero (x ∷ xs) none =
    let here : bit_or 0 x ≡ 0 = or_zero_l x ∙ none 0 (omega arith) in
    rw here (joined-zero xs (λ i h. none (suc i) (omega arith)))

pub all-zero : (xs : List ℕ) → (fold bit_or 0 xs ≡ 0) ↔ ZeroBelow (length xs) xs
all-zero xs = (λ e. (zeros 0 xs e).1, joined-zero xs)

-- The numbers of a part of a list, which has those from a on and below b.
module _ (a b : ℕ) (xs : List ℕ) (a≤ : a ≤ b) (b≤ : b ≤ length xs) where
  pub length_part : length (take (b - a) (drop a xs)) ≡ b - a
  length_part = length-take-le (b - a) (drop a xs) (omega (arith, length-drop a xs))

  pub get_d_part : (i : ℕ) → i < b - a → get_or (take (b - a) (drop a xs)) i 0 ≡ get_or xs (a + i) 0
  get_d_part i h = get_or-take (b - a) (drop a xs) i 0 h ∙ get_or-drop a xs i 0

-- A list is cut into parts of n numbers each: k of them are cut off, and the numbers `left` are left.
pub record PartsLeft (n : ℕ) (xs : List ℕ) (k : ℕ) (left : List ℕ) : Type 0 where
  pub within : k * n ≤ length xs
  pub is : left ≡ drop (k * n) xs

module _ {n : ℕ} {xs : List ℕ} where
  pub parts-none : PartsLeft n xs 0 xs
  parts-none = let none : 0 * n ≡ 0 = omega arith in record { within = omega arith; is = rw none refl }

  module _ {k : ℕ} {left : List ℕ} (w : PartsLeft n xs k left) where
    -- One more part is cut off,
    pub parts-more : {own left' : List ℕ} → left ≡ own ++ left' → length own ≡ n
        → (k * n + n ≤ length xs) × (own ≡ take n (drop (k * n) xs)) × PartsLeft n xs (k + 1) left'
    parts-more {own} {left'} cut size =
        let whole = ap length (sym w.is ∙ cut) ∙ length-append own left' in
        let within : k * n + n ≤ length xs = omega (arith, whole, length-drop (k * n) xs, w.within, size) in
        let next : n + k * n ≡ (k + 1) * n = omega arith in (
          within,
          sym (rw (← w.is, cut, ← size) (take-append_seam own left')),
          record { within = omega arith; is = sym (drop_at own left' n size) ∙ ap (drop n) (sym cut ∙ w.is) ∙ drop-drop n (k * n) xs ∙ ap (λ a. drop a xs) (omega arith) },
        )

    -- until fewer than n numbers are left.
    pub parts-end : {m : ℕ} → length left < n → length xs ≡ m * n → k ≡ m
    parts-end {m} few size =
        let rest = ap length w.is ∙ length-drop (k * n) xs in
        let up-to : k < m + 1 = lt_of_mul-lt-mul_right n {m = k} {n = m + 1} (omega (arith, w.within, size)) in
        let up-from : m < k + 1 = lt_of_mul-lt-mul_right n {m = m} {n = k + 1} (omega (arith, rest, size, w.within)) in
        omega arith

-- Among the trips to destinations to which nobody goes each number is 0.
unused-at : (nodes : ℕ) (trips : List ℕ) {first past i : ℕ} → first * nodes ≤ i → i < past * nodes → Unused nodes trips first past
    → get_or trips i 0 ≡ 0
unused-at nodes trips {first} {past} {i} low high nobody =
    let some-node : 0 < nodes = on-equal nodes 0 (λ none. absurd (omega (arith, rw none at high))) (λ some. omega (arith, some)) in
    rw (div-add-mod' i nodes)
    at (nobody (i / nodes) ((le-div_iff_mul-le some-node).1 low) ((div-lt_iff_lt-mul some-node).1 high) (i % nodes) (mod-lt i some-node))

-- The trips to the destinations from `first` on and below `past`, as a slice lends them.
abbrev pub trips-to : ℕ → List ℕ → ℕ → ℕ → List ℕ
trips-to nodes trips first past = take (past * nodes - first * nodes) (drop (first * nodes) trips)

module _ (nodes : ℕ) (trips : List ℕ) (first past : ℕ) (f≤ : first ≤ past) (p≤ : past * nodes ≤ length trips) where
  part-within : first * nodes ≤ past * nodes
  part-within = mul-le-mul_right nodes f≤

  part-size : length (trips-to nodes trips first past) ≡ past * nodes - first * nodes
  part-size = length_part (first * nodes) (past * nodes) trips part-within p≤

  part_at : (i : ℕ) → i < past * nodes - first * nodes → get_or (trips-to nodes trips first past) i 0 ≡ get_or trips (first * nodes + i) 0
  part_at = get_d_part (first * nodes) (past * nodes) trips part-within p≤

  pub trips-to-size : length (trips-to nodes trips first past) ≡ (past - first) * nodes
  trips-to-size =
      let parts : past ≡ first + (past - first) = omega arith in
      let product = ap (λ a. a * nodes) parts in
      omega (arith, part-size, product)

  -- Those to destination i among them,
  pub trips-to-at : (i : ℕ) → i < past - first → (j : ℕ) → j < nodes
      → get_or (trips-to nodes trips first past) (i * nodes + j) 0 ≡ get_or trips ((first + i) * nodes + j) 0
  trips-to-at i b j h =
      let within : (first + i + 1) * nodes ≤ past * nodes = mul-le-mul_right nodes (omega arith) in
      part_at (i * nodes + j) (omega (arith, within)) ∙ ap (λ a. get_or trips a 0) (omega arith)

  -- of which all are 0 where nobody goes to these destinations, and only there.
  pub no-trips : ZeroBelow (length (trips-to nodes trips first past)) (trips-to nodes trips first past) ↔ Unused nodes trips first past
  no-trips = (unused, zero)
    where
      unused : ZeroBelow (length (trips-to nodes trips first past)) (trips-to nodes trips first past) → Unused nodes trips first past
      unused zeros q b c j h =
          let low : first * nodes ≤ q * nodes = mul-le-mul_right nodes b in
          let high : (q + 1) * nodes ≤ past * nodes = mul-le-mul_right nodes (omega arith) in
          let i-below : q * nodes + j - first * nodes < past * nodes - first * nodes = omega (arith, low, high) in
          let place : q * nodes + j ≡ first * nodes + (q * nodes + j - first * nodes) = omega (arith, low) in
          ap (λ i. get_or trips i 0) place
          ∙ sym (part_at (q * nodes + j - first * nodes) i-below)
          ∙ zeros (q * nodes + j - first * nodes) (omega (arith, part-size))

      zero : Unused nodes trips first past → ZeroBelow (length (trips-to nodes trips first past)) (trips-to nodes trips first past)
      zero nobody i h =
          let inside : i < past * nodes - first * nodes = omega (arith, part-size) in
          part_at i inside ∙ unused-at nodes trips {first = first} {past = past} (omega arith) (omega (arith, part-within)) nobody
