-- A part of a list, as a slice lends it: `size` numbers from `first` on.
use Rattle.std.specs.Prelude.{ℕ, ◌+◌, ◌*◌, ◌-◌, ◌≤◌, ◌<◌, ◌≡◌, List, [], ◌++◌, length, get_or, take, drop}
use Rattle.std.proofs.Common.{mul-le-mul, mul-le-mul_right, arith, sym, ◌∙◌, ap, append-nil, length-append, length-take, length-drop, drop_of_length-le, get_or-append-add, get_or-drop, get_or-take, take_all, drop_at}
use Rattle.std.proofs.Math.ListN.{get_or-append}

abbrev pub part : List ℕ → ℕ → ℕ → List ℕ
part xs first size = take (first + size - first) (drop first xs)

-- The list after its part has become another one, as long.
abbrev pub replaced : List ℕ → ℕ → ℕ → List ℕ → List ℕ
replaced xs first size ys = take first xs ++ (ys ++ drop (first + size - first) (drop first xs))

-- Row k of p rows, each of m numbers, ends within them.
pub row_within : {k p : ℕ} (m : ℕ) → k < p → k * m + m ≤ p * m
row_within {k} {p} m h = let more : (k + 1) * m ≤ p * m = mul-le-mul_right m (omega arith) in omega arith

pub row-most : {k p m : ℕ} (a b : ℕ) → k < p → p ≤ a → m ≤ b → k * m + m ≤ a * b
row-most {k} {p} {m} a b h few short =
    let within = row_within m h in let all = mul-le-mul {n₁ = p} {m₁ = m} {n₂ = a} {m₂ = b} few short in omega arith

module _ (xs : List ℕ) (first size : ℕ) where
  pub part_at : (i : ℕ) → i < size → get_or (part xs first size) i 0 ≡ get_or xs (first + i) 0
  part_at i h = get_or-take (first + size - first) (drop first xs) i 0 (omega arith) ∙ get_or-drop first xs i 0

  module _ (within : first + size ≤ length xs) where
    pub length_part : length (part xs first size) ≡ size
    length_part = omega (arith, length-take (first + size - first) (drop first xs), length-drop first xs)

    module _ (ys : List ℕ) (long : length ys ≡ size) where
      abbrev rest : List ℕ
      rest = drop (first + size - first) (drop first xs)

      length-first : length (take first xs) ≡ first
      length-first = omega (arith, length-take first xs)

      pub length-replaced : length (replaced xs first size ys) ≡ length xs
      length-replaced =
          omega (
            arith,
            length-first,
            length-append (take first xs) (ys ++ rest),
            length-append ys rest,
            length-drop (first + size - first) (drop first xs),
            length-drop first xs,
          )

      -- Before the part and past it the list is as it was, and within it it is the new part.
      pub replaced-before : (i : ℕ) → i < first → get_or (replaced xs first size ys) i 0 ≡ get_or xs i 0
      replaced-before i h =
          get_or-append (take first xs) (ys ++ rest) 0 i (omega (arith, length-first)) ∙ get_or-take first xs i 0 h

      from_first : (i : ℕ) → get_or (replaced xs first size ys) (first + i) 0 ≡ get_or (ys ++ rest) i 0
      from_first i =
          ap (λ x. get_or (replaced xs first size ys) x 0) (ap (λ n. n + i) (sym length-first))
          ∙ get_or-append-add (take first xs) (ys ++ rest) i 0

      pub replaced-within : (i : ℕ) → i < size → get_or (replaced xs first size ys) (first + i) 0 ≡ get_or ys i 0
      replaced-within i h = from_first i ∙ get_or-append ys rest 0 i (omega arith)

      pub replaced-past : (i : ℕ) → first + size ≤ i → get_or (replaced xs first size ys) i 0 ≡ get_or xs i 0
      replaced-past i h =
          let place : i ≡ first + (length ys + (i - first - size)) = omega arith in
          ap (λ x. get_or (replaced xs first size ys) x 0) place
          ∙ from_first (length ys + (i - first - size))
          ∙ get_or-append-add ys rest (i - first - size) 0
          ∙ get_or-drop (first + size - first) (drop first xs) (i - first - size) 0
          ∙ get_or-drop first xs (first + size - first + (i - first - size)) 0
          ∙ ap (λ x. get_or xs x 0) (omega arith)

-- A list from a place on, as a slice lends it.
abbrev pub behind : {A : Type 0} → List A → ℕ → List A
behind xs first = take (length xs - first) (drop first xs)

module _ {A : Type 0} (xs : List A) (first : ℕ) where
  pub behind-is : behind xs first ≡ drop first xs
  behind-is = take_all (length xs - first) (drop first xs) (omega (arith, length-drop first xs))

  pub behind-at : (i : ℕ) (d : A) → get_or (behind xs first) i d ≡ get_or xs (first + i) d
  behind-at i d = ap (λ ys. get_or ys i d) behind-is ∙ get_or-drop first xs i d

  pub length-behind : length (behind xs first) ≡ length xs - first
  length-behind = ap length behind-is ∙ length-drop first xs

-- The list after what stands from a place on has become another one, as long.
abbrev pub replaced_behind : {A : Type 0} → List A → ℕ → List A → List A
replaced_behind xs first ys = take first xs ++ (ys ++ drop (length xs - first) (drop first xs))

module _ {A : Type 0} (xs : List A) (first : ℕ) (within : first ≤ length xs) (ys : List A) (long : length ys ≡ length xs - first) where
  first-long : length (take first xs) ≡ first
  first-long = omega (arith, length-take first xs)

  -- Nothing is left behind it.
  none_left : drop (length xs - first) (drop first xs) ≡ []
  none_left = drop_of_length-le (drop first xs) {i = length xs - first} (omega (arith, length-drop first xs))

  replaced-is : replaced_behind xs first ys ≡ take first xs ++ ys
  replaced-is = ap (λ rest. take first xs ++ (ys ++ rest)) none_left ∙ ap (λ zs. take first xs ++ zs) (append-nil ys)

  pub behind-replaced : behind (replaced_behind xs first ys) first ≡ ys
  behind-replaced =
      behind-is (replaced_behind xs first ys) first ∙ ap (drop first) replaced-is ∙ drop_at (take first xs) ys first first-long

  pub before-replaced : (i : ℕ) (d : A) → i < first → get_or (replaced_behind xs first ys) i d ≡ get_or xs i d
  before-replaced i d h =
      ap (λ zs. get_or zs i d) replaced-is ∙ get_or-append (take first xs) ys d i (omega (arith, first-long)) ∙ get_or-take first xs i d h

  pub length-behind-replaced : length (replaced_behind xs first ys) ≡ length xs
  length-behind-replaced = ap length replaced-is ∙ omega (arith, length-append (take first xs) ys, first-long)
