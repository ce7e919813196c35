-- Sums, tests, searches and lists over the numbers below a bound.
use Rattle.std.specs.Prelude.{ℕ, zero, suc, ◌+◌, Bool, true, false, ◌&&◌, cond, List, [], ◌∷◌, ◌++◌}
use Rattle.std.proofs.Math.Option.{Option, none, some}

-- f 0 + f 1 + .. + f (n - 1)
unfoldable pub sum : ℕ → (ℕ → ℕ) → ℕ
sum zero f = 0
sum (suc n) f = sum n f + f n

-- How many numbers below n there are of which the test holds.
abbrev pub count : ℕ → (ℕ → Bool) → ℕ
count n test = sum n (λ i. cond (test i) 1 0)

-- The test holds of every number below n.
unfoldable pub all : ℕ → (ℕ → Bool) → Bool
all zero test = true
all (suc n) test = all n test && test n

-- The lowest number below n of which the test holds.
unfoldable pub first : ℕ → (ℕ → Bool) → Option ℕ
first zero test = none
first (suc n) test = elim (first n test) [ none ↦ elim (test n) [ true ↦ some n | false ↦ none ] | some i ↦ some i ]

-- The largest number from 1 to n of which the test holds, or 0.
unfoldable pub largest : ℕ → (ℕ → Bool) → ℕ
largest zero test = 0
largest (suc n) test = elim (test (suc n)) [ true ↦ suc n | false ↦ largest n test ]

-- The list f 0, f 1, .., f (n - 1).
unfoldable pub tabulate : {A : Type 0} → ℕ → (ℕ → A) → List A
tabulate zero f = []
tabulate (suc n) f = f zero ∷ tabulate n (λ i. f (suc i))

-- The lists row 0, row 1, .., row (n - 1), one after the other.
unfoldable pub rows : ℕ → (ℕ → List ℕ) → List ℕ
rows zero row = []
rows (suc n) row = rows n row ++ row n
