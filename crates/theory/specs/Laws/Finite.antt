-- Sums, tests, searches and lists over the numbers below a bound: the laws of `Finite`.
use Rattle.std.specs.Prelude.{ℕ, zero, suc, ◌+◌, ◌*◌, ◌≤◌, ◌<◌, ◌≡◌, refl, Bool, true, false, ◌&&◌, cond, List, [], ◌∷◌, ◌++◌, ◌⊎◌, length, get_or, eqb}
use Rattle.std.proofs.Common.{zero-le, suc-le-suc, not-suc-le-zero, le_of_suc-le-suc, add-zero, add-suc, zero-mul, suc-mul, add-one, arith, sym, ◌∙◌, ap, ap₂, true≢false, append-nil, append_assoc, inl, inr, ⊎_elim, length-append, get_or-append-add, eq-eqb, ne_eqb}
use Rattle.std.proofs.Math.Decide.{dec_lt}
use Rattle.std.proofs.Math.Path.{fun_ext}
use Rattle.std.proofs.Math.Bool.{and-false}
use Rattle.std.proofs.Math.Option.{Option, none, some, some-injective, none-ne-some, some-ne-none}
use Rattle.std.proofs.Math.ListN.{get_or-append}
use Rattle.std.proofs.Math.Arith.{digits_lt}
use Rattle.theory.specs.Finite.{sum, count, all, first, largest, tabulate, rows}

-- A number below n + 1 is below n, or is n.
pub below_suc : (n i : ℕ) → i < suc n → (i < n) ⊎ (i ≡ n)
below_suc n i h = go (dec_lt i n)
  where
    go : Dec (i < n) → (i < n) ⊎ (i ≡ n)
    go (yes p) = inl p
    go (no p) = inr (omega (arith, p))

-- Of two numbers the first is smaller, or the second is at most the first.
pub order : (a b : ℕ) → (a < b) ⊎ (b ≤ a)
order a b = go (dec_lt a b)
  where
    go : Dec (a < b) → (a < b) ⊎ (b ≤ a)
    go (yes p) = inl p
    go (no p) = inr (omega (arith, p))

-- Sums.

pub sum-suc : (n : ℕ) (f : ℕ → ℕ) → sum (n + 1) f ≡ sum n f + f n
unfolding sum
sum-suc n f = rw add-one

pub sum-cong : (n : ℕ) (f g : ℕ → ℕ) → ((i : ℕ) → i < n → f i ≡ g i) → sum n f ≡ sum n g
unfolding sum
sum-cong zero f g h = refl
sum-cong (suc n) f g h =
    let a : sum n f ≡ sum n g = sum-cong n f g (λ i p. h i (omega arith)) in
    let b : f n ≡ g n = h n (omega arith) in
    omega arith

pub sum_mono : (n : ℕ) (f g : ℕ → ℕ) → ((i : ℕ) → i < n → f i ≤ g i) → sum n f ≤ sum n g
unfolding sum
sum_mono zero f g h = omega arith
sum_mono (suc n) f g h =
    let a : sum n f ≤ sum n g = sum_mono n f g (λ i p. h i (omega arith)) in
    let b : f n ≤ g n = h n (omega arith) in
    omega arith

pub sum-zero : (n : ℕ) (f : ℕ → ℕ) → ((i : ℕ) → i < n → f i ≡ 0) → sum n f ≡ 0
unfolding sum
sum-zero zero f h = refl
sum-zero (suc n) f h =
    let a : sum n f ≡ 0 = sum-zero n f (λ i p. h i (omega arith)) in
    let b : f n ≡ 0 = h n (omega arith) in
    omega arith

pub sum-add : (n : ℕ) (f g : ℕ → ℕ) → sum n (λ i. f i + g i) ≡ sum n f + sum n g
unfolding sum
sum-add zero f g = refl
sum-add (suc n) f g = let a = sum-add n f g in omega arith

pub sum-scale : (n c : ℕ) (f : ℕ → ℕ) → sum n (λ i. c * f i) ≡ c * sum n f
unfolding sum
sum-scale zero c f = omega arith
sum-scale (suc n) c f = let a = sum-scale n c f in omega arith

pub sum-swap : (n m : ℕ) (f : ℕ → ℕ → ℕ) → sum n (λ i. sum m (f i)) ≡ sum m (λ j. sum n (λ i. f i j))
unfolding sum
sum-swap zero m f = sym (sum-zero m (λ j. 0) (λ i p. refl))
sum-swap (suc n) m f =
    let a = sum-swap n m f in
    let b = sum-add m (λ j. sum n (λ i. f i j)) (f n) in
    omega arith

pub sum-term : (n : ℕ) (f : ℕ → ℕ) (i : ℕ) → i < n → f i ≤ sum n f
unfolding sum
sum-term zero f i h = omega arith
sum-term (suc n) f i h = ⊎_elim (λ p. let a = sum-term n f i p in omega arith) (λ e. rw e (omega arith)) (below_suc n i h)

pub sum_bound : (n b : ℕ) (f : ℕ → ℕ) → ((i : ℕ) → i < n → f i ≤ b) → sum n f ≤ n * b
unfolding sum
sum_bound zero b f h = omega arith
sum_bound (suc n) b f h =
    let a : sum n f ≤ n * b = sum_bound n b f (λ i p. h i (omega arith)) in
    let c : f n ≤ b = h n (omega arith) in
    omega arith

pub sum_more : (n m : ℕ) (f : ℕ → ℕ) → n ≤ m → sum n f ≤ sum m f
unfolding sum
sum_more n zero f h = let e : n ≡ 0 = omega arith in rw e (omega arith)
sum_more n (suc m) f h = go (below_suc (suc m) n (omega arith)) (sum_more n m f)
  where
    go : (n < suc m) ⊎ (n ≡ suc m) → (n ≤ m → sum n f ≤ sum m f) → sum n f ≤ sum m f + f m
    go (inl p) r = let a = r (omega arith) in omega arith
    go (inr e) r = rw e (omega arith)

-- Of the terms that are counted only at k, the sum has the one at k.
-- The sum of a list in two parts.
pub sum-append : (a b : ℕ) (f : ℕ → ℕ) → sum (a + b) f ≡ sum a f + sum b (λ k. f (a + k))
unfolding sum
sum-append a zero f = let e : a + 0 ≡ a = omega arith in rw e (omega arith)
sum-append a (suc b) f = let e : a + suc b ≡ suc (a + b) = omega arith in rw e (omega (arith, sum-append a b f))

pub sum-pick : (n : ℕ) (f : ℕ → ℕ) (k : ℕ) → k < n → sum n (λ i. cond (eqb k i) (f i) 0) ≡ f k
unfolding sum
sum-pick zero f k h = omega arith
sum-pick (suc n) f k h = ⊎_elim (λ p. below p (sum-pick n f k p)) here (below_suc n k h)
  where
    off : (i : ℕ) → (k ≡ i → ⊥) → cond (eqb k i) (f i) 0 ≡ 0
    off i p = rw (ne_eqb k i p)

    below : k < n → sum n (λ i. cond (eqb k i) (f i) 0) ≡ f k → sum n (λ i. cond (eqb k i) (f i) 0) + cond (eqb k n) (f n) 0 ≡ f k
    below p a = let b = off n (λ e. omega (arith, e)) in omega arith

    here : k ≡ n → sum n (λ i. cond (eqb k i) (f i) 0) + cond (eqb k n) (f n) 0 ≡ f k
    here e =
        let a = sum-zero n (λ i. cond (eqb k i) (f i) 0) (λ i p. off i (λ q. omega (arith, q))) in
        let b : cond (eqb k n) (f n) 0 ≡ f n = rw (eq-eqb k n e) in
        let c : f k ≡ f n = ap f e in
        omega arith

-- Counts.

one-most : (b : Bool) → cond b 1 0 ≤ 1
one-most true = omega arith
one-most false = omega arith

pub count_most : (n : ℕ) (t : ℕ → Bool) → count n t ≤ n
count_most n t = omega (arith, sum_bound n 1 (λ i. cond (t i) 1 0) (λ i p. one-most (t i)))

pub count_none : (n : ℕ) (t : ℕ → Bool) → ((i : ℕ) → i < n → t i ≡ false) → count n t ≡ 0
count_none n t h = sum-zero n (λ i. cond (t i) 1 0) (λ i p. rw (h i p))

pub count-cong : (n : ℕ) (t u : ℕ → Bool) → ((i : ℕ) → i < n → t i ≡ u i) → count n t ≡ count n u
count-cong n t u h = sum-cong n (λ i. cond (t i) 1 0) (λ i. cond (u i) 1 0) (λ i p. rw (h i p))

-- Tests.

pub all-suc : (n : ℕ) (t : ℕ → Bool) → all (n + 1) t ≡ (all n t && t n)
unfolding all
all-suc n t = rw add-one

-- The parts of a conjunction.
pub and_left : (a b : Bool) → (a && b) ≡ true → a ≡ true
and_left true b e = refl
and_left false b e = e

pub and_right : (a b : Bool) → (a && b) ≡ true → b ≡ true
and_right true b e = e
and_right false true e = refl
and_right false false e = e

pub both : (a b : Bool) → a ≡ true → b ≡ true → (a && b) ≡ true
both a b p q = rw (p, q)

pub all-elim : (n : ℕ) (t : ℕ → Bool) → all n t ≡ true → (i : ℕ) → i < n → t i ≡ true
unfolding all
all-elim zero t e i h = absurd (not-suc-le-zero h)
all-elim (suc n) t e i h =
    ⊎_elim (λ p. all-elim n t (and_left (all n t) (t n) e) i p) (λ q. rw q (and_right (all n t) (t n) e)) (below_suc n i h)

pub all-intro : (n : ℕ) (t : ℕ → Bool) → ((i : ℕ) → i < n → t i ≡ true) → all n t ≡ true
unfolding all
all-intro zero t h = refl
all-intro (suc n) t h = both (all n t) (t n) (all-intro n t (λ i p. h i (omega arith))) (h n (omega arith))

pub all-refuted : (n : ℕ) (t : ℕ → Bool) (i : ℕ) → i < n → t i ≡ false → all n t ≡ false
unfolding all
all-refuted zero t i h e = absurd (not-suc-le-zero h)
all-refuted (suc n) t i h e =
    ⊎_elim (λ p. rw (all-refuted n t i p e)) (λ q. let b : t n ≡ false = (rw q at e) in rw (b, and-false (all n t))) (below_suc n i h)

pub all-cong : (n : ℕ) (t u : ℕ → Bool) → ((i : ℕ) → i < n → t i ≡ u i) → all n t ≡ all n u
unfolding all
all-cong zero t u h = refl
all-cong (suc n) t u h =
    let a : all n t ≡ all n u = all-cong n t u (λ i p. h i (omega arith)) in
    let b : t n ≡ u n = h n (omega arith) in
    cc

-- Two tests of each are one test of all and another of all.
and-swap : (a b c d : Bool) → (a && b && (c && d)) ≡ (a && c && (b && d))
and-swap true true c d = refl
and-swap true false true d = refl
and-swap true false false d = refl
and-swap false b c d = refl

pub all-and : (n : ℕ) (t u : ℕ → Bool) → all n (λ i. t i && u i) ≡ (all n t && all n u)
unfolding all
all-and zero t u = refl
all-and (suc n) t u = rw (all-and n t u) (and-swap (all n t) (all n u) (t n) (u n))

-- Lists.

pub length-tabulate : {A : Type 0} (n : ℕ) (f : ℕ → A) → length (tabulate n f) ≡ n
unfolding tabulate
length-tabulate zero f = refl
length-tabulate (suc n) f = ap suc (length-tabulate n (λ i. f (suc i)))

pub get_d_tabulate : {A : Type 0} (n : ℕ) (f : ℕ → A) (d : A) (i : ℕ) → i < n → get_or (tabulate n f) i d ≡ f i
unfolding tabulate
get_d_tabulate zero f d i h = absurd (not-suc-le-zero h)
get_d_tabulate (suc n) f d zero h = refl
get_d_tabulate (suc n) f d (suc i) h = get_d_tabulate n (λ j. f (suc j)) d i (le_of_suc-le-suc h)

pub tabulate-cong : {A : Type 0} (n : ℕ) (f g : ℕ → A) → ((i : ℕ) → i < n → f i ≡ g i) → tabulate n f ≡ tabulate n g
unfolding tabulate
tabulate-cong zero f g h = refl
tabulate-cong (suc n) f g h =
    let a = tabulate-cong n (λ i. f (suc i)) (λ i. g (suc i)) (λ i p. h (suc i) (suc-le-suc p)) in
    let b = h zero (suc-le-suc zero-le) in
    cc

tabulate-snoc : {A : Type 0} (n : ℕ) (f : ℕ → A) → tabulate (suc n) f ≡ tabulate n f ++ (f n ∷ [])
unfolding tabulate
tabulate-snoc zero f = refl
tabulate-snoc (suc n) f = ap (λ l. f zero ∷ l) (tabulate-snoc n (λ i. f (suc i)))

pub tabulate-suc : {A : Type 0} (n : ℕ) (f : ℕ → A) → tabulate (n + 1) f ≡ tabulate n f ++ (f n ∷ [])
tabulate-suc n f = rw add-one (tabulate-snoc n f)

-- Rows that are the same, one by one, make the same list.
-- A list by index in two parts,
pub tabulate-append : {A : Type 0} (a b : ℕ) (f : ℕ → A) → tabulate (a + b) f ≡ tabulate a f ++ tabulate b (λ j. f (a + j))
unfolding tabulate
tabulate-append a zero f = rw (add-zero a) (sym (append-nil (tabulate a f)))
tabulate-append a (suc b) f =
    rw (add-suc a b, tabulate-snoc (a + b) f, tabulate-append a b f, tabulate-snoc b (λ j. f (a + j)))
    (append_assoc (tabulate a f) (tabulate b (λ j. f (a + j))) (f (a + b) ∷ []))

-- and in rows of equal length.
pub rows-flat : (p n : ℕ) (f : ℕ → ℕ) → rows p (λ k. tabulate n (λ j. f (k * n + j))) ≡ tabulate (p * n) f
unfolding rows tabulate
rows-flat zero n f = rw (zero-mul n)
rows-flat (suc p) n f =
    rw (suc-mul p n) (ap (λ xs. xs ++ tabulate n (λ j. f (p * n + j))) (rows-flat p n f) ∙ sym (tabulate-append (p * n) n f))

pub rows-cong : (n : ℕ) (f g : ℕ → List ℕ) → ((k : ℕ) → k < n → f k ≡ g k) → rows n f ≡ rows n g
unfolding rows
rows-cong zero f g same = refl
rows-cong (suc n) f g same = ap₂ (λ a b. a ++ b) (rows-cong n f g (λ k h. same k (omega arith))) (same n (omega arith))

-- Rows of one length, one after the other.
pub length-rows : (n m : ℕ) (row : ℕ → List ℕ) → ((k : ℕ) → k < n → length (row k) ≡ m) → length (rows n row) ≡ n * m
unfolding rows
length-rows zero m row h = omega arith
length-rows (suc n) m row h =
    let a = length-append (rows n row) (row n) in
    let b = length-rows n m row (λ k p. h k (omega arith)) in
    let c = h n (omega arith) in
    omega arith

pub get_d_rows : (n m : ℕ) (row : ℕ → List ℕ) → ((k : ℕ) → k < n → length (row k) ≡ m) → (d k l : ℕ) → k < n → l < m → get_or (rows n row) (k * m + l) d ≡ get_or (row k) l d
unfolding rows
get_d_rows zero m row h d k l p q = omega arith
get_d_rows (suc n) m row h d k l p q =
    ⊎_elim (λ r. before r (get_d_rows n m row (λ i s. h i (omega arith)) d k l r q)) here (below_suc n k p)
  where
    size : length (rows n row) ≡ n * m
    size = length-rows n m row (λ i s. h i (omega arith))

    before : k < n → get_or (rows n row) (k * m + l) d ≡ get_or (row k) l d → get_or (rows n row ++ row n) (k * m + l) d ≡ get_or (row k) l d
    before r e =
        get_or-append (rows n row) (row n) d (k * m + l) (omega (arith, size, digits_lt {q = k} {m = n} {r = l} {c = m} r q)) ∙ e

    here : k ≡ n → get_or (rows n row ++ row n) (k * m + l) d ≡ get_or (row k) l d
    here e =
        let place : k * m + l ≡ length (rows n row) + l = omega (arith, ap (λ i. i * m) e, size) in
        rw place (get_or-append-add (rows n row) (row n) l d ∙ ap (λ i. get_or (row i) l d) (sym e))

-- The rows of two lists, one after the other.
pub rows_append : (a b : ℕ) (row : ℕ → List ℕ) → rows (a + b) row ≡ rows a row ++ rows b (λ k. row (a + k))
unfolding rows
rows_append a zero row = let e : a + 0 ≡ a = omega arith in rw e (sym (append-nil (rows a row)))
rows_append a (suc b) row =
    let e : a + suc b ≡ suc (a + b) = omega arith in
    rw e (ap (λ xs. xs ++ row (a + b)) (rows_append a b row) ∙ append_assoc (rows a row) (rows b (λ k. row (a + k))) (row (a + b)))

-- The lowest number below n of which a test holds.
pub record Lowest (n : ℕ) (t : ℕ → Bool) (i : ℕ) : Type 0 where
  pub below : i < n
  pub fits : t i ≡ true
  pub lower : (k : ℕ) → k < i → t k ≡ false

-- One step of the search, by what it had found before.
abbrev found : Option ℕ → Bool → ℕ → Option ℕ
found none true n = some n
found none false n = none
found (some i) b n = some i

first_step : (n : ℕ) (t : ℕ → Bool) → first (suc n) t ≡ found (first n t) (t n) n
unfolding first
first_step n t = go (first n t) (t n)
  where
    go : (o : Option ℕ) (b : Bool) → elim o as (λ x. Option ℕ) [ none ↦ elim b as (λ x. Option ℕ) [ true ↦ some n | false ↦ none ] | some i ↦ some i ] ≡ found o b n
    go none true = refl
    go none false = refl
    go (some i) b = refl

pub first-suc-found : (n : ℕ) (t : ℕ → Bool) (i : ℕ) → first n t ≡ some i → first (n + 1) t ≡ some i
first-suc-found n t i e = rw (add-one, first_step, e)

pub first-suc-here : (n : ℕ) (t : ℕ → Bool) → first n t ≡ none → t n ≡ true → first (n + 1) t ≡ some n
first-suc-here n t e h = rw (add-one, first_step, e, h)

pub first-suc-none : (n : ℕ) (t : ℕ → Bool) → first n t ≡ none → t n ≡ false → first (n + 1) t ≡ none
first-suc-none n t e h = rw (add-one, first_step, e, h)

pub first-none : (n : ℕ) (t : ℕ → Bool) → first n t ≡ none → (i : ℕ) → i < n → t i ≡ false
first-none zero t e i h = absurd (not-suc-le-zero h)
first-none (suc n) t e i h = go (first n t) (t n) refl refl (sym (first_step n t) ∙ e) (λ p. first-none n t p i)
  where
    go : (o : Option ℕ) (b : Bool) → first n t ≡ o → t n ≡ b → found o b n ≡ none → (first n t ≡ none → i < n → t i ≡ false) → t i ≡ false
    go none true p q r rec = absurd (some-ne-none n r)
    go none false p q r rec = ⊎_elim (λ s. rec p s) (λ s. rw s q) (below_suc n i h)
    go (some x) b p q r rec = absurd (some-ne-none x r)

pub first_some : (n : ℕ) (t : ℕ → Bool) (i : ℕ) → first n t ≡ some i → Lowest n t i
unfolding first
first_some zero t i e = absurd (none-ne-some i e)
first_some (suc n) t i e = go (first n t) (t n) refl refl (sym (first_step n t) ∙ e) (first_some n t i)
  where
    go : (o : Option ℕ) (b : Bool) → first n t ≡ o → t n ≡ b → found o b n ≡ some i → (first n t ≡ some i → Lowest n t i) → Lowest (suc n) t i
    go none true p q r rec =
        let same : n ≡ i = some-injective n i r in
        record {
          below = omega arith;
          fits = rw (← same) q;
          lower = λ k s. first-none n t p k (omega arith);
        }
    go none false p q r rec = absurd (none-ne-some i r)
    go (some x) b p q r rec =
        let low = rec (p ∙ r) in
        record { below = omega (arith, low.below); fits = low.fits; lower = low.lower }

pub none_first : (n : ℕ) (t : ℕ → Bool) → ((i : ℕ) → i < n → t i ≡ false) → first n t ≡ none
none_first n t h = go (first n t) refl
  where
    go : (o : Option ℕ) → first n t ≡ o → first n t ≡ none
    go none p = p
    go (some i) p = let low = first_some n t i p in absurd (true≢false (sym low.fits ∙ h i low.below))

pub some_first : (n : ℕ) (t : ℕ → Bool) (i : ℕ) → Lowest n t i → first n t ≡ some i
some_first n t i low = go (first n t) refl
  where
    same : (k : ℕ) → Lowest n t k → k ≡ i
    same k l =
        ⊎_elim (λ p. absurd (true≢false (sym l.fits ∙ low.lower k p)))
        (λ p. ⊎_elim (λ q. absurd (true≢false (sym low.fits ∙ l.lower i q))) (λ q. sym q) (below_suc k i (suc-le-suc p)))
        (order k i)

    go : (o : Option ℕ) → first n t ≡ o → first n t ≡ some i
    go none p = absurd (true≢false (sym low.fits ∙ first-none n t p i low.below))
    go (some k) p = p ∙ ap some (same k (first_some n t k p))

-- The largest number from 1 to n of which a test holds, or 0.

largest-here : (n : ℕ) (t : ℕ → Bool) → t (suc n) ≡ true → largest (suc n) t ≡ suc n
unfolding largest
largest-here n t e = rw (e, largest)

largest-below : (n : ℕ) (t : ℕ → Bool) → t (suc n) ≡ false → largest (suc n) t ≡ largest n t
unfolding largest
largest-below n t e = rw (e, largest)

pub largest-le : (n : ℕ) (t : ℕ → Bool) → largest n t ≤ n
unfolding largest
largest-le zero t = omega arith
largest-le (suc n) t = go (t (suc n)) refl (largest-le n t)
  where
    go : (b : Bool) → t (suc n) ≡ b → largest n t ≤ n → largest (suc n) t ≤ suc n
    go true e r = omega (arith, largest-here n t e)
    go false e r = omega (arith, largest-below n t e)

pub largest-holds : (n : ℕ) (t : ℕ → Bool) → 1 ≤ largest n t → t (largest n t) ≡ true
unfolding largest
largest-holds zero t h = absurd (not-suc-le-zero h)
largest-holds (suc n) t h = go (t (suc n)) refl (largest-holds n t)
  where
    go : (b : Bool) → t (suc n) ≡ b → (1 ≤ largest n t → t (largest n t) ≡ true) → t (largest (suc n) t) ≡ true
    go true e r = rw (largest-here n t e) e
    go false e r = rw (largest-below n t e) (r (omega (arith, largest-below n t e)))

pub largest-most : (n : ℕ) (t : ℕ → Bool) (j : ℕ) → largest n t < j → j ≤ n → t j ≡ false
unfolding largest
largest-most zero t j p q = let z : ⊥ = omega arith in absurd z
largest-most (suc n) t j p q = go (t (suc n)) refl (largest-most n t j)
  where
    go : (b : Bool) → t (suc n) ≡ b → (largest n t < j → j ≤ n → t j ≡ false) → t j ≡ false
    go true e r = let z : ⊥ = omega (arith, largest-here n t e) in absurd z
    go false e r =
        ⊎_elim (λ s. r (omega (arith, largest-below n t e)) (omega arith)) (λ s. rw s e) (below_suc (suc n) j (omega arith))

pub largest-is : (n : ℕ) (t : ℕ → Bool) (j : ℕ) → j ≤ n → ((j ≡ 0) ⊎ (t j ≡ true)) → ((i : ℕ) → j < i → i ≤ n → t i ≡ false) → largest n t ≡ j
largest-is n t j h fits above =
    ⊎_elim (λ p. absurd (too_large p)) (λ p. ⊎_elim (λ q. absurd (too_small q)) (λ q. q) (below_suc j (largest n t) (suc-le-suc p)))
    (order j (largest n t))
  where
    too_large : j < largest n t → ⊥
    too_large p = true≢false (sym (largest-holds n t (omega arith)) ∙ above (largest n t) p (largest-le n t))

    too_small : largest n t < j → ⊥
    too_small p = ⊎_elim (λ e. omega arith) (λ e. true≢false (sym e ∙ largest-most n t j p h)) fits

pub largest-cong : (n : ℕ) (t u : ℕ → Bool) → ((j : ℕ) → t j ≡ u j) → largest n t ≡ largest n u
largest-cong n t u h = ap (largest n) (fun_ext h)
