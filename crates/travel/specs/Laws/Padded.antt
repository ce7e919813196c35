-- Arrays of which the first m numbers count and the others are 0. Those by link have 512 numbers.
use Rattle.std.specs.Prelude.{◌≡◌, ℕ, ◌+◌, ◌-◌, ◌<◌, ◌≤◌, List, ◌++◌, length, drop, replicate, ◌≢◌, slice_index, slice_index_or, slice_set, refl}
use Rattle.std.proofs.Common.{arith, sym, ◌∙◌, ap, ⊎_elim, length-append, length-drop, length-set, get_or-append-add, ext_get_or, get_or-set_same, get_or-set_other}
use Rattle.std.proofs.lemmas.List.{length-replicate, get_or-replicate}
use Rattle.std.proofs.Math.ListN.{get_or-append, get_or-eq_default}
use Rattle.std.proofs.lemmas.Grind.{elements}
use Rattle.theory.specs.Finite.{tabulate}
use Rattle.theory.specs.Laws.Finite.{length-tabulate, get_d_tabulate, order, below_suc}
use Rattle.travel.specs.Links.{padded}
use Rattle.travel.specs.Ranges.{ClearPast, Clear, RowAdded}

get_d-zeros : (n i : ℕ) → slice_index_or {A = ℕ} (replicate n 0) i 0 ≡ 0
get_d-zeros n i =
    ⊎_elim (λ p. get_or-replicate n i 0 0 p)
    (λ p. get_or-eq_default (replicate n 0) 0 (omega (arith, length-replicate {A = ℕ} n 0)))
    (order i n)

-- For 512 stands an arbitrary number, so that nothing computes 512 zeros.
module _ (n m : ℕ) (f : ℕ → ℕ) where
  size : m ≤ n → length (tabulate m f ++ replicate (n - m) 0) ≡ n
  size h =
      omega
      (arith, length-append (tabulate m f) (replicate (n - m) 0), length-tabulate m f, length-replicate {A = ℕ} (n - m) 0)

  counted : (l : ℕ) → l < m → slice_index (tabulate m f ++ replicate (n - m) 0) l ≡ f l
  counted l p =
      get_or-append (tabulate m f) (replicate (n - m) 0) 0 l (omega (arith, length-tabulate m f)) ∙ get_d_tabulate m f 0 l p

  rest : (l : ℕ) → m ≤ l → slice_index (tabulate m f ++ replicate (n - m) 0) l ≡ 0
  rest l p =
      let place : l ≡ length (tabulate m f) + (l - m) = omega (arith, length-tabulate m f) in
      rw place (get_or-append-add (tabulate m f) (replicate (n - m) 0) (l - m) 0 ∙ get_d-zeros (n - m) (l - m))

-- How long the array is, and what stands in it.

pub length-padded : (m : ℕ) (f : ℕ → ℕ) → m ≤ 512 → length (padded m f) ≡ 512
unfolding padded
length-padded m f h = size 512 m f h

pub get_d-padded : (m : ℕ) (f : ℕ → ℕ) (l : ℕ) → l < m → slice_index (padded m f) l ≡ f l
unfolding padded
get_d-padded m f l p = counted 512 m f l p

pub get_d-padded-rest : (m : ℕ) (f : ℕ → ℕ) (l : ℕ) → m ≤ l → slice_index (padded m f) l ≡ 0
unfolding padded
get_d-padded-rest m f l p = rest 512 m f l p

-- An array with these numbers is that one.
pub padded-is : (m : ℕ) (f : ℕ → ℕ) (xs : List ℕ) → m ≤ 512 → length xs ≡ 512 → ((l : ℕ) → l < m → slice_index xs l ≡ f l) →
    ((l : ℕ) → m ≤ l → slice_index xs l ≡ 0) → xs ≡ padded m f
padded-is m f xs h long here past =
    ext_get_or 0 xs (padded m f) (long ∙ sym (length-padded m f h)) (λ l p.
    ⊎_elim (λ q. here l q ∙ sym (get_d-padded m f l q)) (λ q. past l q ∙ sym (get_d-padded-rest m f l q)) (order l m))

pub padded-cong : (m : ℕ) (f g : ℕ → ℕ) → m ≤ 512 → ((l : ℕ) → l < m → f l ≡ g l) → padded m f ≡ padded m g
padded-cong m f g h same =
    padded-is m g (padded m f) h (length-padded m f h) (λ l p. get_d-padded m f l p ∙ same l p) (get_d-padded-rest m f)

-- Zeros alone.
pub padded-none : (f : ℕ → ℕ) → replicate 512 0 ≡ padded 0 f
unfolding padded tabulate
padded-none f = refl

pub padded-zeros : (m : ℕ) (f : ℕ → ℕ) → m ≤ 512 → ((l : ℕ) → l < m → f l ≡ 0) → replicate 512 0 ≡ padded m f
padded-zeros m f h zero = padded-none f ∙ padded-is m f (padded 0 f) h (length-padded 0 f (omega arith)) (λ l p. none l ∙ sym (zero l p)) (λ l p. none l)
  where
    none : (l : ℕ) → slice_index (padded 0 f) l ≡ 0
    none l = get_d-padded-rest 0 f l (omega arith)

-- Past the numbers that count there are zeros.
pub padded-clear : (m : ℕ) (f : ℕ → ℕ) → m ≤ 512 → Clear m (padded m f)
padded-clear m f h = record { size = length-padded m f h; rest = get_d-padded-rest m f }

pub zeros-past : (n m : ℕ) → ClearPast n m (replicate n 0)
zeros-past n m = record { size = length-replicate {A = ℕ} n 0; rest = λ l p. get_d-zeros n l }

pub zeros-clear : (m : ℕ) → Clear m (replicate 512 0)
zeros-clear m = zeros-past 512 m

-- Zeros are written before those of an array.
pub cleared : (n m : ℕ) (zeros xs : List ℕ) → m ≤ n → ClearPast n m xs → zeros ≡ replicate m 0 → ClearPast n 0 (zeros ++ drop m xs)
cleared n m zeros xs h clear is =
    rw is (record {
      size = omega (arith, length-append (replicate m 0) (drop m xs), length-replicate {A = ℕ} m 0, length-drop m xs, clear.size);
      rest = λ l p. ⊎_elim (below l) (past l) (order l m);
    })
  where
    below : (l : ℕ) → l < m → slice_index (replicate m 0 ++ drop m xs) l ≡ 0
    below l p = get_or-append (replicate m 0) (drop m xs) 0 l (omega (arith, length-replicate {A = ℕ} m 0)) ∙ get_d-zeros m l

    past : (l : ℕ) → m ≤ l → slice_index (replicate m 0 ++ drop m xs) l ≡ 0
    past l p = let zero = clear.rest l p in grind (arith, elements)

-- An array whose first m numbers are written one after the other: the first l are written, and past m there are zeros.
pub record Filled (l m : ℕ) (f : ℕ → ℕ) (xs : List ℕ) : Type 0 where
  pub size : length xs ≡ 512
  pub written : (i : ℕ) → i < l → slice_index xs i ≡ f i
  pub past : (i : ℕ) → m ≤ i → slice_index xs i ≡ 0

module _ (m : ℕ) (f : ℕ → ℕ) (xs : List ℕ) where
  pub filled_none : Clear m xs → Filled 0 m f xs
  filled_none clear = record { size = clear.size; written = λ i p. omega arith; past = clear.rest }

  pub filled-all : m ≤ 512 → Filled m m f xs → xs ≡ padded m f
  filled-all h all = padded-is m f xs h all.size all.written all.past

  -- The next number.
  pub filled_more : (l x : ℕ) → l < m → m ≤ 512 → Filled l m f xs → x ≡ f l → Filled (l + 1) m f (slice_set xs l x)
  filled_more l x h few so_far this =
      record {
        size = length-set xs l x ∙ so_far.size;
        written = λ i p. ⊎_elim (λ q. other i (λ e. omega arith) ∙ so_far.written i q) (at i) (below_suc l i (omega arith));
        past = λ i p. other i (λ e. omega arith) ∙ so_far.past i p;
      }
    where
      other : (i : ℕ) → (i ≢ l) → slice_index (slice_set xs l x) i ≡ slice_index xs i
      other i p = get_or-set_other xs l i x 0 p

      at : (i : ℕ) → i ≡ l → slice_index (slice_set xs l x) i ≡ f i
      at i e = rw e (get_or-set_same xs l x 0 (omega (arith, so_far.size)) ∙ this)

-- A row added to the array.
pub padded-added : (m : ℕ) (f g : ℕ → ℕ) (row after : List ℕ) → m ≤ 512 → RowAdded m row (padded m f) after →
    ((l : ℕ) → l < m → g l ≡ f l + slice_index row l) → after ≡ padded m g
padded-added m f g row after h sum same =
    padded-is m g after h (sum.size ∙ length-padded m f h)
    (λ l p. sum.added l p ∙ ap (λ x. x + slice_index row l) (get_d-padded m f l p) ∙ sym (same l p))
    (λ l p. sum.kept l p ∙ get_d-padded-rest m f l p)

-- Numbers that are at most `most` where they count are so everywhere.
pub padded-within : (m : ℕ) (f : ℕ → ℕ) (most : ℕ) → ((l : ℕ) → l < m → f l ≤ most) → (l : ℕ) → slice_index (padded m f) l ≤ most
padded-within m f most h l =
    ⊎_elim (λ p. rw (get_d-padded m f l p) (h l p)) (λ p. rw (get_d-padded-rest m f l p) (omega arith)) (order l m)
