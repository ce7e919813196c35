-- Lent memory of which the first numbers are replaced.
use Rattle.std.specs.Prelude.{ℕ, ◌+◌, ◌*◌, ◌-◌, ◌≤◌, ◌<◌, ◌≡◌, refl, List, ◌++◌, set}
use Rattle.std.proofs.Common.{arith, sym, ◌∙◌, ⊎_elim, length-set, get_or-set_same, get_or-set_other, ext_get_or}
use Rattle.std.proofs.Math.Path.{ap}
use Rattle.std.proofs.Math.ListN.{length, get_or, drop, length-append, length-drop, get_or-append}
use Rattle.std.proofs.Math.Seq.{get_or-append-add, get_or-drop}
use Rattle.theory.specs.Finite.{tabulate}
use Rattle.theory.specs.Laws.Cases.{on-equal}
use Rattle.theory.specs.Laws.Finite.{order, length-tabulate, get_d_tabulate}
use Rattle.theory.specs.Laws.Parts.{part, replaced, part_at, length-replaced, replaced-before, replaced-within, replaced-past}
use Rattle.calls.specs.Calls.{overwritten}
use Rattle.travel.specs.Links.{padded}
use Rattle.travel.specs.Ranges.{Clear}
use Rattle.travel.specs.Laws.Padded.{padded-is}
use Rattle.moves.specs.Loading.{front}

module _ (size : ℕ) (f : ℕ → ℕ) (table : List ℕ) where
  pub front_at : (i : ℕ) → i < size → get_or (front size f table) i 0 ≡ f i
  unfolding front
  front_at i h =
      get_or-append (tabulate size f) (drop size table) 0 i (omega (arith, length-tabulate size f)) ∙ get_d_tabulate size f 0 i h

  pub front-past : (i : ℕ) → size ≤ i → get_or (front size f table) i 0 ≡ get_or table i 0
  unfolding front
  front-past i h =
      let place : i ≡ length (tabulate size f) + (i - size) = omega (arith, length-tabulate size f) in
      ap (λ x. get_or (tabulate size f ++ drop size table) x 0) place
      ∙ get_or-append-add (tabulate size f) (drop size table) (i - size) 0
      ∙ get_or-drop size table (i - size) 0
      ∙ ap (λ x. get_or table x 0) (omega arith)

  module _ (within : size ≤ length table) where
    pub length_front : length (front size f table) ≡ length table
    unfolding front
    length_front =
        omega (arith, length-append (tabulate size f) (drop size table), length-tabulate size f, length-drop size table)

    -- A list is known by its numbers.
    pub front-is :
        (xs : List ℕ) → length xs ≡ length table → ((i : ℕ) → i < size → get_or xs i 0 ≡ f i) →
        ((i : ℕ) → size ≤ i → get_or xs i 0 ≡ get_or table i 0) → xs ≡ front size f table
    front-is xs long first later =
        ext_get_or 0 xs (front size f table) (long ∙ sym length_front)
        (λ i h. ⊎_elim (λ b. first i b ∙ sym (front_at i b)) (λ b. later i b ∙ sym (front-past i b)) (order i size))

-- Nothing is replaced at first.
pub front-none : (f : ℕ → ℕ) (table : List ℕ) → table ≡ front 0 f table
front-none f table = front-is 0 f table (omega arith) table refl (λ i h. absurd (omega arith)) (λ i h. refl)

-- One number more.
pub front-more :
    (f : ℕ → ℕ) (table : List ℕ) (i : ℕ) (xs : List ℕ) (x : ℕ) → i < length table → xs ≡ front i f table → x ≡ f i →
    set xs i x ≡ front (i + 1) f table
front-more f table i xs x h e v =
    front-is (i + 1) f table (omega arith) (set xs i x) (length-set xs i x ∙ long)
    (λ j b.
    on-equal j i
    (λ s. rw s (get_or-set_same xs i x 0 (omega (arith, long)) ∙ v))
    (λ n. get_or-set_other xs i j x 0 n ∙ ap (λ l. get_or l j 0) e ∙ front_at i f table j (omega arith)))
    (λ j b. get_or-set_other xs i j x 0 (λ s. omega arith) ∙ ap (λ l. get_or l j 0) e ∙ front-past i f table j (omega arith))
  where
    long : length xs ≡ length table
    long = ap length e ∙ length_front i f table (omega arith)

-- A row of m numbers more.
module _ (f : ℕ → ℕ) (table : List ℕ) (k m : ℕ) (within : k * m + m ≤ length table) {now : List ℕ} (e : now ≡ front (k * m) f table) where
  pub row-within-front : k * m + m ≤ length now
  row-within-front = omega (arith, ap length e, length_front (k * m) f table (omega arith))

  -- It is as it was when the rows before it are replaced,
  pub front-row : (l : ℕ) → l < m → get_or (part now (k * m) m) l 0 ≡ get_or table (k * m + l) 0
  front-row l b = part_at now (k * m) m l b ∙ ap (λ xs. get_or xs (k * m + l) 0) e ∙ front-past (k * m) f table (k * m + l) (omega arith)

  -- and may stay so where nothing in it changes;
  pub front-row-kept : ((l : ℕ) → l < m → f (k * m + l) ≡ get_or table (k * m + l) 0) → now ≡ front ((k + 1) * m) f table
  front-row-kept same =
      front-is ((k + 1) * m) f table (omega arith) now
      (ap length e ∙ length_front (k * m) f table (omega arith))
      (λ i b. ap (λ xs. get_or xs i 0) e ∙ ⊎_elim
      (λ s. front_at (k * m) f table i s)
      (λ s. front-past (k * m) f table i s ∙ sym (here i s b))
      (order i (k * m)))
      (λ i b. ap (λ xs. get_or xs i 0) e ∙ front-past (k * m) f table i (omega arith))
    where
      here : (i : ℕ) → k * m ≤ i → i < (k + 1) * m → f i ≡ get_or table i 0
      here i s b =
          let place : i ≡ k * m + (i - k * m) = omega arith in
          let below : i - k * m < m = omega arith in
          rw place (same (i - k * m) below)

  -- or its numbers are replaced too.
  pub front-row-more : (row : List ℕ) → length row ≡ m → ((l : ℕ) → l < m → get_or row l 0 ≡ f (k * m + l)) →
      replaced now (k * m) m row ≡ front ((k + 1) * m) f table
  front-row-more row long is =
      front-is ((k + 1) * m) f table (omega arith) (replaced now (k * m) m row)
      (length-replaced now (k * m) m row-within-front row long ∙ ap length e ∙ length_front (k * m) f table (omega arith))
      (λ i b. ⊎_elim
      (λ s. replaced-before now (k * m) m row-within-front row long i s ∙ ap (λ xs. get_or xs i 0) e ∙ front_at (k * m) f table i s)
      (λ s. here i s b)
      (order i (k * m)))
      (λ i b.
      replaced-past now (k * m) m row-within-front row long i (omega arith)
      ∙ ap (λ xs. get_or xs i 0) e
      ∙ front-past (k * m) f table i (omega arith))
    where
      here : (i : ℕ) → k * m ≤ i → i < (k + 1) * m → get_or (replaced now (k * m) m row) i 0 ≡ f i
      here i s b =
          let place : i ≡ k * m + (i - k * m) = omega arith in
          let below : i - k * m < m = omega arith in
          rw place (replaced-within now (k * m) m row-within-front row long (i - k * m) below ∙ is (i - k * m) below)

-- An array that is 0 past the first m of its numbers is so when these are replaced.
pub front-clear : (m : ℕ) (f : ℕ → ℕ) {xs ys : List ℕ} → m ≤ 512 → Clear m xs → ys ≡ front m f xs → ys ≡ padded m f
front-clear m f {xs} {ys} few clear e =
    padded-is m f ys few (ap length e ∙ length_front m f xs (omega (arith, clear.size)) ∙ clear.size)
    (λ l h. ap (λ zs. get_or zs l 0) e ∙ front_at m f xs l h)
    (λ l h. ap (λ zs. get_or zs l 0) e ∙ front-past m f xs l h ∙ clear.rest l h)

-- Document 01's "the first p·m numbers", with "later numbers untouched".
pub overwritten-front : (size : ℕ) (f : ℕ → ℕ) (table : List ℕ) → overwritten (tabulate size f) table ≡ front size f table
unfolding overwritten front
overwritten-front size f table = ap (λ n. tabulate size f ++ drop n table) (length-tabulate size f)
