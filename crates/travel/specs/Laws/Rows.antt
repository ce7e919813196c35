-- A row added to sums, number by number.
use Rattle.std.specs.Prelude.{◌≡◌, ℕ, ◌+◌, ◌-◌, ◌<◌, ◌≤◌, List, length, take, drop, ◌≢◌, slice_index, slice_index_or, slice_set, refl}
use Rattle.std.proofs.Common.{not-suc-le-zero, arith, ◌∙◌, ap, ⊎_elim, length-set, length-take, length-drop, get_or-set_same, get_or-set_other, get_or-take, get_or-drop}
use Rattle.theory.specs.Laws.Finite.{below_suc}
use Rattle.travel.specs.Ranges.{RowAdded}

pub row-none : (row xs : List ℕ) → RowAdded 0 row xs xs
row-none row xs = record { size = refl; added = λ l p. absurd (not-suc-le-zero p); kept = λ l p. refl }

pub row_more : (l : ℕ) (row before now : List ℕ) → l < length now → RowAdded l row before now →
    RowAdded (l + 1) row before (slice_set now l (slice_index now l + slice_index row l))
row_more l row before now h so_far =
    record {
      size = length-set now l x ∙ so_far.size;
      added = λ i p.
          ⊎_elim (λ q. other i (λ e. omega arith) ∙ so_far.added i q) (λ e. rw e (here)) (below_suc l i (omega arith));
      kept = λ i p. other i (λ e. omega arith) ∙ so_far.kept i (omega arith);
    }
  where
    x : ℕ
    x = slice_index now l + slice_index row l

    other : (i : ℕ) → (i ≢ l) → slice_index (slice_set now l x) i ≡ slice_index now i
    other i p = get_or-set_other now l i x 0 p

    here : slice_index_or (slice_set now l x) l 0 ≡ slice_index before l + slice_index row l
    here = get_or-set_same now l x 0 h ∙ ap (λ y. y + slice_index row l) (so_far.kept l (omega arith))

-- The row of m numbers of a table that begins at a place.
module _ (table : List ℕ) (start m : ℕ) (within : start + m ≤ length table) where
  pub length_row : length (take (start + m - start) (drop start table)) ≡ m
  length_row = simp (length-take, length-drop) (omega arith)

  pub get_d-row : (l : ℕ) → l < m → slice_index (take (start + m - start) (drop start table)) l ≡ slice_index table (start + l)
  get_d-row l h = get_or-take (start + m - start) (drop start table) l 0 (omega arith) ∙ get_or-drop start table l 0
