-- (A.7) A loading added to a table class by class: the cars' rows first, and then the lorries', to the part of the table behind them.
use Rattle.std.specs.Prelude.{ℕ, ◌+◌, ◌*◌, ◌-◌, ◌≤◌, ◌<◌, ◌≡◌, List, [], ◌++◌}
use Rattle.std.proofs.Common.{mul-le-mul_right, arith, ◌∙◌, get_or-append-add}
use Rattle.std.proofs.Math.Path.{sym, ap}
use Rattle.std.proofs.Math.Logic.{⊎_elim}
use Rattle.std.proofs.Math.ListN.{length, get_or, get_or-append}
use Rattle.theory.specs.Finite.{tabulate, rows}
use Rattle.theory.specs.Laws.Finite.{order, length-tabulate, length-rows, rows-cong, rows_append, tabulate-cong}
use Rattle.theory.specs.Laws.Parts.{part, replaced, behind, behind-at, length-behind, part_at, length_part, length-replaced, replaced-before, replaced-within, replaced-past}
use Rattle.loading.specs.Along.{volume_over}
use Rattle.moves.specs.Loading.{volume_rows, front, added_rows, Addable}
use Rattle.moves.specs.Laws.Front.{front_at, front-past, length_front, front-is}

module _ (n m cars lorries : ℕ) (nexts volumes : List (List ℕ)) where
  abbrev loads : ℕ → ℕ → List ℕ
  loads count first = rows count (λ k. tabulate m (volume_over n (get_or nexts (first + k) []) (get_or volumes (first + k) [])))

  volumes-long : (count : ℕ) → length (volume_rows n m count nexts volumes) ≡ count * m
  unfolding volume_rows
  volumes-long count = length-rows count m _ (λ k h. length-tabulate m (volume_over n (get_or nexts k []) (get_or volumes k [])))

  -- The loading of both classes is that of the cars, and then that of the lorries.
  pub volumes-parts :
      volume_rows n m (cars + lorries) nexts volumes
      ≡ volume_rows n m cars nexts volumes ++ volume_rows n m lorries (behind nexts cars) (behind volumes cars)
  unfolding volume_rows
  volumes-parts =
      rows_append cars lorries (λ k. tabulate m (volume_over n (get_or nexts k []) (get_or volumes k [])))
      ∙ ap (λ back. rows cars (λ k. tabulate m (volume_over n (get_or nexts k []) (get_or volumes k []))) ++ back)
      (rows-cong lorries _ _ (λ k h.
      tabulate-cong m _ _ (λ l b.
      sym (ap (λ next. volume_over n next (get_or (behind volumes cars) k []) l) (behind-at nexts cars k [])
      ∙ ap (λ row. volume_over n (get_or nexts (cars + k) []) row l) (behind-at volumes cars k [])))))

  pub cars-volume : (i : ℕ) → i < cars * m → get_or (volume_rows n m (cars + lorries) nexts volumes) i 0 ≡ get_or (volume_rows n m cars nexts volumes) i 0
  cars-volume i h =
      ap (λ xs. get_or xs i 0) volumes-parts
      ∙ get_or-append (volume_rows n m cars nexts volumes) _ 0 i (omega (arith, volumes-long cars))

  pub lorries-volume : (i : ℕ) →
      get_or (volume_rows n m (cars + lorries) nexts volumes) (cars * m + i) 0
      ≡ get_or (volume_rows n m lorries (behind nexts cars) (behind volumes cars)) i 0
  lorries-volume i =
      ap (λ xs. get_or xs (cars * m + i) 0) volumes-parts
      ∙ ap (λ place. get_or (volume_rows n m cars nexts volumes ++ volume_rows n m lorries (behind nexts cars) (behind volumes cars)) (place + i) 0) (sym (volumes-long cars))
      ∙ get_or-append-add (volume_rows n m cars nexts volumes) (volume_rows n m lorries (behind nexts cars) (behind volumes cars)) i 0

module _ (cars lorries : ℕ) {n m : ℕ} {nexts volumes : List (List ℕ)} {weight : ℕ} {table : List ℕ}
    (w : Addable n m (cars + lorries) nexts volumes weight table) where
  abbrev both : List ℕ
  both = volume_rows n m (cars + lorries) nexts volumes

  few-rows : (cars + lorries) * m ≡ cars * m + lorries * m
  few-rows = omega arith

  -- The cars' loading can be added to the table,
  pub cars-addable : Addable n m cars nexts volumes weight table
  cars-addable =
      record {
        few-nodes = w.few-nodes;
        few-links = w.few-links;
        few-commodities = omega (arith, w.few-commodities);
        has-rows = (omega (arith, w.has-rows), omega (arith, w.has-rows));
        next-link = λ k j h. w.next-link k j (omega arith);
        holds = omega (arith, w.holds, few-rows);
        fits = λ i h. rw (← cars-volume n m cars lorries nexts volumes i h) (w.fits i (omega (arith, few-rows)));
      }

  module _ {added : List ℕ} (e : added ≡ added_rows (cars * m) weight (volume_rows n m cars nexts volumes) table) where
    added-long : length added ≡ length table
    unfolding added_rows
    added-long = ap length e ∙ length_front (cars * m) _ table (omega (arith, w.holds, few-rows))

    pub middle-within : cars * m + lorries * m ≤ length added
    middle-within = omega (arith, added-long, w.holds, few-rows)

    abbrev middle : List ℕ
    middle = part added (cars * m) (lorries * m)

    middle-long : length middle ≡ lorries * m
    middle-long = length_part added (cars * m) (lorries * m) middle-within

    middle-at : (i : ℕ) → i < lorries * m → get_or middle i 0 ≡ get_or table (cars * m + i) 0
    unfolding added_rows
    middle-at i h =
        part_at added (cars * m) (lorries * m) i h
        ∙ ap (λ xs. get_or xs (cars * m + i) 0) e
        ∙ front-past (cars * m) _ table (cars * m + i) (omega arith)

    -- then the lorries' to the part behind them,
    pub lorries-addable : Addable n m lorries (behind nexts cars) (behind volumes cars) weight middle
    lorries-addable =
        record {
          few-nodes = w.few-nodes;
          few-links = w.few-links;
          few-commodities = omega (arith, w.few-commodities);
          has-rows = (omega (arith, w.has-rows, length-behind nexts cars), omega (arith, w.has-rows, length-behind volumes cars));
          next-link = λ k j h b. rw (behind-at nexts cars k []) (w.next-link (cars + k) j (omega arith) b);
          holds = omega (arith, middle-long);
          fits = λ i h.
              rw (middle-at i h, ← lorries-volume n m cars lorries nexts volumes i) (w.fits (cars * m + i) (omega (arith, few-rows)));
        }

    -- and that is the loading of both.
    pub classes-added : {row : List ℕ} → row ≡ added_rows (lorries * m) weight (volume_rows n m lorries (behind nexts cars) (behind volumes cars)) middle →
        replaced added (cars * m) (lorries * m) row ≡ added_rows ((cars + lorries) * m) weight both table
    unfolding added_rows
    classes-added {row} f =
        front-is ((cars + lorries) * m) _ table w.holds (replaced added (cars * m) (lorries * m) row)
        (length-replaced added (cars * m) (lorries * m) middle-within row row-long ∙ added-long)
        (λ i h. ⊎_elim (λ b. car i b) (λ b. lorry i b h) (order i (cars * m)))
        (λ i h.
        replaced-past added (cars * m) (lorries * m) middle-within row row-long i (omega (arith, few-rows))
        ∙ ap (λ xs. get_or xs i 0) e
        ∙ front-past (cars * m) _ table i (omega (arith, few-rows)))
      where
        row-long : length row ≡ lorries * m
        row-long = ap length f ∙ length_front (lorries * m) _ middle (omega (arith, middle-long)) ∙ middle-long

        car : (i : ℕ) → i < cars * m → get_or (replaced added (cars * m) (lorries * m) row) i 0 ≡ get_or table i 0 + weight * get_or both i 0
        car i b =
            replaced-before added (cars * m) (lorries * m) middle-within row row-long i b
            ∙ ap (λ xs. get_or xs i 0) e
            ∙ front_at (cars * m) _ table i b
            ∙ ap (λ x. get_or table i 0 + weight * x) (sym (cars-volume n m cars lorries nexts volumes i b))

        lorry : (i : ℕ) → cars * m ≤ i → i < (cars + lorries) * m → get_or (replaced added (cars * m) (lorries * m) row) i 0 ≡ get_or table i 0 + weight * get_or both i 0
        lorry i b h =
            let j = i - cars * m in
            let inside : j < lorries * m = omega (arith, few-rows) in
            let place : cars * m + j ≡ i = omega arith in
            rw (← place)
            (replaced-within added (cars * m) (lorries * m) middle-within row row-long j inside
            ∙ ap (λ xs. get_or xs j 0) f
            ∙ front_at (lorries * m) _ middle j inside
            ∙ ap (λ x. x + weight * get_or (volume_rows n m lorries (behind nexts cars) (behind volumes cars)) j 0) (middle-at j inside)
            ∙ ap (λ x. get_or table (cars * m + j) 0 + weight * x) (sym (lorries-volume n m cars lorries nexts volumes j)))
