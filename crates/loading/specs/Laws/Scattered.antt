-- Volumes added to a row, each at its node's next link; and the loading that they make.
use Rattle.std.specs.Prelude.{◌≡◌, ℕ, ◌+◌, ◌-◌, ◌*◌, ◌^◌, ◌<◌, ◌≤◌, List, ◌++◌, length, drop, set, ◌≢◌, slice_index, slice_index_or, slice_set, refl}
use Rattle.std.proofs.Common.{mul-le-mul_left, arith, ◌∙◌, ⊎_elim, length-append, length-drop, length-set, get_or-set_same, get_or-set_other, get_or-append-add, get_or-drop, ext_get_or}
use Rattle.std.proofs.Math.Path.{sym, ap}
use Rattle.std.proofs.Math.ListN.{get_or-append}
use Rattle.theory.specs.Finite.{sum, tabulate}
use Rattle.theory.specs.Laws.Cases.{on-equal}
use Rattle.theory.specs.Laws.Finite.{order, sum-suc, sum_more, sum-term, sum-cong, sum-zero, sum-scale, sum-swap, length-tabulate, get_d_tabulate}
use Rattle.theory.specs.Study.{no_link}
use Rattle.loading.specs.Along.{flow_along, one_if_same, leaves, volumes_along, volume_over, scattered}
use Rattle.loading.specs.Along.{Followable, Scatterable}
use Rattle.loading.specs.Laws.Leaves.{same-one, other_none, leaves-never, walk-leaves}

-- A row with a multiple of f added to its first m numbers, number by number.
module _ (m weight : ℕ) (f : ℕ → ℕ) (row : List ℕ) (has-links : m ≤ length row) where
  abbrev first : List ℕ
  first = tabulate m (λ l. slice_index row l + weight * f l)

  length-first : length first ≡ m
  length-first = length-tabulate m (λ l. slice_index row l + weight * f l)

  length_more : length (first ++ drop m row) ≡ length row
  length_more = omega (arith, length-first, length-append first (drop m row), length-drop m row)

  more-at : (l : ℕ) → l < m → slice_index (first ++ drop m row) l ≡ slice_index row l + weight * f l
  more-at l h =
      get_or-append first (drop m row) 0 l (omega (arith, length-first))
      ∙ get_d_tabulate m (λ l. slice_index row l + weight * f l) 0 l h

  more-past : (l : ℕ) → m ≤ l → slice_index (first ++ drop m row) l ≡ slice_index row l
  more-past l h =
      let place : l ≡ length first + (l - m) = omega (arith, length-first) in
      ap (λ i. slice_index (first ++ drop m row) i) place
      ∙ get_or-append-add first (drop m row) (l - m) 0
      ∙ get_or-drop m row (l - m) 0
      ∙ ap (λ i. slice_index row i) (omega arith)

  more-is : (ys : List ℕ) → length ys ≡ length row → ((l : ℕ) → l < m → slice_index ys l ≡ slice_index row l + weight * f l)
      → ((l : ℕ) → m ≤ l → slice_index ys l ≡ slice_index row l) → ys ≡ first ++ drop m row
  more-is ys long at past =
      ext_get_or 0 ys (first ++ drop m row) (long ∙ sym length_more)
      (λ l b. ⊎_elim (λ p. at l p ∙ sym (more-at l p)) (λ p. past l p ∙ sym (more-past l p)) (order l m))

-- The volume over a link of one node more, and of none.
over-suc : (k : ℕ) (next volumes : List ℕ) (l : ℕ)
    → volume_over (k + 1) next volumes l ≡ volume_over k next volumes l + one_if_same (slice_index next k) l * slice_index volumes k
unfolding volume_over
over-suc k next volumes l = sum-suc k (λ j. one_if_same (slice_index next j) l * slice_index volumes j)

over_none : (next volumes : List ℕ) (l : ℕ) → volume_over 0 next volumes l ≡ 0
unfolding volume_over sum
over_none next volumes l = refl

over-more : (a b : ℕ) (next volumes : List ℕ) (l : ℕ) → a ≤ b → volume_over a next volumes l ≤ volume_over b next volumes l
unfolding volume_over
over-more a b next volumes l h = sum_more a b (λ j. one_if_same (slice_index next j) l * slice_index volumes j) h

over-term : (k : ℕ) (next volumes : List ℕ) (l j : ℕ) → j < k → one_if_same (slice_index next j) l * slice_index volumes j ≤ volume_over k next volumes l
unfolding volume_over
over-term k next volumes l j h = sum-term k (λ j. one_if_same (slice_index next j) l * slice_index volumes j) j h

module _ {n m : ℕ} {next volumes : List ℕ} {weight : ℕ} {row : List ℕ} (w : Scatterable n m next volumes weight row) where
  pub length-scattered : (k : ℕ) → length (scattered k m next volumes weight row) ≡ length row
  unfolding scattered
  length-scattered k = length_more m weight (volume_over k next volumes) row w.has-links

  scattered-at : (k l : ℕ) → l < m → slice_index (scattered k m next volumes weight row) l ≡ slice_index row l + weight * volume_over k next volumes l
  unfolding scattered
  scattered-at k = more-at m weight (volume_over k next volumes) row w.has-links

  scattered-past : (k l : ℕ) → m ≤ l → slice_index (scattered k m next volumes weight row) l ≡ slice_index row l
  unfolding scattered
  scattered-past k = more-past m weight (volume_over k next volumes) row w.has-links

  scattered-is : (k : ℕ) (ys : List ℕ) → length ys ≡ length row
      → ((l : ℕ) → l < m → slice_index ys l ≡ slice_index row l + weight * volume_over k next volumes l)
      → ((l : ℕ) → m ≤ l → slice_index ys l ≡ slice_index row l) → ys ≡ scattered k m next volumes weight row
  unfolding scattered
  scattered-is k = more-is m weight (volume_over k next volumes) row w.has-links

  -- Nothing is added at first.
  pub scatter-none : row ≡ scattered 0 m next volumes weight row
  scatter-none = scattered-is 0 row refl (λ l b. rw (over_none next volumes l) (omega arith)) (λ l b. refl)

  module _ {j : ℕ} (h : j < n) {row' : List ℕ} (so_far : row' ≡ scattered j m next volumes weight row) where
    long : length row' ≡ length row
    long = ap length so_far ∙ length-scattered j

    there : (l : ℕ) → l < m → slice_index row' l ≡ slice_index row l + weight * volume_over j next volumes l
    there l b = ap (λ xs. slice_index xs l) so_far ∙ scattered-at j l b

    past : (l : ℕ) → m ≤ l → slice_index row' l ≡ slice_index row l
    past l b = ap (λ xs. slice_index xs l) so_far ∙ scattered-past j l b

    -- The next node adds its volume at link l, or nothing.
    step : (l : ℕ) → weight * volume_over (j + 1) next volumes l
        ≡ weight * volume_over j next volumes l + weight * slice_index volumes j * one_if_same (slice_index next j) l
    step l = let more = ap (λ x. weight * x) (over-suc j next volumes l) in omega arith

    -- A node without a next link adds nothing,
    pub scatter-skips : slice_index_or next j 0 ≡ no_link → row' ≡ scattered (j + 1) m next volumes weight row
    scatter-skips e =
        scattered-is (j + 1) row' long
        (λ l b.
        let nothing = ap (λ x. weight * slice_index volumes j * x) (other_none (slice_index next j) l (λ f. omega (arith, f, w.few-links))) in
        omega (arith, there l b, step l))
        past

    -- and any other its volume.
    module _ {i : ℕ} (i≡ : i ≡ slice_index next j) (away : slice_index_or next j 0 ≡ no_link → ⊥) where
      pub link-below : i < m
      link-below = omega (arith, w.next-link j h away)

      pub link-within : i < length row'
      link-within = omega (arith, link-below, long, w.has-links)

      one : weight * slice_index volumes j * one_if_same (slice_index next j) i ≡ weight * slice_index volumes j
      one = ap (λ x. weight * slice_index volumes j * x) (same-one (slice_index next j) i (sym i≡)) ∙ omega arith

      pub sum_fits : slice_index_or row' i 0 + weight * slice_index volumes j < 2 ^ 32
      sum_fits =
          let all = mul-le-mul_left weight (over-more (j + 1) n next volumes i (omega arith)) in
          omega (arith, there i link-below, step i, one, w.fits i link-below)

      added : set row' i (slice_index row' i + weight * slice_index volumes j) ≡ scattered (j + 1) m next volumes weight row
      added =
          scattered-is (j + 1) (slice_set row' i sum-there) (length-set row' i sum-there ∙ long)
          (λ l b. on-equal l i (here l b) (elsewhere l b))
          (λ l b. get_or-set_other row' i l sum-there 0 (λ e. omega (arith, link-below)) ∙ past l b)
        where
          sum-there : ℕ
          sum-there = slice_index row' i + weight * slice_index volumes j

          here : (l : ℕ) → l < m → l ≡ i → slice_index (slice_set row' i sum-there) l ≡ slice_index row l + weight * volume_over (j + 1) next volumes l
          here l b e = rw e (omega (arith, get_or-set_same row' i sum-there 0 link-within, there i link-below, step i, one))

          elsewhere : (l : ℕ) → l < m → (l ≢ i) → slice_index (slice_set row' i sum-there) l ≡ slice_index row l + weight * volume_over (j + 1) next volumes l
          elsewhere l b off =
              let nothing = ap (λ x. weight * slice_index volumes j * x) (other_none (slice_index next j) l (λ f. off (sym f ∙ sym i≡))) in
              omega (arith, get_or-set_other row' i l sum-there 0 off, there l b, step l)

      pub scatter-adds : {amount : ℕ} → amount ≡ weight * slice_index volumes j
          → slice_set row' i (slice_index row' i + amount) ≡ scattered (j + 1) m next volumes weight row
      scatter-adds e = rw e added

-- The volumes that trips make along next links.
module _ {n : ℕ} {links : List (List ℕ)} {next : List ℕ} (w : Followable n links next) (trips : ℕ → ℕ) {volumes : List ℕ}
    (volumes≡ : volumes ≡ volumes_along n links next trips) where
  volume-at : (j : ℕ) → j < n → slice_index volumes j ≡ sum n (λ i. trips i * leaves links next n i j)
  unfolding volumes_along
  volume-at j h =
      ap (λ xs. slice_index xs j) volumes≡
      ∙ get_d_tabulate 128 (λ j. sum n (λ i. trips i * leaves links next n i j)) 0 j (omega (arith, w.few-nodes))

  -- What goes over a link by node volumes is what goes over it walk by walk.
  pub over-is-flow : (l : ℕ) → volume_over n next volumes l ≡ flow_along n links next trips n l
  unfolding volume_over flow_along
  over-is-flow l =
      sum-cong n _ (λ j. sum n (λ i. trips i * (one_if_same (slice_index next j) l * leaves links next n i j))) spread
      ∙ sum-swap n n (λ j i. trips i * (one_if_same (slice_index next j) l * leaves links next n i j))
      ∙ sum-cong n _ _ (λ i h.
      sum-scale n (trips i) (λ j. one_if_same (slice_index next j) l * leaves links next n i j) ∙ ap (λ x. trips i * x) (walk-leaves w l n i h))
    where
      spread : (j : ℕ) → j < n
          → one_if_same (slice_index next j) l * slice_index volumes j ≡ sum n (λ i. trips i * (one_if_same (slice_index next j) l * leaves links next n i j))
      spread j h =
          ap (λ x. one_if_same (slice_index next j) l * x) (volume-at j h)
          ∙ sym (sum-scale n (one_if_same (slice_index next j) l) (λ i. trips i * leaves links next n i j))
          ∙ sum-cong n _ _ (λ i b. omega arith)

-- Where no link's flow is above `most`, no node's volume is: all of it goes over the node's next link.
pub volume-most : {n : ℕ} {links : List (List ℕ)} {next : List ℕ} → Followable n links next → (trips : ℕ → ℕ) (most : ℕ)
    → ((l : ℕ) → l < length links → flow_along n links next trips n l ≤ most)
    → (j : ℕ) → j < 128 → slice_index (volumes_along n links next trips) j ≤ most
unfolding volumes_along
volume-most {n} {links} {next} w trips most flows j b =
    ⊎_elim (λ h. on-equal (slice_index next j) no_link (λ e. nothing (λ _ away. away e)) (sends h)) (λ past. nothing (λ h _. omega arith)) (order j n)
  where
    volume : ℕ → ℕ
    volume j = sum n (λ i. trips i * leaves links next n i j)

    nothing : (j < n → (slice_index next j ≢ no_link) → ⊥) → slice_index (volumes_along n links next trips) j ≤ most
    nothing never =
        let none = sum-zero n (λ i. trips i * leaves links next n i j) (λ i h. rw (leaves-never w j never n i h) (omega arith)) in
        omega (arith, get_d_tabulate 128 volume 0 j b)

    sends : j < n → (slice_index next j ≢ no_link) → slice_index (volumes_along n links next trips) j ≤ most
    sends h away =
        let l = slice_index_or next j 0 in
        let own = ap (λ x. x * slice_index (volumes_along n links next trips) j) (same-one l l refl) in
        omega (arith, over-term n next (volumes_along n links next trips) l j h, over-is-flow w trips refl l, flows l (w.next-link j h away))
