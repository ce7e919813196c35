-- The loading that next links give: its entries, its totals, its volumes by destination and node, and a table that it is added to,
-- destination by destination.
use Rattle.std.specs.Prelude.{ℕ, ◌+◌, ◌*◌, ◌-◌, ◌≤◌, ◌<◌, ◌≡◌, refl, List, [], set}
use Rattle.std.proofs.Common.{le_of_lt, mul-le-mul_right, arith, ◌∙◌, ⊎_elim, length-set, get_or-set_same, get_or-set_other}
use Rattle.std.proofs.Math.Path.{ap}
use Rattle.std.proofs.Math.Arith.{digits_lt}
use Rattle.std.proofs.Math.ListN.{length, get_or}
use Rattle.theory.specs.Finite.{tabulate}
use Rattle.theory.specs.Flows.{link_total}
use Rattle.theory.specs.Routes.{occurrences}
use Rattle.theory.specs.Laws.Cases.{on-equal}
use Rattle.theory.specs.Laws.Finite.{order, sum-cong, sum_more, length-tabulate, get_d_tabulate, tabulate-cong, length-rows, get_d_rows, rows-cong}
use Rattle.travel.specs.Links.{padded}
use Rattle.travel.specs.Laws.Padded.{length-padded, get_d-padded, get_d-padded-rest, padded-is, padded-cong}
use Rattle.travel.specs.Laws.Totals.{link_total-more}
use Rattle.loading.specs.Along.{walk_along, flow_along, volume_over, scattered, Sendable, Scatterable}
use Rattle.loading.specs.Laws.Scattered.{volume-most}
use Rattle.moves.specs.Loading.{row_along, loading_along, volume_rows, front, added_rows, AllFollowable, Addable}
use Rattle.moves.specs.Laws.Front.{front_at, front-past, length_front, front-none, row-within-front, front-row, front-row-more}
use Rattle.theory.specs.Laws.Parts.{part, replaced, row_within, part_at, length_part}

-- A row that volumes are added to is a row with its first numbers replaced.
scattered-front :
    (n m : ℕ) (next volumes : List ℕ) (weight : ℕ) (row : List ℕ) →
    scattered n m next volumes weight row ≡ front m (λ l. get_or row l 0 + weight * volume_over n next volumes l) row
unfolding scattered front
scattered-front n m next volumes weight row = refl

module _ (n : ℕ) (links : List (List ℕ)) (p : ℕ) (trips : List ℕ) (nexts : List (List ℕ)) where
  -- The loading has a number for each destination and link,
  pub length-along : length (loading_along n links p trips nexts) ≡ p * length links
  unfolding loading_along
  length-along = length-rows p (length links) _ (λ k h. length-tabulate (length links) (row_along n links trips nexts k))

  -- what the destination's trips send over the link.
  pub entry-along : (k l : ℕ) → k < p → l < length links →
      get_or (loading_along n links p trips nexts) (k * length links + l) 0 ≡ row_along n links trips nexts k l
  unfolding loading_along
  entry-along k l h b =
      get_d_rows p (length links) (λ k. tabulate (length links) (row_along n links trips nexts k))
      (λ k h. length-tabulate (length links) (row_along n links trips nexts k)) 0 k l h b
      ∙ get_d_tabulate (length links) (row_along n links trips nexts k) 0 l b

  -- The destination's trips are a part of all.
  flow-part : (k l : ℕ) →
      flow_along n links (get_or nexts k []) (λ j. get_or (part trips (k * n) n) j 0) n l ≡ row_along n links trips nexts k l
  unfolding flow_along row_along
  flow-part k l =
      sum-cong n _ _ (λ j h. ap (λ x. x * occurrences l (walk_along links (get_or nexts k []) n j)) (part_at trips (k * n) n j h))

-- The loading that volumes give has the same places.
module _ (n m p : ℕ) (nexts volumes : List (List ℕ)) where
  abbrev over : ℕ → ℕ → ℕ
  over k = volume_over n (get_or nexts k []) (get_or volumes k [])

  pub entry-volumes : (k l : ℕ) → k < p → l < m →
      get_or (volume_rows n m p nexts volumes) (k * m + l) 0 ≡ volume_over n (get_or nexts k []) (get_or volumes k []) l
  unfolding volume_rows
  entry-volumes k l h b =
      get_d_rows p m (λ k. tabulate m (over k)) (λ k h. length-tabulate m (over k)) 0 k l h b ∙ get_d_tabulate m (over k) 0 l b

-- Volumes of which the first k rows give the loading of their destinations.
pub record LoadedRows (n : ℕ) (links : List (List ℕ)) (k : ℕ) (trips : List ℕ) (nexts volumes₀ volumes : List (List ℕ)) : Type 0 where
  pub size : length volumes ≡ length volumes₀
  pub over : (i l : ℕ) → i < k → l < length links → volume_over n (get_or nexts i []) (get_or volumes i []) l ≡ row_along n links trips nexts i l

-- There are none at first,
pub loaded-none : {n : ℕ} {links : List (List ℕ)} {trips : List ℕ} {nexts volumes : List (List ℕ)} →
    LoadedRows n links 0 trips nexts volumes volumes
loaded-none = record { size = refl; over = λ i l h b. absurd (omega arith) }

-- then one more,
pub loaded-more :
    {n : ℕ} {links : List (List ℕ)} {k : ℕ} {trips : List ℕ} {nexts volumes₀ volumes : List (List ℕ)} → LoadedRows n links k trips nexts volumes₀ volumes →
    k < length volumes₀ → (row : List ℕ) → ((l : ℕ) → l < length links → volume_over n (get_or nexts k []) row l ≡ row_along n links trips nexts k l) →
    LoadedRows n links (k + 1) trips nexts volumes₀ (set volumes k row)
loaded-more {n} {k} {nexts} {volumes} w h row gives =
    record {
      size = length-set volumes k row ∙ w.size;
      over = λ i l b c.
          on-equal i k
          (λ e.
          rw e
          (ap (λ xs. volume_over n (get_or nexts k []) xs l) (get_or-set_same volumes k row [] (omega (arith, w.size)))
          ∙ gives l c))
          (λ away.
          ap (λ xs. volume_over n (get_or nexts i []) xs l) (get_or-set_other volumes k i row [] away)
          ∙ w.over i l (omega arith) c);
    }

-- and in the end all.
pub loaded-all :
    {n : ℕ} {links : List (List ℕ)} {p : ℕ} {trips : List ℕ} {nexts volumes₀ volumes : List (List ℕ)} → LoadedRows n links p trips nexts volumes₀ volumes →
    volume_rows n (length links) p nexts volumes ≡ loading_along n links p trips nexts
unfolding volume_rows loading_along
loaded-all {links} {p} w = rows-cong p _ _ (λ k h. tabulate-cong (length links) _ _ (λ l b. w.over k l h b))

module _ {n : ℕ} {links : List (List ℕ)} {p : ℕ} {trips : List ℕ} {nexts : List (List ℕ)} (w : AllFollowable n links p trips nexts)
    {k : ℕ} (h : k < p) where
  abbrev m : ℕ
  m = length links

  abbrev y : List ℕ
  y = loading_along n links p trips nexts

  abbrev next : List ℕ
  next = get_or nexts k []

  abbrev sent : ℕ → ℕ
  sent j = get_or (part trips (k * n) n) j 0

  -- The trips to destination k stand within all,
  pub trips-within : k * n + n ≤ length trips
  trips-within = omega (arith, row_within n h, w.has-trips)

  total-so-far : (l : ℕ) → l < m → link_total k m y l + row_along n links trips nexts k l ≤ 65535
  unfolding link_total
  total-so-far l b =
      let more = link_total-more m y l k in
      let all = sum_more (k + 1) p (λ k. get_or y (k * m + l) 0) (omega arith) in
      omega (arith, entry-along n links p trips nexts k l h b, w.small-totals l b)

  -- and can be sent along its next links: what they send over a link is at most the total of the link.
  pub row-sendable : Sendable n links next (part trips (k * n) n)
  row-sendable =
      record {
        followable = w.followable k h;
        has-trips = length_part trips (k * n) n trips-within;
        small = volume-most (w.followable k h) sent 65535 (λ l b. omega (arith, flow-part n links p trips nexts k l, total-so-far l b));
      }

  -- Volumes by which its trips go over the links give its row of the loading.
  pub row-over :
      (row : List ℕ) → ((l : ℕ) → l < m → volume_over n next row l ≡ flow_along n links next sent n l) →
      (l : ℕ) → l < m → volume_over n next row l ≡ row_along n links trips nexts k l
  row-over row flows l b = flows l b ∙ flow-part n links p trips nexts k l

  -- Such volumes, with the totals of the destinations before it,
  module _ (row : List ℕ) (gives : (l : ℕ) → l < m → volume_over n next row l ≡ row_along n links trips nexts k l)
      {sums : List ℕ} (e : sums ≡ padded m (link_total k m y)) where
    sums-long : length sums ≡ 512
    sums-long = ap length e ∙ length-padded m (link_total k m y) w.few-links

    so_far : (l : ℕ) → l < m → get_or sums l 0 ≡ link_total k m y l
    so_far l b = ap (λ xs. get_or xs l 0) e ∙ get_d-padded m (link_total k m y) l b

    -- can be added to them,
    pub totals-scatterable : Scatterable n m next row 1 sums
    totals-scatterable =
        record {
          few-nodes = w.few-nodes;
          few-links = w.few-links;
          next-link = (w.followable k h).next-link;
          has-links = omega (arith, w.few-links, sums-long);
          fits = λ l b. omega (arith, so_far l b, total-so-far l b, gives l b);
        }

    -- and give the totals of one destination more.
    pub totals-more : {sums' : List ℕ} → sums' ≡ scattered n m next row 1 sums → sums' ≡ padded m (link_total (k + 1) m y)
    totals-more {sums'} f =
        padded-is m (link_total (k + 1) m y) sums' w.few-links (ap length is_front ∙ length_front m _ sums (omega (arith, sums-long, w.few-links)) ∙ sums-long)
        (λ l b.
        let now-there = ap (λ xs. get_or xs l 0) is_front ∙ front_at m _ sums l b in
        omega (arith, so_far l b, link_total-more m y l k, entry-along n links p trips nexts k l h b, gives l b))
        (λ l b. ap (λ xs. get_or xs l 0) is_front ∙ front-past m _ sums l b ∙ ap (λ xs. get_or xs l 0) e ∙ get_d-padded-rest m (link_total k m y) l b)
      where
        is_front : sums' ≡ front m (λ l. get_or sums l 0 + 1 * volume_over n next row l) sums
        is_front = f ∙ scattered-front n m next row 1 sums

-- The totals of all destinations, in numbers of another width.
pub totals-widened : (m : ℕ) (f : ℕ → ℕ) {sums : List ℕ} → m ≤ 512 → sums ≡ padded m f → padded m (λ l. get_or sums l 0) ≡ padded m f
totals-widened m f few e = padded-cong m _ f few (λ l h. ap (λ xs. get_or xs l 0) e ∙ get_d-padded m f l h)

-- The loading added to a table: nothing at first,
pub rows_none : (m weight : ℕ) (loads table : List ℕ) → table ≡ added_rows (0 * m) weight loads table
unfolding added_rows
rows_none m weight loads table =
    let none : 0 ≡ 0 * m = omega arith in
    front-none (λ i. get_or table i 0 + weight * get_or loads i 0) table
    ∙ ap (λ size. front size (λ i. get_or table i 0 + weight * get_or loads i 0) table) none

-- which keeps its length,
pub rows-length :
    {n m p : ℕ} {nexts volumes : List (List ℕ)} {weight : ℕ} {table : List ℕ} →
    Addable n m p nexts volumes weight table → {k : ℕ} → k ≤ p → {now : List ℕ} →
    now ≡ added_rows (k * m) weight (volume_rows n m p nexts volumes) table → length now ≡ length table
unfolding added_rows
rows-length {m} {p} {table} w {k} h e =
    let size = mul-le-mul_right m h in ap length e ∙ length_front (k * m) _ table (omega (arith, w.holds))

-- then row by row.
module _ {n m p : ℕ} {nexts volumes : List (List ℕ)} {weight : ℕ} {table : List ℕ}
    (w : Addable n m p nexts volumes weight table) {k : ℕ} (h : k < p) {now : List ℕ}
    (e : now ≡ added_rows (k * m) weight (volume_rows n m p nexts volumes) table) where
  abbrev more : ℕ → ℕ
  more i = get_or table i 0 + weight * get_or (volume_rows n m p nexts volumes) i 0

  -- Row k of the table stands within it,
  table-within : k * m + m ≤ length table
  table-within = omega (arith, row_within m h, w.holds)

  pub rows-within : k * m + m ≤ length now
  unfolding added_rows
  rows-within = row-within-front more table k m table-within e

  length-row : length (part now (k * m) m) ≡ m
  length-row = length_part now (k * m) m rows-within

  -- and is as it was when the rows before it have their loading.
  row_kept : (l : ℕ) → l < m → get_or (part now (k * m) m) l 0 ≡ get_or table (k * m + l) 0
  unfolding added_rows
  row_kept = front-row more table k m table-within e

  abbrev over-link : ℕ → ℕ
  over-link l = volume_over n (get_or nexts k []) (get_or volumes k []) l

  row_more : (l : ℕ) → l < m → get_or (part now (k * m) m) l 0 + weight * over-link l ≡ more (k * m + l)
  row_more l b = omega (arith, row_kept l b, ap (λ x. weight * x) (entry-volumes n m p nexts volumes k l h b))

  -- Its loading can be added to it,
  pub row-scatterable : Scatterable n m (get_or nexts k []) (get_or volumes k []) weight (part now (k * m) m)
  row-scatterable =
      record {
        few-nodes = w.few-nodes;
        few-links = w.few-links;
        next-link = λ j b. w.next-link k j h b;
        has-links = omega (arith, length-row);
        fits = λ l b. omega (arith, row_more l b, w.fits (k * m + l) (digits_lt {q = k} {m = p} {r = l} {c = m} h b));
      }

  -- and gives the table of one row more.
  pub rows_more :
      {row : List ℕ} → row ≡ scattered n m (get_or nexts k []) (get_or volumes k []) weight (part now (k * m) m) →
      replaced now (k * m) m row ≡ added_rows ((k + 1) * m) weight (volume_rows n m p nexts volumes) table
  unfolding added_rows
  rows_more {row} f =
      front-row-more more table k m table-within e row
      (ap length is_front ∙ length_front m _ (part now (k * m) m) (omega (arith, length-row)) ∙ length-row)
      (λ l b. ap (λ xs. get_or xs l 0) is_front ∙ front_at m _ (part now (k * m) m) l b ∙ row_more l b)
    where
      is_front : row ≡ front m (λ l. get_or (part now (k * m) m) l 0 + weight * over-link l) (part now (k * m) m)
      is_front = f ∙ scattered-front n m (get_or nexts k []) (get_or volumes k []) weight (part now (k * m) m)
