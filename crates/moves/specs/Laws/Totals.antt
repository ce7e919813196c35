-- The totals of a moved table.
use Rattle.std.specs.Prelude.{ℕ, ◌+◌, ◌*◌, ◌≤◌, ◌<◌, ◌≡◌, true, List, [], length, set}
use Rattle.std.proofs.Common.{mul-le-mul, arith, ◌∙◌, ap₂, get_or-set_same, get_or-set_other, set-set}
use Rattle.std.proofs.Math.Path.{sym, ap}
use Rattle.std.proofs.Math.Logic.{⊎_elim}
use Rattle.std.proofs.Math.Arith.{digits_lt}
use Rattle.std.proofs.Math.ListN.{get_or, get_or-eq_default}
use Rattle.std.proofs.lemmas.List.{set-get_or}
use borrow.Author.Tests.{leb-true, lt-ltb, le-ltb}
use Rattle.theory.specs.Flows.{link_total}
use Rattle.theory.specs.Laws.Finite.{order, sum-cong, sum-add, sum-scale}
use Rattle.calls.specs.Calls.{table_after}
use Rattle.travel.specs.Links.{padded, total_of, load_of}
use Rattle.travel.specs.Ranges.{Clear, most_flow}
use Rattle.travel.specs.Laws.Padded.{get_d-padded, padded-cong, padded-clear}
use Rattle.moves.specs.Loading.{front, added_rows}
use Rattle.moves.specs.Moves.{can_move, move_along, total_after, TotalsMovable}
use Rattle.moves.specs.Laws.Front.{front_at, front-past, front-none, front-more, front-clear}
use Rattle.moves.specs.Laws.Moves.{can_double, adds, doubles}

module _ (p m : ℕ) (table : List ℕ) (l : ℕ) (h : l < m) where
  -- The totals of a doubled table are twice as large.
  pub total-doubled : link_total p m (front (p * m) (λ i. 2 * get_or table i 0) table) l ≡ 2 * link_total p m table l
  unfolding link_total
  total-doubled =
      sum-cong p _ _ (λ k b. front_at (p * m) (λ i. 2 * get_or table i 0) table (k * m + l) (digits_lt {q = k} {m = p} {r = l} {c = m} b h))
      ∙ sum-scale p 2 (λ k. get_or table (k * m + l) 0)

  -- With j·Y added to a table, j × Y's totals are added to its totals.
  total-added : (j : ℕ) (y : List ℕ) → link_total p m (added_rows (p * m) j y table) l ≡ link_total p m table l + j * link_total p m y l
  unfolding link_total added_rows
  total-added j y =
      sum-cong p _ _ (λ k b. front_at (p * m) (λ i. get_or table i 0 + j * get_or y i 0) table (k * m + l) (digits_lt {q = k} {m = p} {r = l} {c = m} b h))
      ∙ sum-add p (λ k. get_or table (k * m + l) 0) (λ k. j * get_or y (k * m + l) 0)
      ∙ ap (λ x. link_total p m table l + x) (sum-scale p j (λ k. get_or y (k * m + l) 0))

-- The array of totals S and of a loading's totals Y, with the first l totals moved.
abbrev pub moved_to : ℕ → ℕ → List (List ℕ) → List (List ℕ)
moved_to l j flows = set flows 0 (front l (total_after j flows) (get_or flows 0 []))

module _ {m j : ℕ} {flows : List (List ℕ)} (w : TotalsMovable m j flows) where
  some-row : 0 < length flows
  some-row =
      ⊎_elim (λ h. h)
      (λ h. absurd (let none = ap length (get_or-eq_default flows [] h) in omega (arith, w.size)))
      (order 0 (length flows))

  -- None is at first,
  pub moved_none : flows ≡ moved_to 0 j flows
  moved_none = sym (ap (set flows 0) (sym (front-none (total_after j flows) (get_or flows 0 []))) ∙ set-get_or flows 0 [])

  module _ {l : ℕ} (h : l < m) {now : List (List ℕ)} (e : now ≡ moved_to l j flows) where
    totals-now : get_or now 0 [] ≡ front l (total_after j flows) (get_or flows 0 [])
    totals-now = ap (λ xs. get_or xs 0 []) e ∙ get_or-set_same flows 0 _ [] some-row

    -- then total l, which is as it was,
    total_kept : total_of now l ≡ total_of flows l
    total_kept = ap (λ xs. get_or xs l 0) totals-now ∙ front-past l _ _ l (omega arith)

    load_kept : load_of now l ≡ load_of flows l
    load_kept = ap (λ xs. get_or (get_or xs 1 []) l 0) e ∙ ap (λ xs. get_or xs l 0) (get_or-set_other flows 0 1 _ [] (λ s. omega arith))

    pub total-fits : total_of now l ≤ most_flow
    total-fits = omega (arith, total_kept, w.totals-fit l h)

    pub load_fits : j * load_of now l ≤ 64 * most_flow
    load_fits = rw load_kept (mul-le-mul {n₂ = 64} w.small-step (w.loads-fit l h))

    moved_more : {x : ℕ} → x ≡ total_after j flows l → set now 0 (set (get_or now 0 []) l x) ≡ moved_to (l + 1) j flows
    moved_more {x} v =
        ap (λ xs. set xs 0 (set (get_or now 0 []) l x)) e
        ∙ set-set flows 0 _ _
        ∙ ap (set flows 0) (front-more (total_after j flows) (get_or flows 0 []) l (get_or now 0 []) x (omega (arith, w.few-links, w.size)) totals-now v)

    -- to which j·Y is added, or which is doubled.
    pub moved-adds : 0 < j → {x : ℕ} → x ≡ total_of now l + j * load_of now l →
        set now 0 (set (get_or now 0 []) l x) ≡ moved_to (l + 1) j flows
    unfolding total_after
    moved-adds some is = moved_more (is ∙ rw (lt-ltb 0 j some) (ap₂ (λ a b. a + j * b) total_kept load_kept))

    pub moved-doubles : j ≤ 0 → {x : ℕ} → x ≡ 2 * total_of now l → set now 0 (set (get_or now 0 []) l x) ≡ moved_to (l + 1) j flows
    unfolding total_after
    moved-doubles none is = moved_more (is ∙ rw (le-ltb 0 j none) (ap (λ a. 2 * a) total_kept))

-- Totals S that stand in an array with the totals Y of a loading, moved by the j by which the table is.
module _ (p m share j : ℕ) (y table : List ℕ) (few : m ≤ 512) (can : can_move share j ≡ true) (flows : List (List ℕ))
    (long : length flows ≡ 2) (totals-are : get_or flows 0 [] ≡ padded m (link_total p m table)) (loads-are : get_or flows 1 [] ≡ padded m (link_total p m y)) where
  total-after : {table' : List ℕ} → table' ≡ table_after table (move_along (p * m) share j y table) →
      (l : ℕ) → l < m → total_after j flows l ≡ link_total p m table' l
  unfolding total_after
  total-after {table'} f l h =
      let s : total_of flows l ≡ link_total p m table l = ap (λ xs. get_or xs l 0) totals-are ∙ get_d-padded m _ l h in
      let t : load_of flows l ≡ link_total p m y l = ap (λ xs. get_or xs l 0) loads-are ∙ get_d-padded m _ l h in
      ⊎_elim
      (λ some.
      rw (lt-ltb 0 j some)
      (ap₂ (λ a b. a + j * b) s t
      ∙ sym (total-added p m table l h j y)
      ∙ ap (λ xs. link_total p m xs l) ((adds (p * m) share j y table some).1 ∙ sym f)))
      (λ none.
      let fits = leb-true (2 * share) 1024 (can_double share j none ∙ can) in
      rw (le-ltb 0 j none)
      (ap (λ a. 2 * a) s
      ∙ sym (total-doubled p m table l h)
      ∙ ap (λ xs. link_total p m xs l) ((doubles (p * m) share j y table none fits).1 ∙ sym f)))
      (order 0 j)

  pub moved-totals :
      {flows' : List (List ℕ)} {table' : List ℕ} → flows' ≡ moved_to m j flows →
      table' ≡ table_after table (move_along (p * m) share j y table) → get_or flows' 0 [] ≡ padded m (link_total p m table')
  moved-totals {flows'} e f =
      front-clear m (total_after j flows) few clear (ap (λ xs. get_or xs 0 []) e ∙ get_or-set_same flows 0 _ [] (omega arith))
      ∙ padded-cong m _ _ few (total-after f)
    where
      clear : Clear m (get_or flows 0 [])
      clear = rw totals-are (padded-clear m (link_total p m table) few)
