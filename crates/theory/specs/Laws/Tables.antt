-- Tables with j·Y added, and doubled: their entries, totals and conservation.
use Rattle.std.specs.Prelude.{ℕ, ◌+◌, ◌*◌, ◌-◌, ◌/◌, ◌%◌, ◌≤◌, ◌<◌, ◌≡◌, Bool, List, length, get_or, eqb}
use Rattle.std.proofs.Common.{mul-le-mul_left, mul-le-mul_right, div-add-mod', mod-lt, div-lt_iff_lt-mul, pos_of_ne-zero, le_trans, ◌∙◌, ap, ap₂, leb-true, le-leb}
use Rattle.std.proofs.Math.Nat.{eq_of_mul-eq-mul_left}
use native.Mathlib.Omega.{arith}
use Rattle.std.proofs.Math.Bool.{true, false, cond}
use Rattle.std.proofs.Math.Arith.{digits_lt}
use Rattle.theory.specs.Network.{Network, total_trips}
use Rattle.theory.specs.Flows.{entry, total, link_total, sum_at, Carries, totals_fit}
use Rattle.theory.specs.Moves.{table_size, added, doubled}
use Rattle.theory.specs.Laws.Finite.{sum-cong, sum-term, all-elim, all-intro, length-tabulate, get_d_tabulate}
use Rattle.theory.specs.Laws.Inequalities.{sum_both}
use Rattle.theory.specs.Laws.Conserving.{conserves-balanced, balanced-conserves}

-- Question 15's test holds only where each link's total is at most share × T,
pub totals_fit-all : (g : Network) (share : ℕ) (table : List ℕ) → totals_fit g share table ≡ true →
    (l : ℕ) → l < g.links → total g table l ≤ share * total_trips g
unfolding totals_fit
totals_fit-all g share table h l p = leb-true _ _ (all-elim g.links _ h l p)

-- and holds there.
pub all-totals_fit : (g : Network) (share : ℕ) (table : List ℕ) →
    ((l : ℕ) → l < g.links → total g table l ≤ share * total_trips g) → totals_fit g share table ≡ true
unfolding totals_fit
all-totals_fit g share table h = all-intro g.links _ (λ l p. le-leb _ _ (h l p))

-- A number of a table is at most its link's total, so at most what every total is at most.
pub number-most :
    (p m : ℕ) (table : List ℕ) (most : ℕ) → ((l : ℕ) → l < m → link_total p m table l ≤ most) →
    (i : ℕ) → i < p * m → get_or table i 0 ≤ most
unfolding link_total
number-most p m table most totals i h =
    let some-links : 0 < m = pos_of_ne-zero (λ e. let none = ap (λ x. p * x) e in omega arith) in
    let row : i / m < p = (div-lt_iff_lt-mul some-links).1 h in
    let link : i % m < m = mod-lt i some-links in
    let place : i / m * m + i % m ≡ i = div-add-mod' i m in
    let term = sum-term p (λ k. get_or table (k * m + i % m) 0) (i / m) row in
    le_trans (rw place at term) (totals (i % m) link)

-- A table of which every entry is a × that of one table + b × that of another.
abbrev Combined : Network → ℕ → ℕ → List ℕ → List ℕ → List ℕ → Type 0
Combined g a b x y z =
    (k l : ℕ) → k < g.commodities → l < g.links → entry g.links z k l ≡ a * entry g.links x k l + b * entry g.links y k l

module _ (g : Network) (a b : ℕ) (x y z : List ℕ) (c : Combined g a b x y z) where
  -- Its totals are so combined too,
  total-combined : (l : ℕ) → l < g.links → total g z l ≡ a * total g x l + b * total g y l
  unfolding link_total
  total-combined l p =
      sum-cong g.commodities _ _ (λ k q. c k l q p)
      ∙ sum_both g.commodities a b (λ k. entry g.links x k l) (λ k. entry g.links y k l)

  -- and a commodity's flow at a node,
  sum_at-combined : (end : ℕ → ℕ) (k j : ℕ) → k < g.commodities →
      sum_at g.links end j (entry g.links z k)
      ≡ a * sum_at g.links end j (entry g.links x k) + b * sum_at g.links end j (entry g.links y k)
  unfolding sum_at
  sum_at-combined end k j q =
      sum-cong g.links _ _ (λ l p. at (eqb (end l) j) _ _ _ (c k l q p))
      ∙ sum_both g.links a b (λ l. cond (eqb (end l) j) (entry g.links x k l) 0) (λ l. cond (eqb (end l) j) (entry g.links y k l) 0)
    where
      at : (t : Bool) (u v w : ℕ) → u ≡ a * v + b * w → cond t u 0 ≡ a * cond t v 0 + b * cond t w 0
      at true u v w e = e
      at false u v w e = omega arith

  -- so it carries at the shares combined.
  carries-combined : (v w : ℕ) → Carries g v x → Carries g w y → Carries g (a * v + b * w) z
  carries-combined v w cx cy =
      record {
        conserving = balanced-conserves g (a * v + b * w) z (λ k j p q off.
            let xs = ap (λ n. a * n) (conserves-balanced g v x cx.conserving k j p q off) in
            let ys = ap (λ n. b * n) (conserves-balanced g w y cy.conserving k j p q off) in
            omega (arith, sum_at-combined g.tail k j p, sum_at-combined g.head k j p));
        permitted = λ k l p q barred.
            c k l p q ∙ ap₂ (λ m n. a * m + b * n) (cx.permitted k l p q barred) (cy.permitted k l p q barred) ∙ omega arith;
      }

  -- Where it carries at the shares combined and the second table at its own, the first carries at its own.
  carries-parted : (v w : ℕ) → 1 ≤ a → Carries g (a * v + b * w) z → Carries g w y → Carries g v x
  carries-parted v w some-a cz cy =
      record {
        conserving = balanced-conserves g v x (λ k j p q off.
            let zs = conserves-balanced g (a * v + b * w) z cz.conserving k j p q off in
            let ys = ap (λ n. b * n) (conserves-balanced g w y cy.conserving k j p q off) in
            eq_of_mul-eq-mul_left a some-a _ _ (omega (arith, sum_at-combined g.tail k j p, sum_at-combined g.head k j p)));
        permitted = λ k l p q barred.
            omega (arith, c k l p q, cz.permitted k l p q barred, cy.permitted k l p q barred, mul-le-mul_right (entry g.links x k l) some-a);
      }

-- A table's place for a commodity and a link is below its size.
place-lt : (g : Network) (k l : ℕ) → k < g.commodities → l < g.links → k * g.links + l < table_size g
place-lt g k l p q = digits_lt p q

module _ (g : Network) (table : List ℕ) (j : ℕ) (y : List ℕ) where
  -- A table with j·Y added has p·m numbers.
  pub length-added : length (added g table j y) ≡ table_size g
  unfolding added
  length-added = length-tabulate (table_size g) _

  -- Its entries are the table's + j × Y's,
  pub entry-added : (k l : ℕ) → k < g.commodities → l < g.links →
      entry g.links (added g table j y) k l ≡ entry g.links table k l + j * entry g.links y k l
  unfolding added
  entry-added k l p q = get_d_tabulate (table_size g) _ 0 (k * g.links + l) (place-lt g k l p q)

  combined-added : Combined g 1 j table y (added g table j y)
  combined-added k l p q = omega (arith, entry-added k l p q)

  -- and so are its totals.
  pub total-added : (l : ℕ) → l < g.links → total g (added g table j y) l ≡ total g table l + j * total g y l
  total-added l p = omega (arith, total-combined g 1 j table y (added g table j y) combined-added l p)

  -- It carries at share W + j where the table carries at W and Y at 1.
  pub carries-added : (share : ℕ) → Carries g share table → Carries g 1 y → Carries g (share + j) (added g table j y)
  carries-added share c d =
      let e : 1 * share + j * 1 ≡ share + j = omega arith in
      rw e at (carries-combined g 1 j table y (added g table j y) combined-added share 1 c d)

  -- Its totals are at most (W + j) × T where the table's are at most W × T and Y's at most T.
  pub totals_fit-added : (share : ℕ) → totals_fit g share table ≡ true → ((l : ℕ) → l < g.links → total g y l ≤ total_trips g) →
      totals_fit g (share + j) (added g table j y) ≡ true
  totals_fit-added share fits within =
      all-totals_fit g (share + j) (added g table j y) (λ l p.
      omega (arith, total-added l p, totals_fit-all g share table fits l p, mul-le-mul_left j (within l p)))

module _ (g : Network) (table : List ℕ) where
  -- A doubled table has p·m numbers.
  pub length-doubled : length (doubled g table) ≡ table_size g
  unfolding doubled
  length-doubled = length-tabulate (table_size g) _

  -- Its entries are twice the table's,
  pub entry-doubled : (k l : ℕ) → k < g.commodities → l < g.links →
      entry g.links (doubled g table) k l ≡ 2 * entry g.links table k l
  unfolding doubled
  entry-doubled k l p q = get_d_tabulate (table_size g) _ 0 (k * g.links + l) (place-lt g k l p q)

  combined-doubled : Combined g 2 0 table table (doubled g table)
  combined-doubled k l p q = omega (arith, entry-doubled k l p q)

  -- and so are its totals.
  pub total-doubled : (l : ℕ) → l < g.links → total g (doubled g table) l ≡ 2 * total g table l
  total-doubled l p = omega (arith, total-combined g 2 0 table table (doubled g table) combined-doubled l p)

  -- It carries at share 2W where the table carries at W.
  pub carries-doubled : (share : ℕ) → Carries g share table → Carries g (2 * share) (doubled g table)
  carries-doubled share c =
      let e : 2 * share + 0 * share ≡ 2 * share = omega arith in
      rw e at (carries-combined g 2 0 table table (doubled g table) combined-doubled share share c c)

  -- Its totals are at most 2W × T where the table's are at most W × T.
  pub totals_fit-doubled : (share : ℕ) → totals_fit g share table ≡ true → totals_fit g (2 * share) (doubled g table) ≡ true
  totals_fit-doubled share fits =
      all-totals_fit g (2 * share) (doubled g table) (λ l p. omega (arith, total-doubled l p, totals_fit-all g share table fits l p))

-- A table from which j·Y is taken, where that is possible: it carries at share V where the table carries at V + j and Y at 1.
pub carries-lessened : (g : Network) (table : List ℕ) (j : ℕ) (y less : List ℕ) → ((i : ℕ) → i < table_size g → j * get_or y i 0 ≤ get_or table i 0)
    → ((i : ℕ) → i < table_size g → get_or less i 0 ≡ get_or table i 0 - j * get_or y i 0)
    → (v : ℕ) → Carries g (v + j) table → Carries g 1 y → Carries g v less
carries-lessened g table j y less part is v c d =
    let e : v + j ≡ 1 * v + j * 1 = omega arith in
    carries-parted g 1 j less y table
    (λ k l p q. let h = place-lt g k l p q in omega (arith, part (k * g.links + l) h, is (k * g.links + l) h))
    v 1 (omega arith) (rw e at c) d

-- A halved table, where every entry is even: it carries at share V where the table carries at 2V.
pub carries-halved : (g : Network) (table half : List ℕ) → ((i : ℕ) → i < table_size g → get_or table i 0 % 2 ≡ 0)
    → ((i : ℕ) → i < table_size g → get_or half i 0 ≡ get_or table i 0 / 2)
    → (v : ℕ) → Carries g (2 * v) table → Carries g v half
carries-halved g table half evens is v c =
    let e : 2 * v ≡ 2 * v + 0 * (2 * v) = omega arith in
    carries-parted g 2 0 half table table
    (λ k l p q. let h = place-lt g k l p q in omega (arith, evens (k * g.links + l) h, is (k * g.links + l) h))
    v (2 * v) (omega arith) (rw e at c) c
