-- Every definition on a table reads its first p·m numbers only: two tables that agree there have the same totals, times, cost, links over, gap
-- and moves, and pass the same questions.
use Rattle.std.specs.Prelude.{ℕ, ◌+◌, ◌*◌, ◌<◌, min, ◌-◌, ◌≡◌, refl, true, false, List, eqb}
use Rattle.std.proofs.Common.{sym, ◌∙◌, ap₂}
use Rattle.std.proofs.Math.Path.{ap}
use Rattle.std.proofs.Math.Bool.{cond}
use Rattle.std.proofs.Math.Option.{Option, none, some}
use Rattle.std.proofs.Math.ListN.{get_or}
use Rattle.std.proofs.Math.Arith.{digits_lt}
use Rattle.std.proofs.Math.Dec.{leb}
use Rattle.theory.specs.Network.{Network, total_trips}
use Rattle.theory.specs.Flows.{entry, link_total, total, sum_at, balances, conserves, Carries, totals_fit, step, time_at, times, is_over, over}
use Rattle.theory.specs.Routes.{loading}
use Rattle.theory.specs.Cost.{link_cost, cost, spent_times, gap}
use Rattle.theory.specs.Moves.{Shared, table_size, moved_times, qualifies, chosen, added, doubled, move}
use Rattle.theory.specs.Laws.Moves.{loading_of, chosen_of}
use Rattle.theory.specs.Laws.Finite.{sum-cong, count-cong, all-cong, tabulate-cong, largest-cong}

-- The choice of j depends on the flows of the links alone.
pub chosen-cong : (g : Network) (share : ℕ) (s s' y : ℕ → ℕ) → ((l : ℕ) → l < g.links → s l ≡ s' l) → chosen g share s y ≡ chosen g share s' y
unfolding chosen qualifies moved_times
chosen-cong g share s s' y same =
    largest-cong (min 64 (1024 - share)) _ _ (λ j. test j)
  where
    time-same : (j l : ℕ) → l < g.links → time_at g (share + j) (λ i. s i + j * y i) l ≡ time_at g (share + j) (λ i. s' i + j * y i) l
    time-same j l p = ap (λ v. g.height l (step (g.capacity l) (share + j) (v + j * y l))) (same l p)

    test : (j : ℕ) → qualifies g share s y j ≡ qualifies g share s' y j
    test j =
        let a = sum-cong g.links (λ l. y l * time_at g (share + j) (λ i. s i + j * y i) l) (λ l. y l * time_at g (share + j) (λ i. s' i + j * y i) l) (λ l p. ap (λ t. y l * t) (time-same j l p)) in
        let b = sum-cong g.links (λ l. s l * time_at g (share + j) (λ i. s i + j * y i) l) (λ l. s' l * time_at g (share + j) (λ i. s' i + j * y i) l) (λ l p. let u = same l p in let v = time-same j l p in cc) in
        cc

-- What a pass makes of a table, by the j that it chose, the table with j·Y added and the table doubled.
unfoldable pub move_by : ℕ → ℕ → List ℕ → List ℕ → Option Shared
move_by share j more double =
    elim (eqb j 0) [
      | false ↦ some (record { table = more; share = share + j })
      | true ↦ elim (leb (2 * share) 1024) [ true ↦ some (record { table = double; share = 2 * share }) | false ↦ none ]
    ]

pub move-by : (g : Network) (x : Shared) → move g x ≡ move_by x.share (chosen_of g x) (added g x.table (chosen_of g x) (loading_of g x)) (doubled g x.table)
unfolding move move_by
move-by g x = refl

module _ (g : Network) (x y : List ℕ) (same : (i : ℕ) → i < table_size g → get_or x i 0 ≡ get_or y i 0) where
  pub entry-same : (k l : ℕ) → k < g.commodities → l < g.links → entry g.links x k l ≡ entry g.links y k l
  entry-same k l p q = same (k * g.links + l) (digits_lt {q = k} {m = g.commodities} {r = l} {c = g.links} p q)

  pub total-same : (l : ℕ) → l < g.links → total g x l ≡ total g y l
  unfolding link_total
  total-same l q = sum-cong g.commodities _ _ (λ k p. entry-same k l p q)

  pub totals_fit-same : (share : ℕ) → totals_fit g share x ≡ totals_fit g share y
  unfolding totals_fit
  totals_fit-same share = all-cong g.links _ _ (λ l p. ap (λ v. leb v (share * total_trips g)) (total-same l p))

  sum_at-same : (end : ℕ → ℕ) (j k : ℕ) → k < g.commodities → sum_at g.links end j (entry g.links x k) ≡ sum_at g.links end j (entry g.links y k)
  unfolding sum_at
  sum_at-same end j k p = sum-cong g.links _ _ (λ l q. ap (λ v. cond (eqb (end l) j) v 0) (entry-same k l p q))

  pub conserves-same : (share : ℕ) → conserves g share x ≡ conserves g share y
  unfolding conserves balances
  conserves-same share =
      all-cong g.commodities _ _ (λ k p.
      all-cong g.nodes _ _ (λ j q.
      let a = sum_at-same g.tail j k p in
      let b = sum_at-same g.head j k p in
      cc))

  pub carries_same : (share : ℕ) → Carries g share x → Carries g share y
  carries_same share c =
      record {
        conserving = sym (conserves-same share) ∙ c.conserving;
        permitted = λ k l p q e. sym (entry-same k l p q) ∙ c.permitted k l p q e;
      }

  pub times-same : (share : ℕ) → times g share x ≡ times g share y
  unfolding times
  times-same share =
      tabulate-cong g.links _ _ (λ l p. ap (λ v. g.height l (step (g.capacity l) share v)) (total-same l p))

  pub cost-same : (share : ℕ) → cost g share x ≡ cost g share y
  unfolding cost
  cost-same share = sum-cong g.links _ _ (λ l p. ap (link_cost (g.height l) (g.capacity l) share) (total-same l p))

  pub over-same : (share : ℕ) → over g share x ≡ over g share y
  unfolding over
  over-same share = count-cong g.links _ _ (λ l p. ap (λ v. is_over (step (g.capacity l) share v)) (total-same l p))

  pub spent_times-same : (t : List ℕ) → spent_times g t x ≡ spent_times g t y
  unfolding spent_times
  spent_times-same t = sum-cong g.links _ _ (λ l p. ap (λ v. get_or t l 0 * v) (total-same l p))

  pub gap_same : (share : ℕ) → gap g share x ≡ gap g share y
  unfolding gap
  gap_same share =
      let t = times-same share in
      let s = spent_times-same (times g share x) in
      cc

  added-same : (j : ℕ) (z : List ℕ) → added g x j z ≡ added g y j z
  unfolding added
  added-same j z = tabulate-cong (table_size g) _ _ (λ i p. ap (λ v. v + j * get_or z i 0) (same i p))

  doubled-same : doubled g x ≡ doubled g y
  unfolding doubled
  doubled-same = tabulate-cong (table_size g) _ _ (λ i p. ap (λ v. 2 * v) (same i p))

  pub move_same : (share : ℕ) → move g (record { table = x; share = share }) ≡ move g (record { table = y; share = share })
  move_same share =
      let z = loading g (times g share x) in
      let j = chosen g share (total g x) (total g z) in
      let a = added-same j z in
      let b = doubled-same in
      let c = chosen-cong g share (total g x) (total g y) (total g z) total-same in
      let t = times-same share in
      move-by g (record { table = x; share = share })
      ∙ ap₂ (λ p q. move_by share j p q) a b
      ∙ ap (λ i. move_by share i (added g y i z) (doubled g y)) c
      ∙ ap (λ l. move_by share (chosen g share (total g y) (total g (loading g l))) (added g y (chosen g share (total g y) (total g (loading g l))) (loading g l)) (doubled g y)) t
      ∙ sym (move-by g (record { table = y; share = share }))
