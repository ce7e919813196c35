-- Question 16, a commodity's row at a time, and question 20, a link at a time.
use Rattle.std.specs.Prelude.{ℕ, ◌+◌, ◌*◌, ◌<◌, ◌≡◌, Bool, true, false, ◌||◌, cond, List, get_or, eqb}
use Rattle.std.proofs.Common.{arith, sym, ◌∙◌, ap}
use Rattle.std.proofs.Math.Path.{refl}
use Rattle.std.proofs.Math.ListN.{length}
use Rattle.theory.specs.Finite.{all}
use Rattle.theory.specs.Study.{tail, head, closed, barred, node_of, of_lorries, may_use, network}
use Rattle.theory.specs.Flows.{entry, sum_at, balances, permits}
use Rattle.theory.specs.Laws.Cases.{on_test, true-false}
use Rattle.theory.specs.Laws.Finite.{sum-cong, all-cong, all-suc, all-elim, all-intro, both, all-refuted}
use Rattle.travel.specs.Links.{row_balances}
use Rattle.theory.specs.Laws.Parts.{part, part_at}
use Rattle.theory.specs.Laws.Permission.{may-open}
use Rattle.questions.specs.Rows.{rows_conserve, link_permits, rows_permit}
use Rattle.questions.specs.Laws.Links.{none-barred}

-- A sum at a node goes by the flows of the links alone.
sum_at-cong : (m : ℕ) (end : ℕ → ℕ) (j : ℕ) (f g : ℕ → ℕ) → ((l : ℕ) → l < m → f l ≡ g l) → sum_at m end j f ≡ sum_at m end j g
unfolding sum_at
sum_at-cong m end j f g same = sum-cong m _ _ (λ l h. ap (λ x. cond (eqb (end l) j) x 0) (same l h))

-- Row k balances at every node other than its destination.
abbrev row_test : ℕ → List (List ℕ) → List ℕ → List ℕ → ℕ → List ℕ → ℕ → Bool
row_test n links commodities trips share table k =
    all n (λ j.
    eqb j (node_of (get_or commodities k 0))
    || balances (length links) (tail links) (head links) (λ i. get_or trips (k * n + i) 0) share (entry (length links) table k) j)

-- The rows before row k do.
unfoldable pub rows_before : ℕ → List (List ℕ) → List ℕ → List ℕ → ℕ → List ℕ → ℕ → Bool
rows_before n links commodities trips share table k = all k (row_test n links commodities trips share table)

module _ (n : ℕ) (links : List (List ℕ)) (commodities trips : List ℕ) (share : ℕ) (table : List ℕ) where
  abbrev test : ℕ → Bool
  test = row_test n links commodities trips share table

  -- The test of a part of the table with a part of the trips.
  abbrev pub part_test : ℕ → ℕ → Bool
  part_test k s = row_balances n links s (part trips (k * n) n) share (part table (k * length links) (length links))

  part-test : (k : ℕ) → part_test k (node_of (get_or commodities k 0)) ≡ test k
  unfolding row_balances balances
  part-test k =
      all-cong n _ _ (λ j h.
      let sent = part_at trips (k * n) n j h in
      let out = sum_at-cong (length links) (tail links) j _ _ (λ l b. part_at table (k * length links) (length links) l b) in
      let into = sum_at-cong (length links) (head links) j _ _ (λ l b. part_at table (k * length links) (length links) l b) in
      cc)

  pub rows_none : rows_before n links commodities trips share table 0 ≡ true
  unfolding rows_before all
  rows_none = refl

  pub rows_pass : (k s : ℕ) → s ≡ node_of (get_or commodities k 0) → rows_before n links commodities trips share table k ≡ true → part_test k s ≡ true →
      rows_before n links commodities trips share table (k + 1) ≡ true
  unfolding rows_before
  rows_pass k s to so_far passes = all-suc k test ∙ both _ _ so_far (sym (ap (part_test k) to ∙ part-test k) ∙ passes)

  pub rows-fail : (k s : ℕ) → s ≡ node_of (get_or commodities k 0) → k < length commodities → part_test k s ≡ false →
      rows_conserve n links commodities trips share table ≡ false
  unfolding rows_conserve
  rows-fail k s to h fails = all-refuted (length commodities) test k h (sym (ap (part_test k) to ∙ part-test k) ∙ fails)

  pub rows_all : (k : ℕ) → k ≡ length commodities → rows_before n links commodities trips share table k ≡ true →
      rows_conserve n links commodities trips share table ≡ true
  unfolding rows_before rows_conserve
  rows_all k all_of so_far = rw (← all_of) so_far

-- A test of all pairs may be put in either order,
all-swap : (n m : ℕ) (test : ℕ → ℕ → Bool) → all n (λ i. all m (test i)) ≡ all m (λ j. all n (λ i. test i j))
all-swap n m test =
    on_test (all n (λ i. all m (test i)))
    (λ e. e ∙ sym (turned n m test e))
    (λ e. on_test (all m (λ j. all n (λ i. test i j))) (λ f. true-false (turned m n (λ j i. test i j) f) e) (λ f. e ∙ sym f))
  where
    turned : (a b : ℕ) (t : ℕ → ℕ → Bool) → all a (λ i. all b (t i)) ≡ true → all b (λ j. all a (λ i. t i j)) ≡ true
    turned a b t e = all-intro b _ (λ j q. all-intro a _ (λ i p. all-elim b (t i) (all-elim a (λ x. all b (t x)) e i p) j q))

-- so question 20 a link at a time.
pub permits-is : (n : ℕ) (links : List (List ℕ)) (commodities trips table : List ℕ) → rows_permit links commodities table ≡ permits (network n links commodities trips) table
unfolding rows_permit link_permits permits network
permits-is n links commodities trips table =
    all-swap (length links) (length commodities) (λ l k. may_use links (get_or commodities k 0) l || eqb (entry (length links) table k l) 0)

module _ (links : List (List ℕ)) (commodities table : List ℕ) (l : ℕ) where
  -- The test of one commodity on a link.
  unfoldable pub carry_test : ℕ → Bool
  carry_test k = may_use links (get_or commodities k 0) l || eqb (entry (length links) table k l) 0

  pub permits-all : link_permits links commodities table l ≡ all (length commodities) carry_test
  unfolding link_permits carry_test
  permits-all = refl

  -- A link whose head is open and that is not barred may carry any flow.
  pub open-permits : closed links l ≡ 0 → barred links l ≡ 0 → link_permits links commodities table l ≡ true
  unfolding link_permits
  open-permits open-head on =
      all-intro (length commodities) _ (λ k h.
      rw (may-open links (get_or commodities k 0) l (none-barred links (of_lorries (get_or commodities k 0)) l on) (λ shut. absurd (omega arith))))
