-- The loading: it carries the trips at share 1, and spends the least times.
use Rattle.std.specs.Prelude.{ℕ, ◌+◌, ◌*◌, ◌≤◌, ◌<◌, ◌≡◌, true, false, cond, List, [], ◌≢◌, length, eqb}
use Rattle.std.proofs.Math.Nat.{mul-le-mul_left}
use Rattle.std.proofs.Common.{arith, ◌∙◌}
use Rattle.std.proofs.Math.Path.{sym, ap}
use Rattle.std.proofs.Math.Option
use Rattle.std.proofs.Math.Option.{some}
use Rattle.std.proofs.Math.ListN.{get_or}
use borrow.Author.Tests.{eq-eqb, ne_eqb, le-leb}
use Rattle.theory.specs.Finite.{sum}
use Rattle.theory.specs.Network.{Network, Sound, total_trips}
use Rattle.theory.specs.Flows.{entry, total, link_total, sum_at, Carries, totals_fit}
use Rattle.theory.specs.Routes.{Routing, routing, distance, is_some, occurrences, sent_along, loading_row, loading}
use Rattle.theory.specs.Cost.{least_times, spent_times}
use Rattle.theory.specs.Laws.Cases.{on-equal, on-option, true-false}
use Rattle.theory.specs.Laws.Finite.{sum-cong, sum_mono, sum-add, sum-zero, sum-scale, sum-swap, sum-pick}
use Rattle.theory.specs.Laws.Finite.{all-intro, length-tabulate, get_d_tabulate, length-rows, get_d_rows}
use Rattle.theory.specs.Laws.Conserving.{Balanced, balanced-conserves}
use Rattle.theory.specs.Laws.Paths.{WellFormed, one_if, sum-at-weight}
use Rattle.theory.specs.Laws.Walks.{walk_from, walked, walk-once, walk-time, walk-balance, unusable-absent}
use Rattle.theory.specs.Laws.Routings.{Timed, Served, AllServed, routing-well-formed}

-- The trips that the walks from all nodes take over a link.
unfoldable pub loaded : Routing → (ℕ → ℕ) → ℕ → ℕ
loaded q trips l = sum q.nodes (λ j. trips j * occurrences l (walk_from q j))

-- The loading of one destination has a number for each link,
pub length-row : (q : Routing) (trips : ℕ → ℕ) → length (loading_row q trips) ≡ q.links
unfolding loading_row sent_along
length-row q trips = length-tabulate q.links _

-- the trips over that link.
pub row_loaded : (q : Routing) (trips : ℕ → ℕ) (l : ℕ) → l < q.links → get_or (loading_row q trips) l 0 ≡ loaded q trips l
unfolding loading_row sent_along loaded
row_loaded q trips l h =
    get_d_tabulate q.links _ 0 l h
    ∙ sum-cong q.nodes _ _ (λ j k. ap (λ path. trips j * occurrences l path) (get_d_tabulate q.nodes (walk_from q) [] j k))

-- A weighted sum of the loading over links, walk by walk.
pub loaded-weighted :
    (q : Routing) (trips weight : ℕ → ℕ) →
    sum q.links (λ l. weight l * loaded q trips l)
    ≡ sum q.nodes (λ j. trips j * sum q.links (λ l. weight l * occurrences l (walk_from q j)))
unfolding loaded
loaded-weighted q trips weight =
    sum-cong q.links _ _ (λ l h. sym (sum-scale q.nodes (weight l) (λ j. trips j * occurrences l (walk_from q j))))
    ∙ sum-swap q.links q.nodes (λ l j. weight l * (trips j * occurrences l (walk_from q j)))
    ∙ sum-cong q.nodes _ _ (λ j h.
    sum-cong q.links _ (λ l. trips j * (weight l * occurrences l (walk_from q j))) (λ l k. omega arith)
    ∙ sum-scale q.links (trips j) (λ l. weight l * occurrences l (walk_from q j)))

-- The loading at a node, walk by walk.
loaded_at :
    (q : Routing) (trips end : ℕ → ℕ) (i : ℕ) →
    sum_at q.links end i (loaded q trips)
    ≡ sum q.nodes (λ j. trips j * sum_at q.links end i (λ l. occurrences l (walk_from q j)))
loaded_at q trips end i =
    sum-at-weight q.links end i (loaded q trips)
    ∙ loaded-weighted q trips (λ l. one_if (eqb (end l) i))
    ∙ sum-cong q.nodes _ _ (λ j h.
    ap (λ x. trips j * x) (sym (sum-at-weight q.links end i (λ l. occurrences l (walk_from q j)))))

-- The trips of the one node.
sum-trips-at : (nodes : ℕ) (trips : ℕ → ℕ) (i : ℕ) → i < nodes → sum nodes (λ j. trips j * one_if (eqb j i)) ≡ trips i
sum-trips-at nodes trips i h = sum-cong nodes _ (λ j. cond (eqb i j) (trips j) 0) (λ j k. at j) ∙ sum-pick nodes trips i h
  where
    at : (j : ℕ) → trips j * one_if (eqb j i) ≡ cond (eqb i j) (trips j) 0
    at j =
        on-equal i j
        (λ e. rw (eq-eqb i j e, eq-eqb j i (sym e)) (omega arith))
        (λ n. rw (ne_eqb i j n, ne_eqb j i (λ e. n (sym e))) (omega arith))

module _ (q : Routing) (w : WellFormed q) (trips : ℕ → ℕ) (served : Served q trips) where
  -- A node has no trips, or a distance.
  on-trips : {C : Type 0} (j : ℕ) → j < q.nodes → (trips j ≡ 0 → C) → ((y : ℕ) → distance q j ≡ some y → C) → C
  on-trips j h without within =
      on-equal (trips j) 0 without (λ n. on-option (distance q j) (λ e. true-false (served j h n) (ap is_some e)) within)

  -- The loading takes no link that is not usable.
  pub loaded-permitted : (l : ℕ) → q.usable l ≡ false → loaded q trips l ≡ 0
  unfolding loaded
  loaded-permitted l u =
      sum-zero q.nodes _ (λ j h.
      on-trips j h
      (λ e. rw e (omega arith))
      (λ y e. rw (unusable-absent q l j (walk_from q j) (walked q w j y h e).is-path u) (omega arith)))

  -- No link takes more than all trips: a walk uses a link at most once.
  pub loaded-fits : (l : ℕ) → loaded q trips l ≤ sum q.nodes trips
  unfolding loaded
  loaded-fits l =
      sum_mono q.nodes _ trips (λ j h.
      on-trips j h
      (λ e. rw e (omega arith))
      (λ y e. omega (arith, mul-le-mul_left (trips j) (walk-once q w j y h e l))))

  -- The loading balances at every node other than the destination.
  pub loaded-balance :
      (i : ℕ) → i < q.nodes → i ≢ q.destination →
      sum_at q.links q.tail i (loaded q trips) ≡ sum_at q.links q.head i (loaded q trips) + trips i
  loaded-balance i h away =
      let a = loaded_at q trips q.tail i in
      let b = loaded_at q trips q.head i in
      let c = sum-cong q.nodes (λ j. trips j * leaving j) (λ j. trips j * entering j + trips j * one_if (eqb j i)) at in
      let d = sum-add q.nodes (λ j. trips j * entering j) (λ j. trips j * one_if (eqb j i)) in
      omega (arith, sum-trips-at q.nodes trips i h)
    where
      leaving : ℕ → ℕ
      leaving j = sum_at q.links q.tail i (λ l. occurrences l (walk_from q j))

      entering : ℕ → ℕ
      entering j = sum_at q.links q.head i (λ l. occurrences l (walk_from q j))

      at : (j : ℕ) → j < q.nodes → trips j * leaving j ≡ trips j * entering j + trips j * one_if (eqb j i)
      at j k =
          on-trips j k (λ e. rw e (omega arith)) (λ y e.
          let z : one_if (eqb q.destination i) ≡ 0 = rw (ne_eqb q.destination i (λ f. away (sym f))) in
          let s : leaving j ≡ entering j + one_if (eqb j i) = omega (arith, walk-balance q w j y k e i) in
          rw s (omega arith))

  -- The loading spends the least times.
  pub loaded-time :
      sum q.links (λ l. q.time l * loaded q trips l) ≡ sum q.nodes (λ j. trips j * Option.get_or (distance q j) 0)
  loaded-time =
      loaded-weighted q trips q.time
      ∙ sum-cong q.nodes _ _ (λ j h. on-trips j h (λ e. rw e (omega arith)) (λ y e. rw (e, walk-time q w j y h e)))

-- The loading of a network has a number for each commodity and link,
pub length-loading : (g : Network) (t : List ℕ) → length (loading g t) ≡ g.commodities * g.links
unfolding loading
length-loading g t = length-rows g.commodities g.links _ (λ k h. length-row (routing g t k) (g.trips k))

-- the one of the commodity's row,
pub loading-row :
    (g : Network) (t : List ℕ) (k l : ℕ) → k < g.commodities → l < g.links →
    entry g.links (loading g t) k l ≡ get_or (loading_row (routing g t k) (g.trips k)) l 0
unfolding loading
loading-row g t k l h b =
    get_d_rows g.commodities g.links (λ k. loading_row (routing g t k) (g.trips k))
    (λ k h. length-row (routing g t k) (g.trips k)) 0 k l h b

-- the commodity's trips over the link.
pub loading-entry :
    (g : Network) (t : List ℕ) (k l : ℕ) → k < g.commodities → l < g.links →
    entry g.links (loading g t) k l ≡ loaded (routing g t k) (g.trips k) l
loading-entry g t k l h b = loading-row g t k l h b ∙ row_loaded (routing g t k) (g.trips k) l b

loading-at :
    (g : Network) (t : List ℕ) (end : ℕ → ℕ) (k i : ℕ) → k < g.commodities →
    sum_at g.links end i (entry g.links (loading g t) k) ≡ sum_at g.links end i (loaded (routing g t k) (g.trips k))
unfolding sum_at
loading-at g t end k i h =
    sum-cong g.links _ _ (λ l b. ap (λ x. cond (eqb (end l) i) x 0) (loading-entry g t k l h b))

total-loaded :
    (g : Network) (t : List ℕ) (l : ℕ) → l < g.links →
    total g (loading g t) l ≡ sum g.commodities (λ k. loaded (routing g t k) (g.trips k) l)
unfolding link_total
total-loaded g t l b = sum-cong g.commodities _ _ (λ k h. loading-entry g t k l h b)

module _ (g : Network) (sound : Sound g) (t : List ℕ) (timed : Timed g t) (served : AllServed g t) where
  well-formed : (k : ℕ) → k < g.commodities → WellFormed (routing g t k)
  well-formed = routing-well-formed g sound t timed

  -- The loading carries the trips at share 1.
  pub loading-carries : Carries g 1 (loading g t)
  loading-carries = record { conserving = balanced-conserves g 1 (loading g t) balanced; permitted = permitted }
    where
      balanced : Balanced g 1 (loading g t)
      balanced k j h b away =
          let a = loading-at g t g.tail k j h in
          let c = loading-at g t g.head k j h in
          omega (arith, loaded-balance (routing g t k) (well-formed k h) (g.trips k) (served k h) j b away)

      permitted :
          (k l : ℕ) → k < g.commodities → l < g.links → g.may_use k l ≡ false → entry g.links (loading g t) k l ≡ 0
      permitted k l h b u =
          loading-entry g t k l h b ∙ loaded-permitted (routing g t k) (well-formed k h) (g.trips k) (served k h) l u

  -- Each link's total of the loading is at most the total of trips.
  pub loading-total : (l : ℕ) → l < g.links → total g (loading g t) l ≤ total_trips g
  unfolding total_trips
  loading-total l b =
      rw (total-loaded g t l b)
      (sum_mono g.commodities _ _ (λ k h. loaded-fits (routing g t k) (well-formed k h) (g.trips k) (served k h) l))

  -- So question 15 is answered yes.
  pub loading-totals-fit : totals_fit g 1 (loading g t) ≡ true
  unfolding totals_fit
  loading-totals-fit =
      all-intro g.links _ (λ l b. le-leb (total g (loading g t) l) (1 * total_trips g) (omega (arith, loading-total l b)))

  -- The loading spends the least times.
  pub loading-spends : spent_times g t (loading g t) ≡ least_times g t
  unfolding spent_times least_times
  loading-spends =
      sum-cong g.links _ _ by-link
      ∙ sum-swap g.links g.commodities (λ l k. get_or t l 0 * loaded (routing g t k) (g.trips k) l)
      ∙ sum-cong g.commodities _ _ (λ k h. loaded-time (routing g t k) (well-formed k h) (g.trips k) (served k h))
    where
      by-link :
          (l : ℕ) → l < g.links →
          get_or t l 0 * total g (loading g t) l
          ≡ sum g.commodities (λ k. get_or t l 0 * loaded (routing g t k) (g.trips k) l)
      by-link l b =
          ap (λ x. get_or t l 0 * x) (total-loaded g t l b)
          ∙ sym (sum-scale g.commodities (get_or t l 0) (λ k. loaded (routing g t k) (g.trips k) l))
