-- No table that carries the trips spends less than the least times.
use Rattle.std.specs.Prelude.{ℕ, ◌+◌, ◌*◌, ◌≤◌, ◌<◌, ◌≡◌, refl, Bool, true, false, List}
use Rattle.std.proofs.Common.{le_refl, le_of_eq, mul-le-mul_left, arith, sym, ◌∙◌, ap}
use Rattle.std.proofs.Math.Nat.{le_trans}
use Rattle.std.proofs.Math.Option
use Rattle.std.proofs.Math.Option.{Option, none, some}
use Rattle.std.proofs.Math.ListN.{get_or}
use Rattle.theory.specs.Finite.{sum}
use Rattle.theory.specs.Network.{Network, Sound}
use Rattle.theory.specs.Flows.{entry, link_total, Carries}
use Rattle.theory.specs.Routes.{Routing, routing, distance}
use Rattle.theory.specs.Cost.{least_times, spent_times}
use Rattle.theory.specs.Laws.Finite.{sum-cong, sum_mono, sum-scale, sum-swap, sum-term}
use Rattle.theory.specs.Laws.Conserving.{conserves-balanced}
use Rattle.theory.specs.Laws.Potentials.{potentials-spent}
use Rattle.theory.specs.Laws.Consistent.{Consistent}

-- The distance of a node, or 0 for one without a path.
abbrev known : Routing → ℕ → ℕ
known q j = Option.get_or (distance q j) 0

-- The distance of a node, or the sum of all distances for one without a path: no distance is larger.
abbrev reach : Routing → ℕ → ℕ
reach q j = Option.get_or (distance q j) (sum q.nodes (known q))

known-le-reach : (q : Routing) (j : ℕ) → known q j ≤ reach q j
known-le-reach q j = go (distance q j)
  where
    go : (d : Option ℕ) → Option.get_or d 0 ≤ Option.get_or d (sum q.nodes (known q))
    go none = omega arith
    go (some x) = le_refl x

reach-le : (q : Routing) (j : ℕ) → j < q.nodes → reach q j ≤ sum q.nodes (known q)
reach-le q j p = go (distance q j) refl
  where
    go : (d : Option ℕ) → distance q j ≡ d → Option.get_or d (sum q.nodes (known q)) ≤ sum q.nodes (known q)
    go none e = le_refl _
    go (some x) e =
        let a : known q j ≡ x = ap (λ (d : Option ℕ). Option.get_or d 0) e in
        omega (arith, sum-term q.nodes (known q) j p)

-- Along a usable link the reach falls by at most the link's time.
reach-falls : (q : Routing) → Consistent q → (l : ℕ) → l < q.links → q.tail l < q.nodes → q.usable l ≡ true →
    reach q (q.tail l) ≤ q.time l + reach q (q.head l)
reach-falls q c l p within usable = go (distance q (q.head l)) refl
  where
    go : (d : Option ℕ) → distance q (q.head l) ≡ d →
        reach q (q.tail l) ≤ q.time l + Option.get_or d (sum q.nodes (known q))
    go none e = omega (arith, reach-le q (q.tail l) within)
    go (some x) e =
        let (y, at_tail, least) = c.over-link l x p usable e in
        let a : reach q (q.tail l) ≡ y = ap (λ (d : Option ℕ). Option.get_or d (sum q.nodes (known q))) at_tail in
        omega arith

module _ (g : Network) (sound : Sound g) (share : ℕ) (table : List ℕ) (carries : Carries g share table) (t : List ℕ)
    (consistent : (k : ℕ) → k < g.commodities → Consistent (routing g t k)) where
  -- one commodity
  least-times-of : (k : ℕ) → k < g.commodities →
      share * sum g.nodes (λ j. g.trips k j * known (routing g t k) j)
      ≤ sum g.links (λ l. get_or t l 0 * entry g.links table k l)
  least-times-of k p =
      le_trans
      (mul-le-mul_left share
      (sum_mono g.nodes _ _ (λ j q. mul-le-mul_left (g.trips k j) (known-le-reach (routing g t k) j))))
      (potentials-spent g.nodes g.links g.tail g.head (g.destination k) share (g.trips k) (entry g.links table k)
      (record {
        tail-node = sound.tail-node;
        head-node = sound.head-node;
        balanced = λ j q off. conserves-balanced g share table carries.conserving k j p q off;
      })
      (reach (routing g t k))
      (ap (λ (d : Option ℕ). Option.get_or d (sum g.nodes (known (routing g t k)))) (consistent k p).at-destination)
      (λ l. get_or t l 0)
      (λ l q flows. reach-falls (routing g t k) (consistent k p) l q (sound.tail-node l q) (usable l q flows (g.may_use k l) refl)))
    where
      usable : (l : ℕ) → l < g.links → (entry g.links table k l ≡ 0 → ⊥) → (b : Bool) → g.may_use k l ≡ b → g.may_use k l ≡ true
      usable l q flows true e = e
      usable l q flows false e = absurd (flows (carries.permitted k l p q e))

  -- At any times for which the distances are consistent: share × the least times is at most the times spent.
  pub least-times-spent : share * least_times g t ≤ spent_times g t table
  unfolding least_times spent_times link_total
  least-times-spent =
      le_trans (le_of_eq (sym (sum-scale g.commodities share _)))
      (le_trans (sum_mono g.commodities _ _ least-times-of)
      (le_of_eq
      (sum-swap g.commodities g.links (λ k l. get_or t l 0 * entry g.links table k l)
      ∙ sum-cong g.links _ _ (λ l p. sum-scale g.commodities (get_or t l 0) (λ k. entry g.links table k l)))))
