-- Trips from a node without a path: no table carries them.
use Rattle.std.specs.Prelude.{ℕ, ◌+◌, ◌*◌, ◌≤◌, ◌<◌, ◌≡◌, Bool, true, false, cond, List, ◌≢◌}
use Rattle.std.proofs.Math.Nat.{one-le-mul}
use Rattle.std.proofs.Common.{arith}
use Rattle.std.proofs.Math.Option.{none, some}
use Rattle.theory.specs.Finite.{sum}
use Rattle.theory.specs.Network.{Network, Sound}
use Rattle.theory.specs.Flows.{entry, Carries}
use Rattle.theory.specs.Routes.{Routing, routing, distance, is_some}
use Rattle.theory.specs.Laws.Cases.{on-option, on_test, true-false}
use Rattle.theory.specs.Laws.Finite.{sum-term, sum-zero}
use Rattle.theory.specs.Laws.Conserving.{conserves-balanced}
use Rattle.theory.specs.Laws.Potentials.{Conserved, potentials-spent}
use Rattle.theory.specs.Laws.Paths.{WellFormed}
use Rattle.theory.specs.Laws.Distances.{distance-destination, distance-over-link}
use Rattle.theory.specs.Laws.Routings.{Timed, AllServed, routing-well-formed}

-- 1 at a node without a path, 0 at one with a path.
abbrev pathless : Routing → ℕ → ℕ
pathless q j = cond (is_some (distance q j)) 0 1

-- A usable link never leaves a node without a path for one that has one.
pathless-over-link :
    (q : Routing) → WellFormed q → (l : ℕ) → l < q.links → q.usable l ≡ true →
    pathless q (q.tail l) ≤ pathless q (q.head l)
pathless-over-link q w l b u = on-option (distance q (q.head l)) without within
  where
    at_most_one : (t : Bool) → cond t 0 1 ≤ 1
    at_most_one true = omega arith
    at_most_one false = omega arith

    without : distance q (q.head l) ≡ none → pathless q (q.tail l) ≤ pathless q (q.head l)
    without e = rw e (at_most_one (is_some (distance q (q.tail l))))

    within : (x : ℕ) → distance q (q.head l) ≡ some x → pathless q (q.tail l) ≤ pathless q (q.head l)
    within x e = let (y, f, m) = distance-over-link q w l x b u e in rw f (omega arith)

module _ (g : Network) (sound : Sound g) (t : List ℕ) (timed : Timed g t) (share : ℕ) (some-share : 1 ≤ share) (table : List ℕ)
    (carries : Carries g share table) where
  -- With potential 1 at the nodes without a path and 0 elsewhere, their trips come to 0.
  no-pathless-trips : (k : ℕ) → k < g.commodities → share * sum g.nodes (λ j. g.trips k j * pathless (routing g t k) j) ≡ 0
  no-pathless-trips k h =
      omega (arith, spent, sum-zero g.links (λ l. 0 * flow l) (λ l b. omega arith))
    where
      q : Routing
      q = routing g t k

      w : WellFormed q
      w = routing-well-formed g sound t timed k h

      flow : ℕ → ℕ
      flow = entry g.links table k

      conserved : Conserved g.nodes g.links g.tail g.head (g.destination k) share (g.trips k) flow
      conserved =
          record {
            tail-node = sound.tail-node;
            head-node = sound.head-node;
            balanced = λ j b away. conserves-balanced g share table carries.conserving k j h b away;
          }

      falls : (l : ℕ) → l < g.links → flow l ≢ 0 → pathless q (g.tail l) ≤ 0 + pathless q (g.head l)
      falls l b flows =
          on_test (g.may_use k l)
          (λ u. omega (arith, pathless-over-link q w l b u))
          (λ u. absurd (flows (carries.permitted k l h b u)))

      spent : share * sum g.nodes (λ j. g.trips k j * pathless q j) ≤ sum g.links (λ l. 0 * flow l)
      spent =
          potentials-spent
          g.nodes g.links g.tail g.head (g.destination k) share (g.trips k) flow conserved
          (pathless q) (rw (distance-destination q w)) (λ l. 0) falls

  -- Where a table carries the trips at a share of at least 1, every node with trips has a distance.
  pub carried-served : AllServed g t
  carried-served k h j b some-trips = on_test (is_some (distance (routing g t k) j)) (λ e. e) (λ e. absurd (none-carried e))
    where
      none-carried : is_some (distance (routing g t k) j) ≡ false → ⊥
      none-carried e =
          let here : g.trips k j * pathless (routing g t k) j ≡ g.trips k j = rw e (omega arith) in
          let term = sum-term g.nodes (λ j. g.trips k j * pathless (routing g t k) j) j b in
          let some-trips : 1 ≤ sum g.nodes (λ j. g.trips k j * pathless (routing g t k) j) = omega arith in
          omega (arith, one-le-mul some-share some-trips, no-pathless-trips k h)

  -- So no table carries them where some node with trips has none.
  pub unreachable :
      (k j : ℕ) → k < g.commodities → j < g.nodes → g.trips k j ≢ 0 → is_some (distance (routing g t k) j) ≡ false → ⊥
  unreachable k j h b some-trips e = true-false (carried-served k h j b some-trips) e
