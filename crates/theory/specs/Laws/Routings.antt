-- The routings of a network's commodities.
use Rattle.std.specs.Prelude.{ℕ, ◌≤◌, ◌<◌, ◌≡◌, true, List, ◌≢◌, get_or}
use Rattle.std.proofs.Common.{◌∙◌}
use Rattle.theory.specs.Network.{Network, Sound}
use Rattle.theory.specs.Flows.{step, time_at, total, times}
use Rattle.theory.specs.Routes.{Routing, routing, distance, is_some}
use Rattle.theory.specs.Laws.Finite.{get_d_tabulate}
use Rattle.theory.specs.Laws.Paths.{WellFormed}
use Rattle.theory.specs.Laws.Consistent.{Consistent}
use Rattle.theory.specs.Laws.Distances.{consistent, distance-with-times}

-- Times by link, every one at least 1.
abbrev pub Timed : Network → List ℕ → Type 0
Timed g t = (l : ℕ) → l < g.links → 1 ≤ get_or t l 0

-- Every node with trips has a distance.
abbrev pub Served : Routing → (ℕ → ℕ) → Type 0
Served q trips = (j : ℕ) → j < q.nodes → trips j ≢ 0 → is_some (distance q j) ≡ true

-- So in every commodity, at the times of a list.
abbrev pub AllServed : Network → List ℕ → Type 0
AllServed g t = (k : ℕ) → k < g.commodities → Served (routing g t k) (g.trips k)

-- The times under a table are such times.
pub times-timed : (g : Network) → Sound g → (share : ℕ) (table : List ℕ) → Timed g (times g share table)
unfolding times
times-timed g sound share table l h =
    rw (get_d_tabulate g.links (time_at g share (total g table)) 0 l h)
    (sound.some-time l (step (g.capacity l) share (total g table l)) h)

module _ (g : Network) (sound : Sound g) where
  -- A commodity's routing at such times is well formed,
  pub routing-well-formed : (t : List ℕ) → Timed g t → (k : ℕ) → k < g.commodities → WellFormed (routing g t k)
  routing-well-formed t timed k h =
      record {
        tail-node = sound.tail-node;
        head-node = sound.head-node;
        destination-node = sound.destination-node k h;
        some-time = timed;
      }

  -- so its distances are consistent.
  pub routing-consistent : (t : List ℕ) → Timed g t → (k : ℕ) → k < g.commodities → Consistent (routing g t k)
  routing-consistent t timed k h = consistent (routing g t k) (routing-well-formed t timed k h)

  -- Which nodes have a distance is the same at all such times.
  pub distance-at-times :
      (t u : List ℕ) → Timed g t → Timed g u → (k j : ℕ) → k < g.commodities → j < g.nodes →
      is_some (distance (routing g u k) j) ≡ is_some (distance (routing g t k) j)
  distance-at-times t u timed-t timed-u k j h b =
      distance-with-times (routing g t k) (routing-well-formed t timed-t k h) (λ l. get_or u l 0) (routing-well-formed u timed-u k h) j b

  -- So it is the same whether every node with trips has one.
  pub served-at-times : (t u : List ℕ) → Timed g t → Timed g u → AllServed g t → AllServed g u
  served-at-times t u timed-t timed-u served k h j b some-trips =
      distance-at-times t u timed-t timed-u k j h b ∙ served k h j b some-trips
