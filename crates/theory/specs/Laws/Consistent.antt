-- What the bound asks of the distances.
use Rattle.std.specs.Prelude.{ℕ, ◌+◌, ◌≤◌, ◌<◌, ◌≡◌, true, get_or}
use Rattle.std.proofs.Math.Option.{none, some}
use Rattle.theory.specs.Routes.{Routing, distances, distance}

-- The destination is at 0, and no distance exceeds the time of a usable link plus its head's distance.
pub record Consistent (q : Routing) : Type 0 where
  pub at-destination : get_or (distances q) q.destination none ≡ some 0
  pub over-link :
      (l x : ℕ) → l < q.links → q.usable l ≡ true → distance q (q.head l) ≡ some x →
      (y : ℕ) × (distance q (q.tail l) ≡ some y) × (y ≤ q.time l + x)
