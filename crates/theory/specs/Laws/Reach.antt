-- Which nodes have a path.
use Rattle.std.specs.Prelude.{ℕ, ◌<◌, ◌≡◌, Bool, true, List, [], ◌∷◌}
use Rattle.std.proofs.Common.{sym, ◌∙◌, ap}
use Rattle.theory.specs.Routes.{Routing, IsPath, distance, is_some}
use Rattle.theory.specs.Laws.Cases.{on-option, on_test, true-false}
use Rattle.theory.specs.Laws.Paths.{WellFormed}
use Rattle.theory.specs.Laws.Distances.{path-distance, distance-path}

-- Marks by node that a search for the nodes with a path ends in: the destination is marked, over a usable link the tail is marked if the
-- head is, and each marked node has a path.
pub record Reaches (q : Routing) (marked : ℕ → Bool) : Type 0 where
  pub at-destination : marked q.destination ≡ true
  pub over-link : (l : ℕ) → l < q.links → q.usable l ≡ true → marked (q.head l) ≡ true → marked (q.tail l) ≡ true
  pub supported : (j : ℕ) → j < q.nodes → marked j ≡ true → (path : List ℕ) × IsPath q j path

module _ (q : Routing) (w : WellFormed q) where
  -- A node with a path has a distance,
  pub path-has-distance : (j : ℕ) (path : List ℕ) → IsPath q j path → is_some (distance q j) ≡ true
  path-has-distance j path p = let (y, e, m) = path-distance q w j path p in ap is_some e

  -- and a node with a distance has a path.
  pub distance-has-path : (j : ℕ) → j < q.nodes → is_some (distance q j) ≡ true → (path : List ℕ) × IsPath q j path
  distance-has-path j h r =
      on-option (distance q j) (λ e. true-false r (ap is_some e)) (λ x e. let (path, p, t) = distance-path q w j x h e in (path, p))

  module _ (marked : ℕ → Bool) (r : Reaches q marked) where
    path-marked : (j : ℕ) (path : List ℕ) → IsPath q j path → marked j ≡ true
    path-marked j [] p = ap marked p ∙ r.at-destination
    path-marked j (l ∷ path) p = ap marked (sym p.2) ∙ r.over-link l p.0 p.1 (path-marked (q.head l) path p.3)

    -- Such marks are on the nodes with a distance.
    pub marked-has-distance : (j : ℕ) → j < q.nodes → marked j ≡ is_some (distance q j)
    marked-has-distance j h =
        on_test (marked j) (λ m. let (path, p) = r.supported j h m in m ∙ sym (path-has-distance j path p)) (λ m.
        on_test (is_some (distance q j))
        (λ d. let (path, p) = distance-has-path j h d in true-false (path-marked j path p) m)
        (λ d. m ∙ sym d))
