-- Numbers by node (potentials) against the flow of one commodity that conserves.
use Rattle.std.specs.Prelude.{ℕ, ◌+◌, ◌*◌, ◌≤◌, ◌<◌, ◌≡◌}
use Rattle.std.proofs.Common.{mul-le-mul_left, arith, ◌∙◌, ap}
use Rattle.std.proofs.Math.Decide.{ℕ_discrete}
use Rattle.theory.specs.Finite.{sum}
use Rattle.theory.specs.Flows.{sum_at}
use Rattle.theory.specs.Laws.Finite.{sum-cong, sum_mono, sum-add, sum-scale}
use Rattle.theory.specs.Laws.Conserving.{sum-by-node}

-- A flow by link of one commodity with destination s, conserving at a share.
pub record Conserved (nodes links : ℕ) (tail head : ℕ → ℕ) (s share : ℕ) (trips flow : ℕ → ℕ) : Type 0 where
  pub tail-node : (l : ℕ) → l < links → tail l < nodes
  pub head-node : (l : ℕ) → l < links → head l < nodes
  pub balanced : (j : ℕ) → j < nodes → (j ≡ s → ⊥) → sum_at links tail j flow ≡ sum_at links head j flow + share * trips j

module _ (nodes links : ℕ) (tail head : ℕ → ℕ) (s share : ℕ) (trips flow : ℕ → ℕ)
    (c : Conserved nodes links tail head s share trips flow) (π : ℕ → ℕ) (at-s : π s ≡ 0) where
  -- The sum of flow × the tail's potential = the sum of flow × the head's + share × the sum of trips × potential, where the destination
  -- has potential 0.
  pub potentials : sum links (λ l. flow l * π (tail l)) ≡ sum links (λ l. flow l * π (head l)) + share * sum nodes (λ j. trips j * π j)
  potentials =
      let a = sum-by-node links nodes tail flow π c.tail-node in
      let b = sum-by-node links nodes head flow π c.head-node in
      let d = sum-cong nodes _ (λ j. sum_at links head j flow * π j + share * (trips j * π j)) (λ j p. at j p (ℕ_discrete j s)) in
      let e = sum-add nodes (λ j. sum_at links head j flow * π j) (λ j. share * (trips j * π j)) in
      let f = sum-scale nodes share (λ j. trips j * π j) in
      omega arith
    where
      at : (j : ℕ) → j < nodes → Dec (j ≡ s) →
          sum_at links tail j flow * π j ≡ sum_at links head j flow * π j + share * (trips j * π j)
      at j p (yes e) = let z : π j ≡ 0 = ap π e ∙ at-s in rw z (omega arith)
      at j p (no off) = rw (c.balanced j p off) (omega arith)

  -- Times by link that no potential's fall exceeds, on the links with flow: share × the sum of trips × potential is at most the sum of
  -- time × flow.
  pub potentials-spent :
      (time : ℕ → ℕ) → ((l : ℕ) → l < links → (flow l ≡ 0 → ⊥) → π (tail l) ≤ time l + π (head l)) →
      share * sum nodes (λ j. trips j * π j) ≤ sum links (λ l. time l * flow l)
  potentials-spent time falls =
      let a = potentials in
      let b = sum_mono links (λ l. flow l * π (tail l)) (λ l. time l * flow l + flow l * π (head l)) (λ l p. at l p (ℕ_discrete (flow l) 0)) in
      let d = sum-add links (λ l. time l * flow l) (λ l. flow l * π (head l)) in
      omega arith
    where
      at : (l : ℕ) → l < links → Dec (flow l ≡ 0) → flow l * π (tail l) ≤ time l * flow l + flow l * π (head l)
      at l p (yes e) = rw e (omega arith)
      at l p (no off) = omega (arith, mul-le-mul_left (flow l) (falls l p off))
