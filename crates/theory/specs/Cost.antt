-- Document 01, 'Cost and gap'.
use Rattle.std.specs.Prelude.{ℕ, ◌+◌, ◌*◌, ◌-◌, min, List, get_or}
use Rattle.std.proofs.Math.Option
use Rattle.std.proofs.Math.Option.{none}
use Rattle.theory.specs.Finite.{sum}
use Rattle.theory.specs.Network.{Network}
use Rattle.theory.specs.Flows.{total, times}
use Rattle.theory.specs.Routes.{routing, distances}

-- The area of a staircase from 0 to x: tread r below `treads` is `width` wide and has the height of step r, and tread `treads` runs on
-- without end.
unfoldable pub staircase : ℕ → (ℕ → ℕ) → ℕ → ℕ → ℕ
staircase treads height width x =
    sum treads (λ r. height r * min width (x - r * width)) + height treads * (x - treads * width)

-- The cost of a link with flow S at share W: the staircase from 0 to 64·S, treads 0 to 255 each c·W wide.
unfoldable pub link_cost : (ℕ → ℕ) → ℕ → ℕ → ℕ → ℕ
link_cost height capacity share flow = staircase 256 height (capacity * share) (64 * flow)

-- Cost: the sum of the areas over links.
unfoldable pub cost : Network → ℕ → List ℕ → ℕ
cost g share table = sum g.links (λ l. link_cost (g.height l) (g.capacity l) share (total g table l))

-- The sum of D(j,s) × distance, at the times of a list. A node without a path has no trips and adds nothing.
unfoldable pub least_times : Network → List ℕ → ℕ
least_times g t =
    sum g.commodities (λ k.
    let d = distances (routing g t k) in
    sum g.nodes (λ j. g.trips k j * Option.get_or (get_or d j none) 0))

-- The sum of t·S over links, at the times of a list.
unfoldable pub spent_times : Network → List ℕ → List ℕ → ℕ
spent_times g t table = sum g.links (λ l. get_or t l 0 * total g table l)

-- Gap: the sum of t·S over links, less W times the sum of D(j,s) × distance. It is never negative for a conserving table, so the
-- difference of natural numbers is exact there (Laws).
unfoldable pub gap : Network → ℕ → List ℕ → ℕ
gap g share table = let t = times g share table in spent_times g t table - share * least_times g t
