-- A network as document 01 and its source have it, without bytes. The trips to one destination, of cars or of lorries (A.7), are a commodity.
use Rattle.std.specs.Prelude.{ℕ, suc, ◌≤◌, ◌<◌, Bool}
use Rattle.theory.specs.Finite.{sum}

-- Nodes, links and commodities count from 0. Fields by link are read at numbers below `links`, and so for the others.
pub record Network : Type 0 where
  pub nodes : ℕ
  pub links : ℕ
  pub tail : ℕ → ℕ
  pub head : ℕ → ℕ
  pub capacity : ℕ → ℕ
  -- the time of a link at a step
  pub height : ℕ → ℕ → ℕ
  pub commodities : ℕ
  -- by commodity: s
  pub destination : ℕ → ℕ
  -- by commodity and node: D(j,s)
  pub trips : ℕ → ℕ → ℕ
  -- by commodity and link: whether the link may carry that commodity
  pub may_use : ℕ → ℕ → Bool

-- What the laws ask of a network: ends of links and destinations are nodes, capacities are at least 1, times are at least 1 and do not
-- fall as the step grows.
pub record Sound (g : Network) : Type 0 where
  pub tail-node : (l : ℕ) → l < g.links → g.tail l < g.nodes
  pub head-node : (l : ℕ) → l < g.links → g.head l < g.nodes
  pub some-capacity : (l : ℕ) → l < g.links → 1 ≤ g.capacity l
  pub some-time : (l r : ℕ) → l < g.links → 1 ≤ g.height l r
  pub rising : (l r : ℕ) → l < g.links → g.height l r ≤ g.height l (suc r)
  pub destination-node : (k : ℕ) → k < g.commodities → g.destination k < g.nodes

-- T of document 01: the total of trips.
unfoldable pub total_trips : Network → ℕ
total_trips g = sum g.commodities (λ k. sum g.nodes (g.trips k))
