-- Document 01, 'Flows and time'. A table with share W gives, for each commodity and link, a whole number of Wths of a trip.
use Rattle.std.specs.Prelude.{ℕ, ◌+◌, ◌*◌, ◌/◌, ◌^◌, ◌<◌, min, ◌≡◌, Bool, true, false, ◌||◌, cond, List, get_or, eqb, leb}
use Rattle.theory.specs.Finite.{sum, count, all, tabulate}
use Rattle.theory.specs.Network.{Network, total_trips}

-- The entry of a commodity and a link stands at place (position of s) × m + l. A number past the end of the list counts as 0.
abbrev pub entry : ℕ → List ℕ → ℕ → ℕ → ℕ
entry links table k l = get_or table (k * links + l) 0

-- S: a link's total over the commodities.
unfoldable pub link_total : ℕ → ℕ → List ℕ → ℕ → ℕ
link_total commodities links table l = sum commodities (λ k. entry links table k l)

abbrev pub total : Network → List ℕ → ℕ → ℕ
total g table l = link_total g.commodities g.links table l

-- The sum of an amount over the links whose end (tail or head) is the node.
unfoldable pub sum_at : ℕ → (ℕ → ℕ) → ℕ → (ℕ → ℕ) → ℕ
sum_at links end node amount = sum links (λ l. cond (eqb (end l) node) (amount l) 0)

-- A commodity's flow balances at a node at share W: flow out of it = flow into it + W × D(j,s).
unfoldable pub balances : ℕ → (ℕ → ℕ) → (ℕ → ℕ) → (ℕ → ℕ) → ℕ → (ℕ → ℕ) → ℕ → Bool
balances links tail head trips share flow node =
    eqb (sum_at links tail node flow) (sum_at links head node flow + share * trips node)

-- Document 01's "conserves": every commodity balances at every node other than its destination.
unfoldable pub conserves : Network → ℕ → List ℕ → Bool
conserves g share table =
    all g.commodities (λ k.
    all g.nodes (λ j.
    eqb j (g.destination k)
    || balances g.links g.tail g.head (g.trips k) share (entry g.links table k) j))

-- A table with no flow where a commodity may not go. What counts is each commodity's own entry, not a link's total.
abbrev pub Permitted : Network → List ℕ → Type 0
Permitted g table = (k l : ℕ) → k < g.commodities → l < g.links → g.may_use k l ≡ false → entry g.links table k l ≡ 0

-- The same as a test: question 20 (A.2).
unfoldable pub permits : Network → List ℕ → Bool
permits g table = all g.commodities (λ k. all g.links (λ l. g.may_use k l || eqb (entry g.links table k l) 0))

-- A table that carries the trips of the network at a share: it conserves, and has no flow where a commodity may not go. Demand 2's
-- carrying tables and demand 3's rivals are these. Neither the share nor a number of the table has an upper limit.
pub record Carries (g : Network) (share : ℕ) (table : List ℕ) : Type 0 where
  pub conserving : conserves g share table ≡ true
  pub permitted : Permitted g table

-- Question 15: is each link's total flow at most share × T?
unfoldable pub totals_fit : Network → ℕ → List ℕ → Bool
totals_fit g share table = all g.links (λ l. leb (total g table l) (share * total_trips g))

-- Step r: the smaller of 256 and floor(64·S / (c·W)).
unfoldable pub step : ℕ → ℕ → ℕ → ℕ
step capacity share flow = min 256 (64 * flow / (capacity * share))

-- Time t at a step of a link with free time a, rise b and power q (A.5): a + floor(b·r^q / 64^q), 001's a + b·x^q with x counted in 64ths of
-- capacity. Document 01's links have power 4, and 64⁴ is its 16,777,216.
unfoldable pub step_time : ℕ → ℕ → ℕ → ℕ → ℕ
step_time a b q r = a + (b * r ^ q) / 64 ^ q

-- Time t of a link with a flow, at a share.
abbrev pub time_at : Network → ℕ → (ℕ → ℕ) → ℕ → ℕ
time_at g share flow l = g.height l (step (g.capacity l) share (flow l))

-- The times of all links under a table, in link order.
unfoldable pub times : Network → ℕ → List ℕ → List ℕ
times g share table = tabulate g.links (time_at g share (total g table))

-- (A.4) With a link's time comes a yes or no: step 256 was reached, so the link has run onto the level part of its curve.
abbrev pub is_over : ℕ → Bool
is_over r = eqb r 256

abbrev pub over_at : Network → ℕ → (ℕ → ℕ) → ℕ → Bool
over_at g share flow l = is_over (step (g.capacity l) share (flow l))

-- (A.4) Over: how many links have step 256 under a table.
unfoldable pub over : Network → ℕ → List ℕ → ℕ
over g share table = count g.links (over_at g share (total g table))
