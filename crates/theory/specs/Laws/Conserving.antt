-- Conservation and permission without tests, and sums over links grouped by the node at one end.
use Rattle.std.specs.Prelude.{ℕ, ◌+◌, ◌*◌, ◌<◌, ◌≡◌, refl, Bool, true, false, ◌||◌, cond, List, eqb}
use Rattle.std.proofs.Common.{arith, sym, ◌∙◌, eqb-true, eq-eqb, ne_eqb}
use Rattle.std.proofs.lemmas.Bool.{eqb-false}
use Rattle.theory.specs.Finite.{sum}
use Rattle.theory.specs.Network.{Network}
use Rattle.theory.specs.Flows.{entry, sum_at, balances, conserves, Permitted, permits, Carries}
use Rattle.theory.specs.Laws.Finite.{sum-cong, sum-scale, sum-swap, sum-pick, all-elim, all-intro}

-- Flow out of a node = flow into it + W × D(j,s), for every commodity and every node other than its destination.
abbrev pub Balanced : Network → ℕ → List ℕ → Type 0
Balanced g share table =
    (k j : ℕ) → k < g.commodities → j < g.nodes → (j ≡ g.destination k → ⊥) →
    sum_at g.links g.tail j (entry g.links table k)
    ≡ sum_at g.links g.head j (entry g.links table k) + share * g.trips k j

pub or-false : (a b : Bool) → a ≡ false → (a || b) ≡ true → b ≡ true
or-false true b p q = cc
or-false false b p q = q

-- The test of conservation holds of a table that balances at every such node,
pub balanced-conserves : (g : Network) (share : ℕ) (table : List ℕ) → Balanced g share table → conserves g share table ≡ true
unfolding conserves balances
balanced-conserves g share table h =
    all-intro g.commodities _ (λ k p. all-intro g.nodes _ (λ j q. at k j p q (eqb j (g.destination k)) refl))
  where
    at : (k j : ℕ) → k < g.commodities → j < g.nodes → (here : Bool) → eqb j (g.destination k) ≡ here →
        (here || balances g.links g.tail g.head (g.trips k) share (entry g.links table k) j) ≡ true
    at k j p q true e = refl
    at k j p q false e = eq-eqb _ _ (h k j p q (eqb-false j (g.destination k) e))

-- and only of such a table.
pub conserves-balanced : (g : Network) (share : ℕ) (table : List ℕ) → conserves g share table ≡ true → Balanced g share table
unfolding conserves balances
conserves-balanced g share table h k j p q off =
    eqb-true _ _
    (or-false (eqb j (g.destination k)) _ (ne_eqb j (g.destination k) off)
    (all-elim g.nodes _ (all-elim g.commodities _ h k p) j q))

-- Likewise the test of permission.
pub permitted-permits : (g : Network) (table : List ℕ) → Permitted g table → permits g table ≡ true
unfolding permits
permitted-permits g table h =
    all-intro g.commodities _ (λ k p. all-intro g.links _ (λ l q. at k l p q (g.may_use k l) refl))
  where
    at : (k l : ℕ) → k < g.commodities → l < g.links → (may : Bool) → g.may_use k l ≡ may →
        (may || eqb (entry g.links table k l) 0) ≡ true
    at k l p q true e = refl
    at k l p q false e = eq-eqb _ _ (h k l p q e)

pub permits-permitted : (g : Network) (table : List ℕ) → permits g table ≡ true → Permitted g table
unfolding permits
permits-permitted g table h k l p q e =
    eqb-true _ _ (or-false (g.may_use k l) _ e (all-elim g.links _ (all-elim g.commodities _ h k p) l q))

-- A table that carries the trips, without tests: it balances, and has no flow on a link that may not carry it.
pub record Carried (g : Network) (share : ℕ) (table : List ℕ) : Type 0 where
  pub balanced : Balanced g share table
  pub permitted : Permitted g table

pub carries-carried : (g : Network) (share : ℕ) (table : List ℕ) → Carries g share table → Carried g share table
carries-carried g share table c =
    record { balanced = conserves-balanced g share table c.conserving; permitted = c.permitted }

-- A sum over links of an amount × a number of the node at one end, grouped by that node.
pub sum-by-node : (links nodes : ℕ) (end : ℕ → ℕ) (amount π : ℕ → ℕ) → ((l : ℕ) → l < links → end l < nodes) →
    sum links (λ l. amount l * π (end l)) ≡ sum nodes (λ j. sum_at links end j amount * π j)
unfolding sum_at
sum-by-node links nodes end amount π within =
    sum-cong links _ _ (λ l p. sym (sum-pick nodes (λ j. amount l * π j) (end l) (within l p)))
    ∙ sum-swap links nodes (λ l j. cond (eqb (end l) j) (amount l * π j) 0)
    ∙ sum-cong nodes _ _ (λ j q.
    sum-cong links _ _ (λ l p. cond-mul (eqb (end l) j) (amount l) (π j))
    ∙ sum-scale links (π j) (λ l. cond (eqb (end l) j) (amount l) 0)
    ∙ omega arith)
  where
    cond-mul : (t : Bool) (a b : ℕ) → cond t (a * b) 0 ≡ b * cond t a 0
    cond-mul true a b = omega arith
    cond-mul false a b = omega arith
