-- Whether a row balances, node by node, from the sums of its flows.
use Rattle.std.specs.Prelude.{◌≡◌, ℕ, ◌+◌, ◌*◌, ◌<◌, Bool, true, false, ◌||◌, List, length, ◌==◌, ◌≢◌, slice_index}
use Rattle.std.proofs.Math.Path.{refl}
use Rattle.std.proofs.Common.{◌∙◌, eq-eqb, ne_eqb}
use Rattle.theory.specs.Finite.{all}
use Rattle.theory.specs.Study.{tail, head}
use Rattle.theory.specs.Flows.{balances}
use Rattle.theory.specs.Laws.Finite.{all-suc, all-refuted, both}
use Rattle.travel.specs.Links.{row_balances}
use Rattle.travel.specs.Ranges.{SumsAt}

-- One of two tests holds, and neither.
first_of : (a b : Bool) → a ≡ true → (a || b) ≡ true
first_of a b e = rw e

second-of : (a b : Bool) → b ≡ true → (a || b) ≡ true
second-of true b e = refl
second-of false b e = e

neither : (a b : Bool) → a ≡ false → b ≡ false → (a || b) ≡ false
neither a b e f = rw (e, f)

module _ (links : List (List ℕ)) (destination : ℕ) (trips : List ℕ) (share : ℕ) (row : List ℕ) where
  -- The node is the destination, or the row balances there.
  abbrev balanced : ℕ → Bool
  balanced j =
      (j == destination)
      || balances (length links) (tail links) (head links) (λ i. slice_index trips i) share (λ l. slice_index row l) j

  pub balances-none : row_balances 0 links destination trips share row ≡ true
  unfolding row_balances all
  balances-none = refl

  pub balances-there : (j : ℕ) → row_balances j links destination trips share row ≡ true → j ≡ destination →
      row_balances (j + 1) links destination trips share row ≡ true
  unfolding row_balances
  balances-there j so_far e = all-suc j balanced ∙ both (all j balanced) (balanced j) so_far (first_of (j == destination) _ (eq-eqb j destination e))

  module _ (out into : List ℕ) (outs : SumsAt (length links) links 0 row out) (ins : SumsAt (length links) links 1 row into)
      (j : ℕ) (node : j < 128) where
    pub balances-more : row_balances j links destination trips share row ≡ true →
        slice_index out j ≡ slice_index into j + share * slice_index trips j → row_balances (j + 1) links destination trips share row ≡ true
    unfolding row_balances balances
    balances-more so_far e =
        all-suc j balanced ∙ both (all j balanced) (balanced j) so_far (second-of (j == destination) _ (rw (← outs.at j node, ← ins.at j node) (eq-eqb _ _ e)))

    pub balances-fails : (nodes : ℕ) → j < nodes → (j ≢ destination) →
        (slice_index out j ≢ slice_index into j + share * slice_index trips j) → row_balances nodes links destination trips share row ≡ false
    unfolding row_balances balances
    balances-fails nodes h other e =
        all-refuted nodes balanced j h (neither (j == destination) _ (ne_eqb j destination other) (rw (← outs.at j node, ← ins.at j node) (ne_eqb _ _ e)))
