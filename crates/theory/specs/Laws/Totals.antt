-- (A.7) Times go by the totals of the links alone, and next links and loadings by the times: tables with equal totals at one share have all three
-- in common, however the totals are made up.
use Rattle.std.specs.Prelude.{ℕ, ◌<◌, ◌≡◌, List}
use Rattle.std.proofs.Math.Path.{ap}
use Rattle.theory.specs.Network.{Network}
use Rattle.theory.specs.Flows.{total, step, times}
use Rattle.theory.specs.Routes.{routing, next_links, loading_row}
use Rattle.theory.specs.Laws.Finite.{tabulate-cong}

-- What a commodity is given by a table at a share.
pub record SameFor (g : Network) (share : ℕ) (x y : List ℕ) (k : ℕ) : Type 0 where
  pub same-times : times g share x ≡ times g share y
  pub same_next : next_links (routing g (times g share x) k) ≡ next_links (routing g (times g share y) k)
  pub same-loading : loading_row (routing g (times g share x) k) (g.trips k) ≡ loading_row (routing g (times g share y) k) (g.trips k)

module _ (g : Network) (share : ℕ) (x y : List ℕ) (same : (l : ℕ) → l < g.links → total g x l ≡ total g y l) where
  pub times-by-totals : times g share x ≡ times g share y
  unfolding times
  times-by-totals = tabulate-cong g.links _ _ (λ l h. ap (λ flow. g.height l (step (g.capacity l) share flow)) (same l h))

  pub same-for : (k : ℕ) → SameFor g share x y k
  same-for k =
      record {
        same-times = times-by-totals;
        same_next = ap (λ t. next_links (routing g t k)) times-by-totals;
        same-loading = ap (λ t. loading_row (routing g t k) (g.trips k)) times-by-totals;
      }
