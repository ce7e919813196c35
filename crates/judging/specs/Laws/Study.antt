-- What a study that passes questions 1 to 11 has, in the terms of the crates below.
use Rattle.std.specs.Prelude.{ℕ, zero, suc, ◌*◌, ◌≤◌, ◌<◌, ◌≡◌, refl, List, length, get_or, replicate}
use Rattle.std.proofs.Common.{pow-suc, mul-zero, arith}
use Rattle.std.proofs.Math.Nat.{zero-div}
use Rattle.std.proofs.lemmas.List.{get_or-replicate}
use Rattle.theory.specs.Flows.{step_time}
use Rattle.theory.specs.Moves.{table_size}
use Rattle.theory.specs.Study.{tail, head, free_time, capacity, node_of, network}
use Rattle.travel.specs.Ranges.{LinksFit, TimesFit}
use Rattle.search.specs.Given.{Roads, Searchable}
use Rattle.search.specs.Chains.{Chainable}
use Rattle.search.specs.Laws.Chains.{chainable as links-chain}
use Rattle.judging.specs.Study.{Study, link_count, commodity_count, network_in, Ready}

-- Step 0 adds nothing to the free time, since a power is at least 1.
free-time : (a b q : ℕ) → 1 ≤ q → step_time a b q 0 ≡ a
unfolding step_time
free-time a b zero h = absurd (omega arith)
free-time a b (suc q) h = rw (pow-suc 0 q, mul-zero, mul-zero, zero-div) (omega arith)

-- A table of a study has p·m numbers.
table-size : (d : Study) → table_size (network_in d) ≡ commodity_count d * link_count d
unfolding network
table-size d = refl

pub holds_rows : (d : Study) (table : List ℕ) → table_size (network_in d) ≤ length table → commodity_count d * link_count d ≤ length table
holds_rows d table holds = rw table-size at holds

-- Times of 1 fit.
unit-fit : (m : ℕ) → TimesFit m (replicate m 1)
unit-fit m =
    record {
      some-time = λ l h. omega (arith, get_or-replicate {A = ℕ} m l 1 0 h);
      times-fit = λ l h. omega (arith, get_or-replicate {A = ℕ} m l 1 0 h);
    }

module _ {d : Study} (ready : Ready d) where
  pub tail-node : (l : ℕ) → l < link_count d → tail d.links l < d.nodes
  unfolding network
  tail-node = ready.sound.tail-node

  pub head-node : (l : ℕ) → l < link_count d → head d.links l < d.nodes
  unfolding network
  head-node = ready.sound.head-node

  pub commodity-node : (k : ℕ) → k < commodity_count d → node_of (get_or d.commodities k 0) < d.nodes
  unfolding network
  commodity-node = ready.sound.destination-node

  some-capacity : (l : ℕ) → l < link_count d → 1 ≤ capacity d.links l
  unfolding network
  some-capacity = ready.sound.some-capacity

  some-time : (l : ℕ) → l < link_count d → 1 ≤ free_time d.links l
  unfolding network
  some-time l h = rw (free-time _ _ _ (ready.power-least l h)) at (ready.sound.some-time l 0 h)

  -- The fields of its links fit,
  pub links-fit : LinksFit d.links
  links-fit =
      record {
        few = ready.few-links;
        link = λ l h.
            record {
              some-time = some-time l h;
              time-fits = ready.free-most l h;
              rise-fits = ready.rise-most l h;
              some-capacity = some-capacity l h;
              some-power = ready.power-least l h;
              power-fits = ready.power-most l h;
            };
      }

  -- its links can be searched at times that fit,
  pub roads : {times : List ℕ} → TimesFit (link_count d) times → Roads d.nodes d.links times
  roads fit =
      record {
        few-nodes = ready.few-nodes;
        few-links = ready.few-links;
        tail-node = tail-node;
        head-node = head-node;
        some-time = fit.some-time;
        short-time = fit.times-fit;
      }

  pub searchable-to : {times : List ℕ} → TimesFit (link_count d) times → (k : ℕ) → k < commodity_count d → Searchable d.nodes d.links times (get_or d.commodities k 0)
  searchable-to fit k h = record { roads = roads fit; destination-node = commodity-node k h }

  -- and they can be put into chains.
  pub chainable : Chainable d.links
  chainable = links-chain (roads (unit-fit (link_count d)))
