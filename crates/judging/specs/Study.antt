-- A study in rows, what the functions of this crate ask of it and of a table, and what a turn does.
use Rattle.std.specs.Prelude.{ℕ, ◌*◌, ◌-◌, ◌≤◌, ◌<◌, ◌≡◌, Bool, true, cond, List, length, replicate, leb}
use Rattle.std.proofs.Math.Option.{Option}
use Rattle.theory.specs.Network.{Network, Sound, total_trips}
use Rattle.theory.specs.Flows.{totals_fit, Carries}
use Rattle.theory.specs.Cost.{gap}
use Rattle.theory.specs.Moves.{Shared, table_size, move, moves}
use Rattle.theory.specs.Study.{free_time, rise, power, network}
use Rattle.theory.specs.Classes.{car_count, Classed}
use Rattle.theory.specs.Laws.Routings.{AllServed}
use Rattle.calls.specs.Calls.{share_after, table_after}
use Rattle.judging.specs.declared.Step.{Step}
use Rattle.judging.specs.declared.Step.TheVariants as step

-- The four parts in which a study is handed on, together.
pub record Study : Type 0 where
  pub nodes : ℕ
  pub links : List (List ℕ)
  pub commodities : List ℕ
  pub trips : List ℕ

abbrev pub study_of : ℕ → List (List ℕ) → List ℕ → List ℕ → Study
study_of nodes links commodities trips = record { nodes = nodes; links = links; commodities = commodities; trips = trips }

-- How many links and commodities it has: m, and p or, with lorries, 2p (A.7).
abbrev pub link_count : Study → ℕ
link_count d = length d.links

abbrev pub commodity_count : Study → ℕ
commodity_count d = length d.commodities

-- Its network.
abbrev pub network_in : Study → Network
network_in d = network d.nodes d.links d.commodities d.trips

-- A study that passes questions 1 to 11.
pub record Ready (d : Study) : Type 0 where
  pub few-nodes : d.nodes ≤ 128
  pub few-links : link_count d ≤ 512
  pub few-cars : car_count d.commodities ≤ 32
  pub few-lorries : commodity_count d - car_count d.commodities ≤ 32
  pub classed : Classed d.commodities
  pub some-links : 1 ≤ link_count d
  pub trips-long : length d.trips ≡ commodity_count d * d.nodes
  pub sound : Sound (network_in d)
  pub free-most : (l : ℕ) → l < link_count d → free_time d.links l ≤ 16383
  pub rise-most : (l : ℕ) → l < link_count d → rise d.links l ≤ 16383
  pub power-least : (l : ℕ) → l < link_count d → 1 ≤ power d.links l
  pub power-most : (l : ℕ) → l < link_count d → power d.links l ≤ 4
  pub served : AllServed (network_in d) (replicate (link_count d) 1)
  pub few-trips : total_trips (network_in d) ≤ 65535

-- A table of such a study that passes questions 12, 14 to 16 and 20 at a share.
pub record Judgeable (d : Study) (table : List ℕ) (share : ℕ) : Type 0 where
  pub ready : Ready d
  pub holds : table_size (network_in d) ≤ length table
  pub some_share : 1 ≤ share
  pub share-most : share ≤ 1024
  pub totals-fit : totals_fit (network_in d) share table ≡ true
  pub carries : Carries (network_in d) share table

-- What a pass makes of a table at a share.
abbrev pub move_of : Network → List ℕ → ℕ → Option Shared
move_of g table share = move g (record { table = table; share = share })

-- How a turn goes on from the table that it judges: gap at most limit × W, reached; otherwise no move, finest; otherwise the budget is
-- used up, spent; otherwise it moves. The limit of a run is excess × T.
unfoldable pub step_of : Network → List ℕ → ℕ → ℕ → Bool → Step
step_of g table share limit last =
    cond (leb (gap g share table) (limit * share)) step.Reached
    (cond (moves (move_of g table share)) (cond last step.Spent step.Moved) step.Finest)

-- The share and the table after a turn: only a turn that moves changes them.
abbrev pub share_after_step : Step → ℕ → Option Shared → ℕ
share_after_step step.Reached share next = share
share_after_step step.Finest share next = share
share_after_step step.Spent share next = share
share_after_step step.Moved share next = share_after share next

abbrev pub table_after_step : Step → List ℕ → Option Shared → List ℕ
table_after_step step.Reached table next = table
table_after_step step.Finest table next = table
table_after_step step.Spent table next = table
table_after_step step.Moved table next = table_after table next
