-- (A.7) The searches of a study's cars and of its lorries, whose links are in chains of their own.
use Rattle.std.specs.Prelude.{ℕ, ◌*◌, ◌≤◌, ◌<◌, ◌≡◌, true, false, List, [], ◌⊎◌, length, get_or, take, replicate}
use Rattle.theory.specs.Study.{no_link}
use Rattle.theory.specs.Classes.{car_count}
use Rattle.theory.specs.Laws.Parts.{behind}
use Rattle.search.specs.Chains.{Linked}
use Rattle.search.specs.Search.{routing_from}
use Rattle.search.specs.Groups.{NoTrips}
use Rattle.routes.specs.Table.{Nexts, link_marks, no_links}
use Rattle.judging.specs.Study.{Study, commodity_count}

-- How many of a study's commodities are of cars, and whether there are others.
abbrev pub cars_in : Study → ℕ
cars_in d = car_count d.commodities

abbrev pub HasLorries : Study → Type 0
HasLorries d = cars_in d < commodity_count d

-- The chains of the links for cars, in two rows, and behind them those for lorries.
pub record ClassChains (d : Study) (chains : List (List ℕ)) : Type 0 where
  pub cars : Linked false d.links (take 2 chains)
  pub lorries : HasLorries d → Linked true d.links (behind chains 2)

-- Places that are lent for them: rows without links, two for cars and two for lorries, where there are any;
pub record ChainRoom (d : Study) (chains : List (List ℕ)) : Type 0 where
  pub empty : chains ≡ replicate (length chains) (replicate 896 no_link)
  pub for-cars : 2 ≤ length chains
  pub for-lorries : HasLorries d → length chains ≡ 4

-- and for next links and volumes, a row of each for each commodity.
abbrev pub RowRoom : ℕ → List (List ℕ) → List (List ℕ) → Type 0
RowRoom count nexts volumes = (count ≤ length nexts) × (count ≤ length volumes)

-- The next links of the cars' commodities, in the first rows, and behind them those of the lorries'.
pub record ClassNexts (d : Study) (times : List ℕ) (nexts : List (List ℕ)) : Type 0 where
  pub cars : Nexts d.nodes d.links (take (cars_in d) d.commodities) (take (cars_in d * d.nodes) d.trips) times nexts
  pub lorries : HasLorries d →
      Nexts d.nodes d.links (behind d.commodities (cars_in d)) (behind d.trips (cars_in d * d.nodes)) times (behind nexts (cars_in d))
  pub size : commodity_count d ≤ length nexts

-- The next links of commodity k, or none, which is as good where it has no trips.
abbrev pub CommodityRow : Study → List ℕ → ℕ → List ℕ → Type 0
CommodityRow d times k row =
    (row ≡ link_marks (routing_from d.nodes d.links times (get_or d.commodities k 0))) ⊎ ((row ≡ no_links) × NoTrips d.nodes d.trips k)
