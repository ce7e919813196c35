-- (A.7) What the calls for cars and for lorries ask and give, with the number of commodities of cars as it is counted.
use Rattle.std.specs.Prelude.{ℕ, ◌+◌, ◌*◌, ◌-◌, ◌≤◌, ◌<◌, ◌≡◌, refl, true, false, List, [], ◌++◌, length, get_or, take, drop}
use Rattle.std.proofs.Common.{mul-le-mul, mul-le-mul_right, arith, sym, ◌∙◌, ap, ap₂, length-take, get_or-take, length-take-le}
use Rattle.theory.specs.Laws.Parts.{behind, length-behind, replaced_behind}
use Rattle.travel.specs.Ranges.{TimesFit}
use Rattle.search.specs.Given.{class_of, AllSearchable}
use Rattle.search.specs.Chains.{Linked, chain_of}
use Rattle.search.specs.Groups.{least_over}
use Rattle.routes.specs.Table.{Nexts, AllNexts}
use Rattle.judging.specs.Study.{Study, link_count, commodity_count, Ready}
use Rattle.judging.specs.Classes.{cars_in, HasLorries, ClassChains, ClassNexts}
use Rattle.judging.specs.Laws.Classes.{cars-most, few-commodities, class-cars, class-lorries, cars-searchable, lorries-searchable, car-trips-long, lorry-trips-long, nexts-cars, nexts-both, all-cars, all_both, least-cars, least-both, cars-long}
use Rattle.judging.specs.Laws.Chains.{length_front, front-row, behind-front}

module _ {d : Study} (ready : Ready d) {count : ℕ} (counted : count ≡ cars_in d) where
  -- The cars and their trips are among all.
  pub count-within : count ≤ commodity_count d
  count-within = omega (arith, cars-most ready)

  pub middle-within : count * d.nodes ≤ length d.trips
  middle-within = omega (arith, mul-le-mul_right d.nodes count-within, ready.trips-long)

  pub middle-small : count * d.nodes ≤ 8192
  middle-small =
      let few : count ≤ 64 = omega (arith, count-within, few-commodities ready) in
      mul-le-mul {n₂ = 64} {m₂ = 128} few ready.few-nodes

  -- The trips of each class are those of its commodities.
  pub cars-trips : length (take (count * d.nodes) d.trips) ≡ length (take count d.commodities) * d.nodes
  cars-trips = rw counted (car-trips-long ready)

  pub lorries-trips : length (behind d.trips (count * d.nodes)) ≡ length (behind d.commodities count) * d.nodes
  lorries-trips = rw counted (lorry-trips-long ready)

  -- A class can be searched,
  module _ {times : List ℕ} (fit : TimesFit (link_count d) times) where
    pub cars-asked : AllSearchable d.nodes d.links (take count d.commodities) times
    cars-asked = rw counted (cars-searchable ready fit)

    pub lorries-asked : HasLorries d → AllSearchable d.nodes d.links (behind d.commodities count) times
    lorries-asked some-lorries = rw counted (lorries-searchable ready fit some-lorries)

  -- along its chains.
  pub cars-chain : {chain : List ℕ} → chain ≡ chain_of false d.links 1 → chain ≡ chain_of (class_of (take count d.commodities)) d.links 1
  cars-chain e = rw (counted, class-cars ready) e

  pub lorries-chain : HasLorries d → {chain : List ℕ} → chain ≡ chain_of true d.links 1 → chain ≡ chain_of (class_of (behind d.commodities count)) d.links 1
  lorries-chain some-lorries e = rw (counted, class-lorries ready some-lorries) e

  module _ {chains : List (List ℕ)} (w : ClassChains d chains) where
    pub cars-linked : Linked (class_of (take count d.commodities)) d.links (take 2 chains)
    cars-linked = rw (counted, class-cars ready) w.cars

    pub lorries-linked : HasLorries d → Linked (class_of (behind d.commodities count)) d.links (behind chains 2)
    lorries-linked some-lorries = rw (counted, class-lorries ready some-lorries) (w.lorries some-lorries)

  -- The next links of the cars, and of both classes.
  module _ {times : List ℕ} {nexts : List (List ℕ)} (long : commodity_count d ≤ length nexts)
      (found : Nexts d.nodes d.links (take count d.commodities) (take (count * d.nodes) d.trips) times nexts) where
    pub counted-cars : commodity_count d ≤ count → ClassNexts d times nexts
    counted-cars no-lorries = nexts-cars ready long (rw counted at found) (omega arith)

    pub counted-both : (rows : List (List ℕ)) → length rows ≡ length nexts - count
        → Nexts d.nodes d.links (behind d.commodities count) (behind d.trips (count * d.nodes)) times rows
        → ClassNexts d times (replaced_behind nexts count rows)
    counted-both rows rows_long others =
        rw counted (nexts-both ready long (rw counted at found) rows (omega arith) (rw counted at others))

  counted-full : (times : List ℕ) (nexts : List (List ℕ)) → commodity_count d ≤ length nexts
      → AllNexts d.nodes d.links (take (cars_in d) d.commodities) times nexts
      → (rows : List (List ℕ)) → length rows ≡ length nexts - count
      → AllNexts d.nodes d.links (behind d.commodities count) times rows
      → AllNexts d.nodes d.links d.commodities times (replaced_behind nexts count rows)
  counted-full times nexts long full rows rows_long others = rw counted (all_both ready long full rows (omega arith) (rw counted at others))

  -- Next links that are found are completed: first in the rows of the cars, which are lent,
  module _ {times : List ℕ} {nexts : List (List ℕ)} (found : ClassNexts d times nexts) where
    pub cars-found : Nexts d.nodes d.links (take count d.commodities) (take (count * d.nodes) d.trips) times (take count nexts)
    cars-found =
        rw counted
        (record {
          size = omega (arith, cars-long ready, length-take (cars_in d) nexts, found.size, cars-most ready);
          row = λ k h. rw (get_or-take (cars_in d) nexts k [] (omega (arith, cars-long ready))) (found.cars.row k h);
        })

    module _ (rows : List (List ℕ)) (rows_long : length rows ≡ count) where
      nexts-within : count ≤ length nexts
      nexts-within = omega (arith, found.size, count-within)

      pub front_long : length (rows ++ drop count nexts) ≡ length nexts
      front_long = length_front nexts count nexts-within rows rows_long

      -- then in those of the lorries, which are as they were.
      pub lorries-found : HasLorries d →
          Nexts d.nodes d.links (behind d.commodities count) (behind d.trips (count * d.nodes)) times (behind (rows ++ drop count nexts) count)
      lorries-found some-lorries = rw (behind-front nexts count nexts-within rows rows_long, counted) (found.lorries some-lorries)

      module _ (full : AllNexts d.nodes d.links (take count d.commodities) times rows) where
        cars-full : AllNexts d.nodes d.links (take (cars_in d) d.commodities) times (rows ++ drop count nexts)
        cars-full =
            let there = rw counted at full in
            record {
              size = omega (arith, cars-long ready, front_long, nexts-within);
              row = λ k h. front-row nexts count nexts-within rows rows_long k [] (omega (arith, cars-long ready)) ∙ there.row k h;
            }

        pub full-cars : commodity_count d ≤ count → AllNexts d.nodes d.links d.commodities times (rows ++ drop count nexts)
        full-cars no-lorries = all-cars ready (omega (arith, front_long, found.size)) cars-full (omega arith)

        pub full-both : (others : List (List ℕ)) → length others ≡ length (rows ++ drop count nexts) - count
            → AllNexts d.nodes d.links (behind d.commodities count) times others
            → AllNexts d.nodes d.links d.commodities times (replaced_behind (rows ++ drop count nexts) count others)
        full-both others others-long full-others =
            counted-full times (rows ++ drop count nexts) (omega (arith, front_long, found.size)) cars-full others others-long full-others

  -- The sums of least times.
  module _ (times : List ℕ) {least : ℕ}
      (least-is : least ≡ least_over d.nodes d.links (take count d.commodities) (take (count * d.nodes) d.trips) times) where
    pub counted-least : commodity_count d ≤ count → least ≡ least_over d.nodes d.links d.commodities d.trips times
    counted-least no-lorries = (rw counted at least-is) ∙ least-cars ready times (omega arith)

    pub both-least : {others : ℕ} → others ≡ least_over d.nodes d.links (behind d.commodities count) (behind d.trips (count * d.nodes)) times
        → least + others ≡ least_over d.nodes d.links d.commodities d.trips times
    both-least others-is =
        let a = rw counted at least-is in
        let b = rw counted at others-is in
        ap₂ (λ x y. x + y) a b ∙ least-both ready times
