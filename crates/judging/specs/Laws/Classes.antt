-- (A.7) A study's commodities of cars and of lorries, each searched by themselves.
use Rattle.std.specs.Prelude.{ℕ, zero, suc, ◌+◌, ◌*◌, ◌-◌, ◌≤◌, ◌<◌, ◌≡◌, refl, true, false, List, [], ◌⊎◌, length, get_or, take}
use Rattle.std.proofs.Common.{mul-le-mul_right, arith, sym, ◌∙◌, inl, inr, ⊎_elim, length-take, get_or-take, length-take-le}
use Rattle.std.proofs.Math.Path.{ap}
use Rattle.std.proofs.Math.Arith.{digits_lt}
use Rattle.theory.specs.Finite.{sum}
use Rattle.theory.specs.Study.{node_of, of_lorries}
use Rattle.theory.specs.Laws.Classes.{count_most}
use Rattle.theory.specs.Laws.Finite.{order, sum-cong, sum-append}
use Rattle.theory.specs.Laws.Parts.{behind, behind-at, length-behind, replaced_behind, behind-replaced, before-replaced, length-behind-replaced}
use Rattle.travel.specs.Ranges.{TimesFit}
use Rattle.search.specs.Search.{routing_from, marks}
use Rattle.search.specs.Given.{class_of, AllSearchable}
use Rattle.search.specs.Groups.{NoTrips, least_over}
use Rattle.routes.specs.Table.{Nexts, AllNexts, link_marks, no_links}
use Rattle.judging.specs.Study.{Study, link_count, commodity_count, Ready}
use Rattle.judging.specs.Classes.{cars_in, HasLorries, ClassNexts, CommodityRow}
use Rattle.judging.specs.Laws.Study.{roads, commodity-node}

module _ {d : Study} (ready : Ready d) where
  abbrev cars : ℕ
  cars = cars_in d

  abbrev car_list : List ℕ
  car_list = take cars d.commodities

  abbrev lorry_list : List ℕ
  lorry_list = behind d.commodities cars

  abbrev car_trips : List ℕ
  car_trips = take (cars * d.nodes) d.trips

  abbrev lorry_trips : List ℕ
  lorry_trips = behind d.trips (cars * d.nodes)

  pub cars-most : cars ≤ commodity_count d
  cars-most = count_most d.commodities

  pub few-commodities : commodity_count d ≤ 64
  few-commodities = omega (arith, ready.few-cars, ready.few-lorries)

  -- The commodities of each class and their trips.
  pub cars-long : length car_list ≡ cars
  cars-long = length-take-le cars d.commodities cars-most

  pub lorries-long : length lorry_list ≡ commodity_count d - cars
  lorries-long = length-behind d.commodities cars

  cars-size : cars * d.nodes ≤ commodity_count d * d.nodes
  cars-size = mul-le-mul_right d.nodes cars-most

  pub car-trips-long : length car_trips ≡ length car_list * d.nodes
  car-trips-long = length-take-le (cars * d.nodes) d.trips (omega (arith, cars-size, ready.trips-long)) ∙ ap (λ p. p * d.nodes) (sym cars-long)

  pub lorry-trips-long : length lorry_trips ≡ length lorry_list * d.nodes
  lorry-trips-long =
      let parted : cars + (commodity_count d - cars) ≡ commodity_count d = omega (arith, cars-most) in
      let sizes = ap (λ count. count * d.nodes) parted in
      length-behind d.trips (cars * d.nodes) ∙ omega (arith, ready.trips-long, ap (λ p. p * d.nodes) lorries-long, sizes)

  car-at : (k : ℕ) → k < cars → get_or car_list k 0 ≡ get_or d.commodities k 0
  car-at k h = get_or-take cars d.commodities k 0 h

  lorry-at : (k : ℕ) → get_or lorry_list k 0 ≡ get_or d.commodities (cars + k) 0
  lorry-at k = behind-at d.commodities cars k 0

  -- All of a list are of one class.
  car-class : (k : ℕ) → k < cars → of_lorries (get_or car_list k 0) ≡ false
  car-class k h = rw (car-at k h) (ready.classed.cars-first k h)

  pub class-cars : class_of car_list ≡ false
  class-cars = first cars refl
    where
      first : (count : ℕ) → cars ≡ count → class_of car_list ≡ false
      first zero e = rw e refl
      first (suc count) e = car-class 0 (omega arith)

  lorry-class : (k : ℕ) → k < commodity_count d - cars → of_lorries (get_or lorry_list k 0) ≡ true
  lorry-class k h = rw (lorry-at k) (ready.classed.lorries-last (cars + k) (omega arith) (omega arith))

  pub class-lorries : HasLorries d → class_of lorry_list ≡ true
  class-lorries some-lorries = lorry-class 0 (omega arith)

  module _ {times : List ℕ} (fit : TimesFit (link_count d) times) where
    pub cars-searchable : AllSearchable d.nodes d.links car_list times
    cars-searchable =
        record {
          roads = roads ready fit;
          few-destinations = omega (arith, cars-long, ready.few-cars);
          destination-node = λ k h.
              let inside : k < cars = omega (arith, cars-long) in
              rw (car-at k inside) (commodity-node ready k (omega (arith, cars-most)));
          one_class = λ k h. car-class k (omega (arith, cars-long)) ∙ sym class-cars;
        }

    pub lorries-searchable : HasLorries d → AllSearchable d.nodes d.links lorry_list times
    lorries-searchable some-lorries =
        record {
          roads = roads ready fit;
          few-destinations = omega (arith, lorries-long, ready.few-lorries);
          destination-node = λ k h. rw (lorry-at k) (commodity-node ready (cars + k) (omega (arith, lorries-long)));
          one_class = λ k h. lorry-class k (omega (arith, lorries-long)) ∙ sym (class-lorries some-lorries);
        }

  -- The trips of a commodity are among those of its class.
  car-trips-at : (k j : ℕ) → k < cars → j < d.nodes → get_or car_trips (k * d.nodes + j) 0 ≡ get_or d.trips (k * d.nodes + j) 0
  car-trips-at k j h b =
      get_or-take (cars * d.nodes) d.trips (k * d.nodes + j) 0 (digits_lt {q = k} {m = cars} {r = j} {c = d.nodes} h b)

  lorry-trips-at : (k j : ℕ) → get_or lorry_trips (k * d.nodes + j) 0 ≡ get_or d.trips ((cars + k) * d.nodes + j) 0
  lorry-trips-at k j =
      behind-at d.trips (cars * d.nodes) (k * d.nodes + j) 0 ∙ ap (λ i. get_or d.trips i 0) (omega arith)

  -- A commodity is one of cars, or one of lorries.
  by-class : {C : ℕ → Type 0} → ((k : ℕ) → k < cars → C k) → ((k : ℕ) → cars + k < commodity_count d → C (cars + k)) → (k : ℕ) → k < commodity_count d → C k
  by-class {C} car lorry k h =
      ⊎_elim (car k)
      (λ b.
      let place : cars + (k - cars) ≡ k = omega arith in
      rw place at (lorry (k - cars) (omega arith)))
      (order k cars)

  -- Each commodity's row has its next links,
  module _ {times : List ℕ} {nexts : List (List ℕ)} (found : ClassNexts d times nexts) where
    pub commodity-row : (k : ℕ) → k < commodity_count d → CommodityRow d times k (get_or nexts k [])
    commodity-row =
        by-class {C = λ k. CommodityRow d times k (get_or nexts k [])}
        (λ k h.
        ⊎_elim
        (λ full. inl (full ∙ ap (λ c. link_marks (routing_from d.nodes d.links times c)) (car-at k h)))
        (λ none. inr (none.0, λ j b. sym (car-trips-at k j h b) ∙ none.1 j b))
        (found.cars.row k (omega (arith, cars-long))))
        (λ k h.
        let some-lorries : HasLorries d = omega arith in
        let row_at = behind-at nexts cars k [] in
        ⊎_elim
        (λ full. inl (sym row_at ∙ full ∙ ap (λ c. link_marks (routing_from d.nodes d.links times c)) (lorry-at k)))
        (λ none. inr (sym row_at ∙ none.0, λ j b. sym (lorry-trips-at k j) ∙ none.1 j b))
        ((found.lorries some-lorries).row k (omega (arith, lorries-long))))

  -- where both classes are searched one after the other,
  module _ {times : List ℕ} {nexts : List (List ℕ)} (long : commodity_count d ≤ length nexts)
      (found : Nexts d.nodes d.links car_list car_trips times nexts) where
    pub nexts-cars : commodity_count d ≤ cars → ClassNexts d times nexts
    nexts-cars no-lorries = record { cars = found; lorries = λ some-lorries. absurd (omega arith); size = long }

    pub nexts-both : (rows : List (List ℕ)) → length rows ≡ length nexts - cars
        → Nexts d.nodes d.links lorry_list lorry_trips times rows → ClassNexts d times (replaced_behind nexts cars rows)
    nexts-both rows rows_long others =
        let within : cars ≤ length nexts = omega (arith, cars-most) in
        let whole = length-behind-replaced nexts cars within rows rows_long in
        record {
          cars =
              record {
                size = omega (arith, whole, found.size);
                row = λ k h. rw (before-replaced nexts cars within rows rows_long k [] (omega (arith, cars-long))) (found.row k h);
              };
          lorries = λ some-lorries. rw (behind-replaced nexts cars within rows rows_long) others;
          size = omega (arith, whole);
        }

  -- and where the rows of all are completed.
  module _ {times : List ℕ} {nexts : List (List ℕ)} (long : commodity_count d ≤ length nexts)
      (found : AllNexts d.nodes d.links car_list times nexts) where
    pub all-cars : commodity_count d ≤ cars → AllNexts d.nodes d.links d.commodities times nexts
    all-cars no-lorries =
        record {
          size = long;
          row = λ k h.
              let inside : k < cars = omega arith in
              found.row k (omega (arith, cars-long)) ∙ ap (λ c. link_marks (routing_from d.nodes d.links times c)) (car-at k inside);
        }

    pub all_both : (rows : List (List ℕ)) → length rows ≡ length nexts - cars
        → AllNexts d.nodes d.links lorry_list times rows → AllNexts d.nodes d.links d.commodities times (replaced_behind nexts cars rows)
    all_both rows rows_long others =
        let within : cars ≤ length nexts = omega (arith, cars-most) in
        let whole = length-behind-replaced nexts cars within rows rows_long in
        let after = replaced_behind nexts cars rows in
        record {
          size = omega (arith, whole);
          row =
              by-class {C = λ k. get_or after k [] ≡ link_marks (routing_from d.nodes d.links times (get_or d.commodities k 0))}
              (λ k h.
              before-replaced nexts cars within rows rows_long k [] h
              ∙ found.row k (omega (arith, cars-long))
              ∙ ap (λ c. link_marks (routing_from d.nodes d.links times c)) (car-at k h))
              (λ k h.
              sym (behind-at after cars k [])
              ∙ ap (λ zs. get_or zs k []) (behind-replaced nexts cars within rows rows_long)
              ∙ others.row k (omega (arith, lorries-long))
              ∙ ap (λ c. link_marks (routing_from d.nodes d.links times c)) (lorry-at k));
        }

  -- The sum of least times is that of the cars and that of the lorries.
  module _ (times : List ℕ) where
    abbrev spent : ℕ → ℕ
    spent k = sum d.nodes (λ j. get_or d.trips (k * d.nodes + j) 0 * get_or (marks (routing_from d.nodes d.links times (get_or d.commodities k 0))) j 0)

    cars-least : least_over d.nodes d.links car_list car_trips times ≡ sum cars spent
    unfolding least_over
    cars-least =
        rw cars-long
        (sum-cong cars _ _ (λ k h.
        sum-cong d.nodes _ _ (λ j b.
        let t = car-trips-at k j h b in
        let c = car-at k h in
        cc)))

    lorries-least : least_over d.nodes d.links lorry_list lorry_trips times ≡ sum (commodity_count d - cars) (λ k. spent (cars + k))
    unfolding least_over
    lorries-least =
        rw lorries-long
        (sum-cong (commodity_count d - cars) _ _ (λ k h.
        sum-cong d.nodes _ _ (λ j b.
        let t = lorry-trips-at k j in
        let c = lorry-at k in
        cc)))

    pub least-cars : commodity_count d ≤ cars → least_over d.nodes d.links car_list car_trips times ≡ least_over d.nodes d.links d.commodities d.trips times
    unfolding least_over
    least-cars no-lorries = let all : cars ≡ commodity_count d = omega (arith, cars-most) in cars-least ∙ ap (λ count. sum count spent) all

    pub least-both :
        least_over d.nodes d.links car_list car_trips times + least_over d.nodes d.links lorry_list lorry_trips times
        ≡ least_over d.nodes d.links d.commodities d.trips times
    unfolding least_over
    least-both =
        let parted : cars + (commodity_count d - cars) ≡ commodity_count d = omega (arith, cars-most) in
        let split = sum-append cars (commodity_count d - cars) spent in
        let whole = ap (λ count. sum count spent) parted in
        let a = cars-least in
        let b = lorries-least in
        cc
