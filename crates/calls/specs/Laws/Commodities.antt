-- (A.7) The commodities of a study: those of cars, one for each destination, and those of lorries, as many or none.
use Rattle.std.specs.Prelude.{ℕ, ◌+◌, ◌*◌, ◌-◌, ◌≤◌, ◌<◌, ◌≡◌, true, false, ◌⊎◌, take}
use native.Mathlib.Omega.{arith}
use Rattle.std.proofs.Common.{sym, ◌∙◌, ⊎_elim, ltb-true, le-leb}
use Rattle.std.proofs.Math.Path.{ap}
use mathlib.Core.List.{List, ◌++◌}
use Rattle.std.proofs.Math.Logic.{inl, inr}
use Rattle.std.proofs.Math.ListN.{length, get_or, length-append, get_or-append}
use Rattle.std.proofs.Math.Seq.{get_or-append-add, take_at}
use Rattle.std.proofs.Math.Dec.{ltb}
use Rattle.std.proofs.lemmas.Bool.{lt-leb}
use Rattle.study.specs.Sections.{nodes, destinations, lorry_destinations, destination_part, trip_part, lorry_part}
use Rattle.study.specs.Header.{has_section}
use Rattle.study.specs.Fields.{destination, trips}
use Rattle.study.specs.Laws.{accepted}
use Rattle.theory.specs.Finite.{all, tabulate}
use Rattle.theory.specs.Study.{node_of, of_lorries, lorries_to}
use Rattle.theory.specs.Classes.{car_count, Classed}
use Rattle.theory.specs.Laws.Cases.{on_test}
use Rattle.theory.specs.Laws.Classes.{count-half, count-all}
use Rattle.theory.specs.Laws.Finite.{order, length-tabulate, get_d_tabulate, length-rows, all-elim, and_left}
use Rattle.calls.specs.Study.{destination_nodes, commodities, entries_to, trip_entries}
use Rattle.calls.specs.Questions.{destinations_fit}
use Rattle.calls.specs.Laws.Questions.{Described}

module _ (file : List ℕ) where
  pub nodes-long : length (destination_nodes file) ≡ destinations file
  unfolding destination_nodes
  nodes-long = length-tabulate (destinations file) (destination (destination_part file))

  pub commodities-long : length (commodities file) ≡ destinations file + lorry_destinations file
  unfolding commodities
  commodities-long =
      omega (
        arith,
        length-append (destination_nodes file) (tabulate (lorry_destinations file) (λ k. lorries_to (destination (destination_part file) k))),
        nodes-long,
        length-tabulate (lorry_destinations file) (λ k. lorries_to (destination (destination_part file) k)),
      )

  -- The destinations come first.
  pub cars-first : take (destinations file) (commodities file) ≡ destination_nodes file
  unfolding commodities
  cars-first = take_at (destination_nodes file) (tabulate (lorry_destinations file) (λ k. lorries_to (destination (destination_part file) k))) (destinations file) nodes-long

  pub car-at : (k : ℕ) → k < destinations file → get_or (commodities file) k 0 ≡ destination (destination_part file) k
  unfolding commodities destination_nodes
  car-at k h =
      get_or-append (destination_nodes file) (tabulate (lorry_destinations file) (λ i. lorries_to (destination (destination_part file) i))) 0 k (omega (arith, nodes-long))
      ∙ get_d_tabulate (destinations file) (destination (destination_part file)) 0 k h

  pub lorry-at : (k : ℕ) → k < lorry_destinations file → get_or (commodities file) (destinations file + k) 0 ≡ lorries_to (destination (destination_part file) k)
  unfolding commodities
  lorry-at k h =
      let lorries = tabulate (lorry_destinations file) (λ i. lorries_to (destination (destination_part file) i)) in
      ap (λ i. get_or (destination_nodes file ++ lorries) i 0) (ap (λ i. i + k) (sym nodes-long))
      ∙ get_or-append-add (destination_nodes file) lorries k 0
      ∙ get_d_tabulate (lorry_destinations file) (λ i. lorries_to (destination (destination_part file) i)) 0 k h

  -- Every commodity has trips from every node.
  pub entries-long : length (trip_entries file) ≡ length (commodities file) * nodes file
  unfolding trip_entries
  entries-long =
      let long : (bytes : List ℕ) (count : ℕ) → length (entries_to bytes (nodes file) count) ≡ count * nodes file =
      λ bytes count. length-rows count (nodes file) _ (λ k h. length-tabulate (nodes file) (trips bytes (nodes file) k)) in
      rw commodities-long
      (omega (
        arith,
        length-append (entries_to (trip_part file) (nodes file) (destinations file)) (entries_to (lorry_part file) (nodes file) (lorry_destinations file)),
        long (trip_part file) (destinations file),
        long (lorry_part file) (lorry_destinations file),
      ))

  -- There are as many of lorries as of cars, or none.
  pub all-or-none : (lorry_destinations file ≡ 0) ⊎ (lorry_destinations file ≡ destinations file)
  unfolding lorry_destinations
  all-or-none = on_test (has_section file 4) (λ e. inr (rw e)) (λ e. inl (rw e))

module _ (file : List ℕ) (h : Described file) where
  -- The destinations are nodes, of at most 128,
  pub destination-below : (k : ℕ) → k < destinations file → destination (destination_part file) k < nodes file
  unfolding destinations_fit destination_nodes
  destination-below k b =
      let list = destination_nodes file in
      let all-below = and_left (all (length list) (λ i. ltb (get_or list i 0) (nodes file))) _ h.ascending in
      let at = all-elim (length list) (λ i. ltb (get_or list i 0) (nodes file)) all-below k (omega (arith, nodes-long file)) in
      rw (← get_d_tabulate (destinations file) (destination (destination_part file)) 0 k b) (ltb-true _ _ at)

  few-nodes : nodes file ≤ 128
  few-nodes = (accepted file h.opened).nodes-most

  -- so each commodity's destination is a node,
  pub commodity-node : (k : ℕ) → k < length (commodities file) → node_of (get_or (commodities file) k 0) < nodes file
  commodity-node k b =
      ⊎_elim
      (λ c. rw (car-at file k c) (omega (arith, destination-below k c, few-nodes)))
      (λ c.
      let i = k - destinations file in
      let inside : i < lorry_destinations file = omega (arith, commodities-long file) in
      let there : destinations file + i ≡ k = omega arith in
      let among : i < destinations file = ⊎_elim (λ (z : lorry_destinations file ≡ 0). absurd (omega arith)) (λ (e : lorry_destinations file ≡ destinations file). omega arith) (all-or-none file) in
      let below : destination (destination_part file) i < nodes file = destination-below i among in
      rw (← there, lorry-at file i inside) (omega (arith, below, few-nodes)))
      (order k (destinations file))

  -- and the commodities of cars and of lorries are told apart by their numbers.
  pub car-class : (k : ℕ) → k < destinations file → of_lorries (get_or (commodities file) k 0) ≡ false
  car-class k b = lt-leb 128 (get_or (commodities file) k 0) (rw (car-at file k b) (omega (arith, destination-below k b, few-nodes)))

  pub lorry-class : (k : ℕ) → destinations file ≤ k → k < length (commodities file) → of_lorries (get_or (commodities file) k 0) ≡ true
  lorry-class k c b =
      let i = k - destinations file in
      let inside : i < lorry_destinations file = omega (arith, commodities-long file) in
      let there : destinations file + i ≡ k = omega arith in
      le-leb 128 (get_or (commodities file) k 0) (rw (← there, lorry-at file i inside) (omega arith))

  pub cars-are : car_count (commodities file) ≡ destinations file
  cars-are =
      let some-destination = (accepted file h.opened).destinations-least in
      let last = length (commodities file) - 1 in
      ⊎_elim
      (λ none. count-all (commodities file) (car-class last (omega (arith, commodities-long file))) ∙ omega (arith, commodities-long file))
      (λ same. count-half (commodities file) (lorry-class last (omega (arith, commodities-long file)) (omega (arith, commodities-long file))) ∙ omega (arith, commodities-long file))
      (all-or-none file)

  pub classed : Classed (commodities file)
  classed =
      record {
        cars-first = λ k b. car-class k (omega (arith, cars-are));
        lorries-last = λ k c b. lorry-class k (omega (arith, cars-are)) b;
      }
