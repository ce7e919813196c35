-- (A.7) What the commodities of a study are, and question 11 of each class by itself.
use Rattle.std.specs.Prelude.{ℕ, zero, suc, ◌+◌, ◌*◌, ◌-◌, ◌≤◌, ◌<◌, ◌≡◌, Bool, true, false, ◌&&◌, List, ◌++◌, ◌⊎◌, length, get_or, take, drop}
use Rattle.std.proofs.Common.{mul-le-mul_right, sym, ◌∙◌, ap, ⊎_elim, length-append, length-take, length-drop, get_or-append-add, get_or-take, get_or-drop, take_all, le-leb}
use native.Mathlib.Omega.{arith}
use Rattle.std.proofs.Math.Bool.{and-true, and_assoc}
use Rattle.std.proofs.Math.Arith.{digits_lt}
use Rattle.std.proofs.Math.ListN.{get_or-append}
use Rattle.std.proofs.lemmas.Bool.{lt-leb}
use Rattle.theory.specs.Finite.{all, tabulate}
use Rattle.theory.specs.Study.{node_of, of_lorries, lorries_to, network}
use Rattle.theory.specs.Laws.Finite.{order, all-cong, length-tabulate, get_d_tabulate}
use Rattle.calls.specs.Questions.{destinations_fit, trips_reach}
use Rattle.questions.specs.Sized.{Sized, CommoditiesOf, ToNodes, OneClass}
use Rattle.questions.specs.Laws.Questions.{entries_fit, destination-below}
use Rattle.questions.specs.Laws.Reach.{reach_test, reach-all}

-- A commodity is the destination of the same number or, past the destinations, one of lorries.
module _ (destinations commodities : List ℕ) (given : CommoditiesOf destinations commodities) where
  abbrev lorry_list : List ℕ
  lorry_list = tabulate (length destinations) (λ k. lorries_to (get_or destinations k 0))

  lorries-long : length (destinations ++ lorry_list) ≡ length destinations + length destinations
  lorries-long = omega (arith, length-append destinations lorry_list, length-tabulate (length destinations) (λ k. lorries_to (get_or destinations k 0)))

  pub cars-within : length destinations ≤ length commodities
  cars-within = ⊎_elim (λ e. rw e (omega arith)) (λ e. rw e (omega (arith, lorries-long))) given

  car-at : (k : ℕ) → k < length destinations → get_or commodities k 0 ≡ get_or destinations k 0
  car-at k h = ⊎_elim (λ e. rw e) (λ e. rw e (get_or-append destinations lorry_list 0 k h)) given

  lorry-at : (k : ℕ) → length destinations + k < length commodities → (k < length destinations) × (get_or commodities (length destinations + k) 0 ≡ lorries_to (get_or destinations k 0))
  lorry-at k h =
      ⊎_elim
      (λ e. let same : length commodities ≡ length destinations = ap length e in absurd (omega arith))
      (λ e.
      let long : length commodities ≡ length (destinations ++ lorry_list) = ap length e in
      let below : k < length destinations = omega (arith, lorries-long) in
      (below, rw e (get_or-append-add destinations lorry_list k 0 ∙ get_d_tabulate (length destinations) (λ i. lorries_to (get_or destinations i 0)) 0 k below)))
      given

  module _ (n : ℕ) (few : n ≤ 128) (fit : destinations_fit n destinations ≡ true) where
    -- The destination of every commodity is a node,
    car-node : (k : ℕ) → k < length destinations → node_of (get_or commodities k 0) < n
    car-node k h = rw (car-at k h) (omega (arith, destination-below n destinations fit k h, few))

    lorry-node : (k : ℕ) → length destinations ≤ k → k < length commodities → node_of (get_or commodities k 0) < n
    lorry-node k past h =
        let i = k - length destinations in
        let there : length destinations + i ≡ k = omega arith in
        let (below, at) = lorry-at i (omega arith) in
        rw (← there, at) (omega (arith, destination-below n destinations fit i below, few))

    pub to-nodes : ToNodes n commodities
    to-nodes k h = ⊎_elim (car-node k) (λ past. lorry-node k past h) (order k (length destinations))

    -- and each part of the commodities is of one class.
    car-class : (k : ℕ) → k < length destinations → of_lorries (get_or (take (length destinations) commodities) k 0) ≡ false
    car-class k h =
        let at : get_or (take (length destinations) commodities) k 0 ≡ get_or destinations k 0 = get_or-take (length destinations) commodities k 0 h ∙ car-at k h in
        lt-leb 128 (get_or (take (length destinations) commodities) k 0) (omega (arith, at, destination-below n destinations fit k h, few))

    pub cars-alike : OneClass (take (length destinations) commodities)
    cars-alike k h =
        let below : k < length destinations = omega (arith, length-take (length destinations) commodities) in
        car-class k below ∙ sym (car-class 0 (omega arith))

  lorry-class : (k : ℕ) → k < length (drop (length destinations) commodities) → of_lorries (get_or (drop (length destinations) commodities) k 0) ≡ true
  lorry-class k h =
      let inside : length destinations + k < length commodities = omega (arith, length-drop (length destinations) commodities) in
      let at : get_or (drop (length destinations) commodities) k 0 ≡ lorries_to (get_or destinations k 0) = get_or-drop (length destinations) commodities k 0 ∙ (lorry-at k inside).1 in
      le-leb 128 (get_or (drop (length destinations) commodities) k 0) (omega (arith, at))

  pub lorries-alike : OneClass (drop (length destinations) commodities)
  lorries-alike k h = lorry-class k h ∙ sym (lorry-class 0 (omega arith))

-- A test of a + b numbers is one of the first a and one of the others.
all_append : (a b : ℕ) (test : ℕ → Bool) → all (a + b) test ≡ (all a test && all b (λ i. test (a + i)))
unfolding all
all_append a zero test = let e : a + 0 ≡ a = omega arith in rw e (sym (and-true (all a test)))
all_append a (suc b) test =
    let e : a + suc b ≡ suc (a + b) = omega arith in
    rw (e, all_append a b test) (and_assoc (all a test) (all b (λ i. test (a + i))) (test (a + b)))

-- What a slice lends from a place on.
abbrev pub from : ℕ → List ℕ → List ℕ
from n xs = take (length xs - n) (drop n xs)

from_is : (n : ℕ) (xs : List ℕ) → from n xs ≡ drop n xs
from_is n xs = take_all (length xs - n) (drop n xs) (omega (arith, length-drop n xs))

-- So question 11 is put to the first c commodities and to the others.
module _ (nodes : ℕ) (links : List (List ℕ)) (c : ℕ) (commodities trips : List ℕ) (some : c ≤ length commodities) (sized : Sized nodes links commodities trips) where
  first-long : length (take c commodities) ≡ c
  first-long = omega (arith, length-take c commodities)

  -- Each part has its trips.
  pub past-within : c * nodes ≤ length trips
  past-within = let most = mul-le-mul_right {m = c} {n = length commodities} nodes some in omega (arith, sized.entries-long)

  pub trips-few : length trips ≤ 8192
  trips-few = omega (arith, sized.entries-long, entries_fit sized.few-nodes sized.few-commodities)

  pub first-sized : Sized nodes links (take c commodities) (take (c * nodes) trips)
  first-sized =
      record {
        few-nodes = sized.few-nodes;
        few-links = sized.few-links;
        few-commodities = omega (arith, first-long, sized.few-commodities);
        entries-long = rw first-long (omega (arith, length-take (c * nodes) trips, past-within));
      }

  pub last-sized : Sized nodes links (from c commodities) (from (c * nodes) trips)
  last-sized =
      rw (from_is c commodities, from_is (c * nodes) trips)
      (let long : length commodities ≡ c + length (drop c commodities) = omega (arith, length-drop c commodities) in
      let entries : length trips ≡ (c + length (drop c commodities)) * nodes = rw (← long) sized.entries-long in
      record {
        few-nodes = sized.few-nodes;
        few-links = sized.few-links;
        few-commodities = omega (arith, long, sized.few-commodities);
        entries-long = omega (arith, length-drop (c * nodes) trips, entries);
      })

  pub first-nodes : ToNodes nodes commodities → ToNodes nodes (take c commodities)
  first-nodes to k h =
      let below : k < c = omega (arith, first-long) in
      rw (get_or-take c commodities k 0 below) (to k (omega arith))

  pub last-nodes : ToNodes nodes commodities → ToNodes nodes (from c commodities)
  last-nodes to =
      rw (from_is c commodities) (λ k h. rw (get_or-drop c commodities k 0) (to (c + k) (omega (arith, length-drop c commodities))))

  pub last-alike : OneClass (drop c commodities) → OneClass (from c commodities)
  last-alike alike = rw (from_is c commodities) alike

  abbrev pub first_part : Bool
  first_part = trips_reach (network nodes links (take c commodities) (take (c * nodes) trips))

  abbrev pub last_part : Bool
  last_part = trips_reach (network nodes links (from c commodities) (from (c * nodes) trips))

  abbrev pub whole : Bool
  whole = trips_reach (network nodes links commodities trips)

  first_part_lem : first_part ≡ all c (reach_test nodes links commodities trips)
  unfolding reach_test
  first_part_lem =
      reach-all nodes links (take c commodities) (take (c * nodes) trips)
      ∙ rw first-long
      (all-cong c _ _ (λ k h.
      rw (get_or-take c commodities k 0 h)
      (all-cong nodes _ _ (λ j q. rw (get_or-take (c * nodes) trips (k * nodes + j) 0 (digits_lt h q))))))

  last-part : last_part ≡ all (length commodities - c) (λ k. reach_test nodes links commodities trips (c + k))
  unfolding reach_test
  last-part =
      let plain : last_part ≡ trips_reach (network nodes links (drop c commodities) (drop (c * nodes) trips)) = rw (from_is c commodities, from_is (c * nodes) trips) in
      plain
      ∙ reach-all nodes links (drop c commodities) (drop (c * nodes) trips)
      ∙ rw (length-drop c commodities)
      (all-cong (length commodities - c) _ _ (λ k h.
      rw (get_or-drop c commodities k 0)
      (all-cong nodes _ _ (λ j q. rw (get_or-drop (c * nodes) trips (k * nodes + j) 0, place k j)))))
    where
      place : (k j : ℕ) → c * nodes + (k * nodes + j) ≡ (c + k) * nodes + j
      place k j = omega arith

  reach-parts : whole ≡ (first_part && last_part)
  reach-parts =
      let size : length commodities ≡ c + (length commodities - c) = omega arith in
      reach-all nodes links commodities trips
      ∙ ap (λ n. all n (reach_test nodes links commodities trips)) size
      ∙ all_append c (length commodities - c) (reach_test nodes links commodities trips)
      ∙ rw (first_part_lem, last-part)

  -- The answer is no where that to the first is, that to the first where there are no others, and else that to the others.
  pub first-fails : first_part ≡ false → false ≡ whole
  first-fails e = sym (reach-parts ∙ rw e)

  pub first-is-all : length commodities ≡ c → first_part ≡ true → true ≡ whole
  first-is-all size e =
      sym (reach-all nodes links commodities trips ∙ ap (λ n. all n (reach_test nodes links commodities trips)) size ∙ sym first_part_lem ∙ e)

  pub others-answer : first_part ≡ true → last_part ≡ whole
  others-answer e = sym (reach-parts ∙ rw e)
