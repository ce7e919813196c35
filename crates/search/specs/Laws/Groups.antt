-- The network can be searched to each destination, and to each group of them.
use Rattle.std.specs.Prelude.{ℕ, ◌+◌, ◌-◌, ◌*◌, ◌≤◌, ◌<◌, min, ◌≡◌, List, ◌++◌, length, get_or, take, drop, replicate}
use Rattle.std.proofs.Common.{mul-le-mul_right, arith, sym, ◌∙◌, ap, ⊎_elim, length-drop, length-take-le, get_or-take, get_or-drop}
use Rattle.std.proofs.lemmas.List.{get_or-replicate, get_or-append_right}
use Rattle.std.proofs.Math.ListN.{get_or-append}
use Rattle.theory.specs.Laws.Finite.{order}
use Rattle.theory.specs.Study.{of_lorries}
use Rattle.search.specs.Given.{class_of, Searchable, AllSearchable}
use Rattle.search.specs.Lanes.{EachSearchable}
use Rattle.search.specs.Groups.{Member}

-- The first eight of some destinations, with the first again in the place of those that are wanting, are a group of them.
pub first-members : (destinations : List ℕ) (size : ℕ) → 0 < length destinations → size ≡ min (length destinations) 8
    → (i : ℕ) → i < 8 → Member destinations 0 i (get_or (take size destinations ++ drop size (replicate 8 (get_or destinations 0 0))) i 0)
first-members destinations size some size≡ i b = ⊎_elim within past (order i size)
  where
    front : List ℕ
    front = take size destinations

    others : List ℕ
    others = replicate 8 (get_or destinations 0 0)

    long : length front ≡ size
    long = length-take-le size destinations (omega arith)

    within : i < size → Member destinations 0 i (get_or (front ++ drop size others) i 0)
    within h =
        record {
          number = i;
          below = omega arith;
          is = get_or-append front (drop size others) 0 i (omega (arith, long)) ∙ get_or-take size destinations i 0 h;
          own = λ c. omega arith;
        }

    past : size ≤ i → Member destinations 0 i (get_or (front ++ drop size others) i 0)
    past h =
        record {
          number = 0;
          below = some;
          is =
              get_or-append_right front (drop size others) size i 0 long h
              ∙ get_or-drop size others (i - size) 0
              ∙ get_or-replicate 8 (size + (i - size)) (get_or destinations 0 0) 0 (omega arith);
          own = λ c. absurd (omega arith);
        }

-- The destinations from `first` on and below `past`, as a slice lends them,
abbrev pub destinations-from : List ℕ → ℕ → ℕ → List ℕ
destinations-from destinations first past = take (past - first) (drop first destinations)

-- are a group of them all.
module _ (destinations : List ℕ) {first past : ℕ} (h : first < length destinations) (past≡ : past ≡ min (first + 8) (length destinations)) where
  pub group-size : length (destinations-from destinations first past) ≡ past - first
  group-size = length-take-le (past - first) (drop first destinations) (omega (arith, length-drop first destinations))

  pub group-at : (k : ℕ) → k < past - first → get_or (destinations-from destinations first past) k 0 ≡ get_or destinations (first + k) 0
  group-at k b = get_or-take (past - first) (drop first destinations) k 0 b ∙ get_or-drop first destinations k 0

  -- The trips to them are a part of all trips.
  pub trips-within : (nodes : ℕ) (trips : List ℕ) → length trips ≡ length destinations * nodes → (first ≤ past) × (past * nodes ≤ length trips)
  trips-within nodes trips size =
      let all : past * nodes ≤ length destinations * nodes = mul-le-mul_right nodes (omega arith) in (omega arith, omega arith)

  pub member-of : {i s : ℕ} → i < 8 → Member (destinations-from destinations first past) 0 i s → Member destinations first i s
  member-of {i} b m =
      let inside : m.number < past - first = omega (arith, m.below, group-size) in
      record {
        number = first + m.number;
        below = omega (arith, inside);
        is = m.is ∙ group-at m.number inside;
        own = λ c. omega (arith, m.own (omega (arith, group-size)));
      }

module _ {nodes : ℕ} {links : List (List ℕ)} {destinations times : List ℕ} (g : AllSearchable nodes links destinations times) where
  pub searchable-to : (k : ℕ) → k < length destinations → Searchable nodes links times (get_or destinations k 0)
  searchable-to k h = record { roads = g.roads; destination-node = g.destination-node k h }

  -- Members of a group have the class of all,
  module _ {first : ℕ} (group : List ℕ) (members : (i : ℕ) → i < 8 → Member destinations first i (get_or group i 0)) where
    member-class : (i : ℕ) → i < 8 → of_lorries (get_or group i 0) ≡ class_of destinations
    member-class i h = let one = members i h in ap of_lorries one.is ∙ g.one_class one.number one.below

    pub group-class : class_of group ≡ class_of destinations
    group-class = member-class 0 (omega arith)

    -- and so the group can be searched to.
    pub members-searchable : EachSearchable nodes links times group
    members-searchable =
        record {
          each = λ i h. let one = members i h in rw one.is (searchable-to one.number one.below);
          one_class = λ i h. member-class i h ∙ sym group-class;
        }

  -- A part of all destinations is of the class of all, and can be searched to.
  module _ {first past : ℕ} (h : first < length destinations) (past≡ : past ≡ min (first + 8) (length destinations)) where
    part-class : (k : ℕ) → k < past - first → of_lorries (get_or (destinations-from destinations first past) k 0) ≡ class_of destinations
    part-class k b = ap of_lorries (group-at destinations h past≡ k b) ∙ g.one_class (first + k) (omega arith)

    pub class-part : class_of (destinations-from destinations first past) ≡ class_of destinations
    class-part = part-class 0 (omega arith)

    pub part-searchable : AllSearchable nodes links (destinations-from destinations first past) times
    part-searchable =
        let size = group-size destinations h past≡ in
        record {
          roads = g.roads;
          few-destinations = omega (arith, size, g.few-destinations);
          destination-node = λ k b. rw (group-at destinations h past≡ k (omega (arith, size))) (g.destination-node (first + k) (omega (arith, size)));
          one_class = λ k b. part-class k (omega (arith, size)) ∙ sym class-part;
        }
