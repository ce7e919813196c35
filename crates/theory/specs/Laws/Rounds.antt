-- The rounds of the definition of distances: round i has the least sum over paths of fewer than i links.
use Prim.Native.Nat.{ℕ, zero, suc, ◌+◌, ◌≤◌, ◌<◌}
use Rattle.std.proofs.Common.{le_refl, arith, sym, ◌∙◌, ap, inl, inr, ⊎_elim, eq-eqb, ne_eqb, eqb-true, leb-true, leb-false}
use Rattle.std.specs.Prelude.{◌≡◌, refl, true, false, cond, ◌⊎◌, ◌≢◌, length, eqb, leb}
use mathlib.Core.List.{List, [], ◌∷◌}
use Rattle.std.proofs.Math.Option.{Option, none, some, some-injective}
use Rattle.std.proofs.Math.ListN.{get_or}
use Rattle.theory.specs.Routes.{Routing, IsPath, path_time, lesser, later, least_of, from_head, round, rounds}
use Rattle.theory.specs.Laws.Cases.{on-equal, on_test, on-option, none-some}
use Rattle.theory.specs.Laws.Finite.{below_suc, length-tabulate, get_d_tabulate}
use Rattle.theory.specs.Laws.Paths.{WellFormed}

-- There is a distance, and it is at most the bound.
abbrev pub AtMost : Option ℕ → ℕ → Type 0
AtMost d bound = (x : ℕ) × (d ≡ some x) × (x ≤ bound)

-- The lesser of two distances is one of them,
lesser-either : (a b : Option ℕ) (x : ℕ) → lesser a b ≡ some x → (a ≡ some x) ⊎ (b ≡ some x)
lesser-either none b x e = inr e
lesser-either (some u) none x e = inl e
lesser-either (some u) (some v) x e = on_test (leb u v) (λ t. inl (rw t at e)) (λ t. inr (rw t at e))

-- and neither is less.
lesser-left : (a b : Option ℕ) (x : ℕ) → a ≡ some x → AtMost (lesser a b) x
lesser-left none b x e = none-some refl e
lesser-left (some u) none x e = (x, e, le_refl x)
lesser-left (some u) (some v) x e =
    let f : u ≡ x = some-injective u x e in
    on_test (leb u v) (λ t. (u, rw t, omega arith)) (λ t. let h = leb-false u v t in (v, rw t, omega arith))

lesser-right : (a b : Option ℕ) (x : ℕ) → b ≡ some x → AtMost (lesser a b) x
lesser-right none b x e = (x, e, le_refl x)
lesser-right (some u) none x e = none-some refl e
lesser-right (some u) (some v) x e =
    let f : v ≡ x = some-injective v x e in
    on_test (leb u v) (λ t. let h = leb-true u v t in (u, rw t, omega arith)) (λ t. (v, rw t, omega arith))

-- The least of several distances is one of them,
pub least_of-attained : (n : ℕ) (f : ℕ → Option ℕ) (x : ℕ) → least_of n f ≡ some x → (l : ℕ) × (l < n) × (f l ≡ some x)
unfolding least_of
least_of-attained zero f x e = none-some refl e
least_of-attained (suc n) f x e =
    ⊎_elim
    (λ a. let (l, h, g) = least_of-attained n f x a in (l, omega arith, g))
    (λ b. (n, omega arith, b))
    (lesser-either (least_of n f) (f n) x e)

-- and none of them is less.
pub least_of-least : (n : ℕ) (f : ℕ → Option ℕ) (l x : ℕ) → l < n → f l ≡ some x → AtMost (least_of n f) x
unfolding least_of
least_of-least zero f l x h e = absurd (omega arith)
least_of-least (suc n) f l x h e = ⊎_elim (λ k. before (least_of-least n f l x k e)) here (below_suc n l h)
  where
    before : AtMost (least_of n f) x → AtMost (lesser (least_of n f) (f n)) x
    before (y, g, k) = let (z, least, m) = lesser-left (least_of n f) (f n) y g in (z, least, omega arith)

    here : l ≡ n → AtMost (lesser (least_of n f) (f n)) x
    here k = lesser-right (least_of n f) (f n) x (ap f (sym k) ∙ e)

-- A node has the number y through a link: the link is usable and leads out of the node, its head has a number, and its time and that
-- number add up to y.
pub record Through (q : Routing) (e : ℕ → Option ℕ) (j y l : ℕ) : Type 0 where
  pub below : l < q.links
  pub usable : q.usable l ≡ true
  pub leaves : q.tail l ≡ j
  pub rest : ℕ
  pub at_head : e (q.head l) ≡ some rest
  pub adds-up : y ≡ q.time l + rest

-- The numbers of a list, by node.
abbrev pub listed : List (Option ℕ) → ℕ → Option ℕ
listed d j = get_or d j none

-- What a link brings to a node is the number that the node has through it,
pub from-head :
    (q : Routing) (d : List (Option ℕ)) (j y l : ℕ) → l < q.links → from_head q d j l ≡ some y → Through q (listed d) j y l
unfolding from_head
from-head q d j y l h e = on_test (eqb (q.tail l) j) (λ a. on_test (q.usable l) (taken a) (barred a)) (λ a. none-some refl (rw a at e))
  where
    taken : eqb (q.tail l) j ≡ true → q.usable l ≡ true → Through q (listed d) j y l
    taken a b =
        let f : later (q.time l) (listed d (q.head l)) ≡ some y = rw (a, b) at e in
        on-option (listed d (q.head l)) (λ g. none-some refl (rw g at f)) (λ x g.
        record {
          below = h;
          usable = b;
          leaves = eqb-true (q.tail l) j a;
          rest = x;
          at_head = g;
          adds-up = sym (some-injective (q.time l + x) y (rw g at f));
        })

    barred : eqb (q.tail l) j ≡ true → q.usable l ≡ false → Through q (listed d) j y l
    barred a b = none-some refl (rw (a, b) at e)

-- and the other way round.
pub to-node : (q : Routing) (d : List (Option ℕ)) (j y l : ℕ) → Through q (listed d) j y l → from_head q d j l ≡ some y
unfolding from_head
to-node q d j y l t = rw (eq-eqb (q.tail l) j t.leaves, t.usable, t.at_head, ← t.adds-up)

-- One round at a node.
pub round-at :
    (q : Routing) (d : List (Option ℕ)) (j : ℕ) → j < q.nodes →
    get_or (round q d) j none ≡ cond (eqb j q.destination) (some 0) (least_of q.links (from_head q d j))
unfolding round
round-at q d j h = get_d_tabulate q.nodes _ none j h

module _ (q : Routing) (w : WellFormed q) (d : List (Option ℕ)) where
  -- After a round the destination has 0,
  pub round-destination : get_or (round q d) q.destination none ≡ some 0
  round-destination =
      round-at q d q.destination w.destination-node ∙ rw (eq-eqb q.destination q.destination refl)

  round-other : (j : ℕ) → j < q.nodes → j ≢ q.destination → get_or (round q d) j none ≡ least_of q.links (from_head q d j)
  round-other j h n = round-at q d j h ∙ rw (ne_eqb j q.destination n)

  -- any other node has its number through a link,
  pub round-attained :
      (j y : ℕ) → j < q.nodes → j ≢ q.destination → get_or (round q d) j none ≡ some y → (l : ℕ) × Through q (listed d) j y l
  round-attained j y h n e =
      let (l, b, f) = least_of-attained q.links (from_head q d j) y (sym (round-other j h n) ∙ e) in
      (l, from-head q d j y l b f)

  -- and no usable link gives less.
  pub round-least :
      (l x : ℕ) → l < q.links → q.usable l ≡ true → get_or d (q.head l) none ≡ some x →
      AtMost (get_or (round q d) (q.tail l) none) (q.time l + x)
  round-least l x h u e = on-equal (q.tail l) q.destination here elsewhere
    where
      here : q.tail l ≡ q.destination → AtMost (get_or (round q d) (q.tail l) none) (q.time l + x)
      here f = (0, rw f round-destination, omega arith)

      through : Through q (listed d) (q.tail l) (q.time l + x) l
      through = record { below = h; usable = u; leaves = refl; rest = x; at_head = e; adds-up = refl }

      elsewhere : q.tail l ≢ q.destination → AtMost (get_or (round q d) (q.tail l) none) (q.time l + x)
      elsewhere n =
          let brought = to-node q d (q.tail l) (q.time l + x) l through in
          let (y, f, m) = least_of-least q.links (from_head q d (q.tail l)) l (q.time l + x) h brought in
          (y, round-other (q.tail l) (w.tail-node l h) n ∙ f, m)

-- A round has a place for each node,
pub length-rounds : (q : Routing) (i : ℕ) → length (rounds q i) ≡ q.nodes
unfolding rounds round
length-rounds q zero = length-tabulate q.nodes (λ j. none)
length-rounds q (suc i) = length-tabulate q.nodes _

-- with no number before the first round.
pub rounds-none : (q : Routing) (j : ℕ) → j < q.nodes → get_or (rounds q 0) j none ≡ none
unfolding rounds
rounds-none q j h = get_d_tabulate q.nodes (λ j. none) none j h

-- A path of a given time with fewer than a number of links.
abbrev pub ShortPathOf : Routing → ℕ → ℕ → ℕ → Type 0
ShortPathOf q i j x = (path : List ℕ) × IsPath q j path × (path_time q path ≡ x) × (length path < i)

module _ (q : Routing) (w : WellFormed q) where
  -- A number in round i is the time of a path of fewer than i links.
  pub rounds-sound : (i j x : ℕ) → j < q.nodes → get_or (rounds q i) j none ≡ some x → ShortPathOf q i j x
  unfolding rounds
  rounds-sound zero j x h e = none-some (rounds-none q j h) e
  rounds-sound (suc i) j x h e =
      on-equal j q.destination here (λ n. elsewhere (round-attained q w (rounds q i) j x h n e) (rounds-sound i))
    where
      here : j ≡ q.destination → ShortPathOf q (suc i) j x
      here f =
          let a : get_or (round q (rounds q i)) j none ≡ some 0 = rw f (round-destination q w (rounds q i)) in
          ([], f, some-injective 0 x (sym a ∙ e), omega arith)

      elsewhere :
          (l : ℕ) × Through q (listed (rounds q i)) j x l →
          ((k y : ℕ) → k < q.nodes → get_or (rounds q i) k none ≡ some y → ShortPathOf q i k y) →
          ShortPathOf q (suc i) j x
      elsewhere (l, t) beyond =
          let (path, p, sum, short) = beyond (q.head l) t.rest (w.head-node l t.below) t.at_head in
          (l ∷ path, (t.below, t.usable, t.leaves, p), omega (arith, t.adds-up), omega arith)

  -- Round i has a number for each node that a path of fewer than i links leads from, at most the path's time.
  pub rounds-least :
      (i j : ℕ) (path : List ℕ) → IsPath q j path → length path < i → AtMost (get_or (rounds q i) j none) (path_time q path)
  unfolding rounds
  rounds-least zero j path p h = absurd (omega arith)
  rounds-least (suc i) j [] p h = (0, rw p (round-destination q w (rounds q i)), omega arith)
  rounds-least (suc i) j (l ∷ path) p h =
      let (x, e, a) = rounds-least i (q.head l) path p.3 (omega arith) in
      let (y, f, b) = round-least q w (rounds q i) l x p.0 p.1 e in
      (y, rw (← p.2) f, omega arith)
