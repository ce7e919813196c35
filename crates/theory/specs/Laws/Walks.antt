-- Least-time paths, and walks along next links, which are such paths.
use Rattle.std.specs.Prelude.{ℕ, zero, suc, ◌+◌, ◌*◌, ◌≤◌, ◌<◌, ◌≡◌, false, ◌≢◌, length, get_or, eqb}
use native.Mathlib.Omega.{arith}
use Rattle.std.proofs.Math.Path.{refl, ap}
use Rattle.std.proofs.Common.{sym, ◌∙◌, eq-eqb, ne_eqb}
use mathlib.Core.List.{List, [], ◌∷◌}
use Rattle.std.proofs.Math.Option.{Option, none, some, some-injective}
use Rattle.theory.specs.Finite.{sum}
use Rattle.theory.specs.Flows.{sum_at}
use Rattle.theory.specs.Routes.{Routing, IsPath, path_time, distance, next_links, walk, occurrences}
use Rattle.theory.specs.Laws.Cases.{on-equal, on-option, true-false}
use Rattle.theory.specs.Laws.Paths.{WellFormed, one_if, path_sum, ends_at, path-time, path-balance}
use Rattle.theory.specs.Laws.Paths.{sum-occurrences, sum-at-occurrences, Simple, simple-none, simple-more, simple-short}
use Rattle.theory.specs.Laws.Distances.{path-distance, distance-over-link, distance-destination, destination-time}
use Rattle.theory.specs.Laws.Next.{NextLink, next-link, next-destination}

-- A path goes over usable links only.
pub unusable-absent :
    (q : Routing) (l j : ℕ) (path : List ℕ) → IsPath q j path → q.usable l ≡ false → occurrences l path ≡ 0
unusable-absent q l j [] p u = refl
unusable-absent q l j (x ∷ path) p u =
    let a = unusable-absent q l (q.head x) path p.3 u in
    let b : one_if (eqb x l) ≡ 0 = rw (ne_eqb x l (λ e. true-false (ap q.usable (sym e) ∙ p.1) u)) in
    omega arith

-- A link stands in a path at most as often as the path leaves the link's tail.
occurrences-leave : (q : Routing) (l : ℕ) (path : List ℕ) → occurrences l path ≤ ends_at q.tail (q.tail l) path
unfolding path_sum
occurrences-leave q l [] = omega arith
occurrences-leave q l (x ∷ path) = on-equal x l (here (occurrences-leave q l path)) (elsewhere (occurrences-leave q l path))
  where
    here :
        occurrences l path ≤ ends_at q.tail (q.tail l) path → x ≡ l →
        occurrences l (x ∷ path) ≤ ends_at q.tail (q.tail l) (x ∷ path)
    here a e =
        let b : one_if (eqb x l) ≡ 1 = rw (eq-eqb x l e) in
        let c : one_if (eqb (q.tail x) (q.tail l)) ≡ 1 = rw (eq-eqb (q.tail x) (q.tail l) (ap q.tail e)) in
        omega arith

    elsewhere :
        occurrences l path ≤ ends_at q.tail (q.tail l) path → x ≢ l →
        occurrences l (x ∷ path) ≤ ends_at q.tail (q.tail l) (x ∷ path)
    elsewhere a n = let b : one_if (eqb x l) ≡ 0 = rw (ne_eqb x l n) in omega arith

-- A path that visits no node twice uses no link twice.
pub simple-once : (q : Routing) (l : ℕ) (path : List ℕ) → Simple q path → occurrences l path ≤ 1
simple-once q l path s = omega (arith, occurrences-leave q l path, s (q.tail l))

module _ (q : Routing) (w : WellFormed q) where
  -- Each link takes time.
  length-below-time : (j : ℕ) (path : List ℕ) → IsPath q j path → length path ≤ path_time q path
  length-below-time j [] p = omega arith
  length-below-time j (l ∷ path) p = omega (arith, length-below-time (q.head l) path p.3, w.some-time l p.0)

  -- The rest of a least-time path is a least-time path.
  pub least-rest :
      (j l : ℕ) (path : List ℕ) → IsPath q j (l ∷ path) → distance q j ≡ some (path_time q (l ∷ path)) →
      distance q (q.head l) ≡ some (path_time q path)
  least-rest j l path p e =
      let (x, f, m) = path-distance q w (q.head l) path p.3 in
      let (y, g, n) = distance-over-link q w l x p.0 p.1 f in
      let same : y ≡ q.time l + path_time q path = some-injective y _ (sym g ∙ ap (distance q) p.2 ∙ e) in
      let equal : x ≡ path_time q path = omega arith in
      f ∙ ap {B = Option ℕ} some equal

  -- It leaves no node that is farther than the one where it begins.
  leaves-no-farther :
      (j : ℕ) (path : List ℕ) → IsPath q j path → distance q j ≡ some (path_time q path) →
      (i x : ℕ) → distance q i ≡ some x → path_time q path < x → ends_at q.tail i path ≡ 0
  unfolding path_sum
  leaves-no-farther j [] p e i x f h = refl
  leaves-no-farther j (l ∷ path) p e i x f h =
      let nearer : path_time q path < x = omega arith in
      let a = leaves-no-farther (q.head l) path p.3 (least-rest j l path p e) i x f nearer in
      let b : one_if (eqb (q.tail l) i) ≡ 0 = rw (ne_eqb (q.tail l) i off) in
      omega arith
    where
      off : q.tail l ≢ i
      off t =
          let same : path_time q (l ∷ path) ≡ x = some-injective _ x (sym e ∙ ap (distance q) (sym p.2 ∙ t) ∙ f) in
          omega arith

  -- A least-time path visits no node twice: distances fall along it.
  pub least-simple : (j : ℕ) (path : List ℕ) → IsPath q j path → distance q j ≡ some (path_time q path) → Simple q path
  least-simple j [] p e = simple-none q
  least-simple j (l ∷ path) p e = simple-more q l path (least-simple (q.head l) path p.3 beyond) unvisited away
    where
      beyond : distance q (q.head l) ≡ some (path_time q path)
      beyond = least-rest j l path p e

      here : distance q (q.tail l) ≡ some (path_time q (l ∷ path))
      here = ap (distance q) p.2 ∙ e

      falls : path_time q path < path_time q (l ∷ path)
      falls = omega (arith, w.some-time l p.0)

      unvisited : ends_at q.tail (q.tail l) path ≡ 0
      unvisited = leaves-no-farther (q.head l) path p.3 beyond (q.tail l) (path_time q (l ∷ path)) here falls

      away : q.tail l ≢ q.destination
      away f =
          let zero = destination-time q w (q.tail l) (path_time q (l ∷ path)) f here in
          omega (arith, falls)

-- A walk stops at a node with no next link,
pub walk-stops :
    (head : ℕ → ℕ) (next : List (Option ℕ)) (most j : ℕ) → get_or next j none ≡ none → walk head next (suc most) j ≡ []
unfolding walk
walk-stops head next most j e = rw (e, walk)

-- goes on by the next link where there is one,
pub walk-goes :
    (head : ℕ → ℕ) (next : List (Option ℕ)) (most j l : ℕ) → get_or next j none ≡ some l →
    walk head next (suc most) j ≡ l ∷ walk head next most (head l)
unfolding walk
walk-goes head next most j l e = rw (e, walk)

-- and is the same for any two limits that it does not meet.
pub walk_same :
    (head : ℕ → ℕ) (next : List (Option ℕ)) (a b j : ℕ) →
    length (walk head next a j) < a → length (walk head next a j) < b → walk head next b j ≡ walk head next a j
walk_same head next zero b j h k = absurd (omega arith)
walk_same head next (suc a) zero j h k = absurd (omega arith)
walk_same head next (suc a) (suc b) j h k = on-option (get_or next j none) stops (λ l e. goes l e (walk_same head next a b (head l)))
  where
    stops : get_or next j none ≡ none → walk head next (suc b) j ≡ walk head next (suc a) j
    stops e = walk-stops head next b j e ∙ sym (walk-stops head next a j e)

    goes :
        (l : ℕ) → get_or next j none ≡ some l →
        (length (walk head next a (head l)) < a → length (walk head next a (head l)) < b →
        walk head next b (head l) ≡ walk head next a (head l)) →
        walk head next (suc b) j ≡ walk head next (suc a) j
    goes l e same =
        let f = walk-goes head next a j l e in
        let n : length (walk head next (suc a) j) ≡ suc (length (walk head next a (head l))) = ap length f in
        walk-goes head next b j l e ∙ ap (λ rest. l ∷ rest) (same (omega arith) (omega arith)) ∙ sym f

-- The links that a trip from a node goes by along next links, at most `most` of them,
abbrev walk_up_to : Routing → ℕ → ℕ → List ℕ
walk_up_to q most j = walk q.head (next_links q) most j

-- and at most as many as there are nodes.
abbrev pub walk_from : Routing → ℕ → List ℕ
walk_from q j = walk q.head (next_links q) q.nodes j

-- What a walk from a node with distance y is: a path of that time that visits no node twice, with fewer links than there are nodes.
pub record Walked (q : Routing) (j y : ℕ) (path : List ℕ) : Type 0 where
  pub is-path : IsPath q j path
  pub time : path_time q path ≡ y
  pub simple : Simple q path
  pub short : length path < q.nodes

module _ (q : Routing) (w : WellFormed q) where
  -- A walk with a limit above the node's distance is a path of that time.
  limited-walk :
      (most j y : ℕ) → y < most → j < q.nodes → distance q j ≡ some y →
      IsPath q j (walk_up_to q most j) × (path_time q (walk_up_to q most j) ≡ y)
  limited-walk zero j y m h e = absurd (omega arith)
  limited-walk (suc most) j y m h e = on-equal j q.destination here (λ n. elsewhere (next-link q w j y h n e) (limited-walk most))
    where
      here : j ≡ q.destination → IsPath q j (walk_up_to q (suc most) j) × (path_time q (walk_up_to q (suc most) j) ≡ y)
      here f =
          let stop : get_or (next_links q) j none ≡ none = ap (λ i. get_or (next_links q) i none) f ∙ next-destination q w in
          rw (walk-stops q.head (next_links q) most j stop) (f, sym (destination-time q w j y f e))

      elsewhere :
          NextLink q j y →
          ((i x : ℕ) → x < most → i < q.nodes → distance q i ≡ some x →
          IsPath q i (walk_up_to q most i) × (path_time q (walk_up_to q most i) ≡ x)) →
          IsPath q j (walk_up_to q (suc most) j) × (path_time q (walk_up_to q (suc most) j) ≡ y)
      elsewhere n beyond =
          let l = n.link in
          let t = n.through in
          let falls : t.rest < most = omega (arith, w.some-time l t.below, t.adds-up) in
          let (p, sum) = beyond (q.head l) t.rest falls (w.head-node l t.below) t.at_head in
          rw (walk-goes q.head (next_links q) most j l n.is-next)
          ((t.below, t.usable, t.leaves, p), omega (arith, t.adds-up, sum))

  module _ (j y : ℕ) (h : j < q.nodes) (e : distance q j ≡ some y) where
    limited-walked : (most : ℕ) → y < most → Walked q j y (walk_up_to q most j)
    limited-walked most m =
        let (p, t) = limited-walk most j y m h e in
        let s : Simple q (walk_up_to q most j) = least-simple q w j _ p (e ∙ ap {B = Option ℕ} some (sym t)) in
        record { is-path = p; time = t; simple = s; short = simple-short q w j _ p s }

    -- The number of nodes is limit enough.
    same-walk : (most : ℕ) → y < most → walk_from q j ≡ walk_up_to q most j
    same-walk most m =
        let r = limited-walked most m in
        let below = length-below-time q w j (walk_up_to q most j) r.is-path in
        walk_same q.head (next_links q) most q.nodes j (omega (arith, r.time)) r.short

    -- So a walk from a node with a distance ends at the destination.
    pub walked : Walked q j y (walk_from q j)
    walked = rw (same-walk (suc y) (omega arith)) (limited-walked (suc y) (omega arith))

    -- A walk uses a link at most once.
    pub walk-once : (l : ℕ) → occurrences l (walk_from q j) ≤ 1
    walk-once l = simple-once q l (walk_from q j) walked.simple

    -- The times of a walk's links add up to the distance.
    pub walk-time : sum q.links (λ l. q.time l * occurrences l (walk_from q j)) ≡ y
    walk-time = sum-occurrences q q.time j (walk_from q j) walked.is-path ∙ path-time q (walk_from q j) ∙ walked.time

    -- At every node as many links of a walk leave as enter, but for its two ends.
    pub walk-balance :
        (i : ℕ) →
        sum_at q.links q.tail i (λ l. occurrences l (walk_from q j)) + one_if (eqb q.destination i)
        ≡ sum_at q.links q.head i (λ l. occurrences l (walk_from q j)) + one_if (eqb j i)
    walk-balance i =
        let p = walked.is-path in
        let a = sum-at-occurrences q q.tail i j (walk_from q j) p in
        let b = sum-at-occurrences q q.head i j (walk_from q j) p in
        omega (arith, path-balance q j (walk_from q j) p i)

  -- The destination has the walk of no links,
  pub walk-destination : walk_from q q.destination ≡ []
  walk-destination =
      same-walk q.destination 0 w.destination-node (distance-destination q w) 1 (omega arith)
      ∙ walk-stops q.head (next_links q) 0 q.destination (next-destination q w)

  -- and any other node's walk is its next link and the walk from there.
  pub walk-next :
      (j y : ℕ) → j < q.nodes → distance q j ≡ some y → (n : NextLink q j y) → walk_from q j ≡ n.link ∷ walk_from q (q.head n.link)
  walk-next j y h e n =
      let l = n.link in
      let t = n.through in
      let falls : t.rest < y = omega (arith, w.some-time l t.below, t.adds-up) in
      same-walk j y h e (suc y) (omega arith)
      ∙ walk-goes q.head (next_links q) y j l n.is-next
      ∙ ap (λ rest. l ∷ rest) (sym (same-walk (q.head l) t.rest (w.head-node l t.below) t.at_head y falls))
