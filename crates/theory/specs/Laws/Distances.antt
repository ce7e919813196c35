-- Distances are the least sums of link times over paths, and the one solution of three conditions on the two ends of a link.
use Rattle.std.specs.Prelude.{ℕ, zero, suc, ◌+◌, ◌≤◌, ◌<◌, ◌≡◌, refl, true, List, [], ◌∷◌, ◌≢◌, length}
use Rattle.std.proofs.Common.{le_refl, arith, sym, ◌∙◌, ap}
use Rattle.std.proofs.Math.Option.{Option, none, some, some-injective}
use Rattle.theory.specs.Routes.{Routing, IsPath, path_time, distances, distance, is_some}
use Rattle.theory.specs.Laws.Cases.{on-equal, on-option, none-some, true-false}
use Rattle.theory.specs.Laws.Paths.{WellFormed, PathOf, simpler, simple-short}
use Rattle.theory.specs.Laws.Rounds.{AtMost, Through, length-rounds, rounds-sound, rounds-least}
use Rattle.theory.specs.Laws.Consistent.{Consistent}

-- The least sum of link times over the paths from a node, or none where the node has no path.
pub record LeastTime (q : Routing) (j : ℕ) (least : Option ℕ) : Type 0 where
  pub attained : (x : ℕ) → least ≡ some x → PathOf q j x
  pub at_most : (path : List ℕ) → IsPath q j path → AtMost least (path_time q path)

-- A node has one least time.
pub least-time-unique : (q : Routing) (j : ℕ) (a b : Option ℕ) → LeastTime q j a → LeastTime q j b → a ≡ b
least-time-unique q j a b r s = on-option a without within
  where
    without : a ≡ none → a ≡ b
    without e =
        on-option b (λ f. e ∙ sym f) (λ y f.
        let (path, p, t) = s.attained y f in
        let (x, g, m) = r.at_most path p in
        none-some e g)

    within : (x : ℕ) → a ≡ some x → a ≡ b
    within x e =
        let (path, p, t) = r.attained x e in
        let (y, f, m) = s.at_most path p in
        let (path', p', t') = s.attained y f in
        let (x', e', m') = r.at_most path' p' in
        let same : x' ≡ x = some-injective x' x (sym e' ∙ e) in
        let equal : x ≡ y = omega arith in
        e ∙ ap {B = Option ℕ} some equal ∙ sym f

-- There is a distance, or none, for each node.
pub length-distances : (q : Routing) → length (distances q) ≡ q.nodes
unfolding distances
length-distances q = length-rounds q q.nodes

-- The three conditions on numbers by node: the destination has 0; over a usable link whose head has a number the tail has one too, at
-- most the link's time larger; and any other node's number is attained through a usable link whose head has a number.
pub record Solves (q : Routing) (e : ℕ → Option ℕ) : Type 0 where
  pub at-destination : e q.destination ≡ some 0
  pub over-link :
      (l x : ℕ) → l < q.links → q.usable l ≡ true → e (q.head l) ≡ some x → AtMost (e (q.tail l)) (q.time l + x)
  pub attained : (j y : ℕ) → j < q.nodes → j ≢ q.destination → e j ≡ some y → (l : ℕ) × Through q e j y l

module _ (q : Routing) (w : WellFormed q) where
  -- As many rounds as there are nodes reach every path.
  pub path-distance : (j : ℕ) (path : List ℕ) → IsPath q j path → AtMost (distance q j) (path_time q path)
  unfolding distances
  path-distance j path p =
      let s = simpler q j path p in
      let short = simple-short q w j s.links s.is-path s.simple in
      let (y, e, m) = rounds-least q w q.nodes j s.links s.is-path short in
      (y, e, omega (arith, s.no-slower))

  -- A node's distance is the time of one of its paths.
  pub distance-path : (j x : ℕ) → j < q.nodes → distance q j ≡ some x → PathOf q j x
  unfolding distances
  distance-path j x h e = let (path, p, t, short) = rounds-sound q w q.nodes j x h e in (path, p, t)

  -- So it is the least sum of link times over the node's paths.
  pub distance_least : (j : ℕ) → j < q.nodes → LeastTime q j (distance q j)
  distance_least j h = record { attained = λ x e. distance-path j x h e; at_most = path-distance j }

  -- The distance of the destination is 0.
  pub distance-destination : distance q q.destination ≡ some 0
  distance-destination =
      let (y, e, m) = path-distance q.destination [] refl in
      let zero : y ≡ 0 = omega arith in
      e ∙ ap {B = Option ℕ} some zero

  pub destination-time : (j y : ℕ) → j ≡ q.destination → distance q j ≡ some y → y ≡ 0
  destination-time j y f e = some-injective y 0 (sym e ∙ ap (distance q) f ∙ distance-destination)

  -- Over a usable link whose head has a distance the tail has one too, at most the link's time larger.
  pub distance-over-link :
      (l x : ℕ) → l < q.links → q.usable l ≡ true → distance q (q.head l) ≡ some x →
      AtMost (distance q (q.tail l)) (q.time l + x)
  distance-over-link l x h u e =
      let (path, p, t) = distance-path (q.head l) x (w.head-node l h) e in
      let (y, f, m) = path-distance (q.tail l) (l ∷ path) (h, u, refl, p) in
      (y, f, omega arith)

  -- A distance other than the destination's is attained through a link.
  pub distance-attained :
      (j y : ℕ) → j < q.nodes → j ≢ q.destination → distance q j ≡ some y → (l : ℕ) × Through q (distance q) j y l
  distance-attained j y h n e = let (path, p, t) = distance-path j y h e in first-link path p t
    where
      first-link : (path : List ℕ) → IsPath q j path → path_time q path ≡ y → (l : ℕ) × Through q (distance q) j y l
      first-link [] p t = absurd (n p)
      first-link (l ∷ path) p t =
          let (x, f, m) = path-distance (q.head l) path p.3 in
          let (y', e', m') = distance-over-link l x p.0 p.1 f in
          let same : y' ≡ y = some-injective y' y (sym e' ∙ ap (distance q) p.2 ∙ e) in
          (l, record { below = p.0; usable = p.1; leaves = p.2; rest = x; at_head = f; adds-up = omega arith })

  -- Distances meet the three conditions,
  pub distance-solves : Solves q (distance q)
  distance-solves = record { at-destination = distance-destination; over-link = distance-over-link; attained = distance-attained }

  -- the first two of which make them consistent,
  pub consistent : Consistent q
  consistent = record { at-destination = distance-destination; over-link = distance-over-link }

  module _ (e : ℕ → Option ℕ) (s : Solves q e) where
    at-end : (j x : ℕ) → e j ≡ some x → j ≡ q.destination → PathOf q j x
    at-end j x f d = ([], d, some-injective 0 x (sym s.at-destination ∙ ap e (sym d) ∙ f))

    -- What meets the conditions has a path for each number, by the links through which numbers are attained: times are at least 1, so
    -- the numbers fall along it.
    solution-path : (most j x : ℕ) → x ≤ most → j < q.nodes → e j ≡ some x → PathOf q j x
    solution-path zero j x m h f =
        on-equal j q.destination (at-end j x f) (λ n.
        let (l, t) = s.attained j x h n f in
        absurd (omega (arith, w.some-time l t.below, t.adds-up)))
    solution-path (suc most) j x m h f =
        on-equal j q.destination (at-end j x f) (λ n.
        let (l, t) = s.attained j x h n f in
        let falls : t.rest ≤ most = omega (arith, w.some-time l t.below, t.adds-up) in
        let (path, p, sum) = solution-path most (q.head l) t.rest falls (w.head-node l t.below) t.at_head in
        (l ∷ path, (t.below, t.usable, t.leaves, p), omega (arith, t.adds-up)))

    solution-at-most : (j : ℕ) (path : List ℕ) → IsPath q j path → AtMost (e j) (path_time q path)
    solution-at-most j [] p = (0, ap e p ∙ s.at-destination, le_refl 0)
    solution-at-most j (l ∷ path) p =
        let (x, f, m) = solution-at-most (q.head l) path p.3 in
        let (y, g, n) = s.over-link l x p.0 p.1 f in
        (y, ap e (sym p.2) ∙ g, omega arith)

    solution-least : (j : ℕ) → j < q.nodes → LeastTime q j (e j)
    solution-least j h = record { attained = λ x f. solution-path x j x (le_refl x) h f; at_most = solution-at-most j }

    -- and nothing else meets all three.
    pub solution-unique : (j : ℕ) → j < q.nodes → e j ≡ distance q j
    solution-unique j h = least-time-unique q j (e j) (distance q j) (solution-least j h) (distance_least j h)

-- A routing with other times.
abbrev pub with_times : Routing → (ℕ → ℕ) → Routing
with_times q time =
    record {
      nodes = q.nodes;
      links = q.links;
      tail = q.tail;
      head = q.head;
      usable = q.usable;
      destination = q.destination;
      time = time;
    }

-- Times make no difference to what is a path,
path-with-times : (q : Routing) (time : ℕ → ℕ) (j : ℕ) (path : List ℕ) → IsPath q j path → IsPath (with_times q time) j path
path-with-times q time j [] p = p
path-with-times q time j (l ∷ path) p = (p.0, p.1, p.2, path-with-times q time (q.head l) path p.3)

still-some :
    (q : Routing) → WellFormed q → (time : ℕ → ℕ) → WellFormed (with_times q time) → (j x : ℕ) → j < q.nodes →
    distance q j ≡ some x → is_some (distance (with_times q time) j) ≡ true
still-some q w time w' j x h e =
    let (path, p, t) = distance-path q w j x h e in
    let (y, f, m) = path-distance (with_times q time) w' j path (path-with-times q time j path p) in
    ap is_some f

-- nor to which nodes have a distance, as long as every time is at least 1.
pub distance-with-times :
    (q : Routing) → WellFormed q → (time : ℕ → ℕ) → WellFormed (with_times q time) → (j : ℕ) → j < q.nodes →
    is_some (distance (with_times q time) j) ≡ is_some (distance q j)
distance-with-times q w time w' j h =
    on-option (distance q j) without (λ x e. still-some q w time w' j x h e ∙ sym (ap is_some e))
  where
    without : distance q j ≡ none → is_some (distance (with_times q time) j) ≡ is_some (distance q j)
    without e =
        on-option (distance (with_times q time) j)
        (λ f. ap is_some f ∙ sym (ap is_some e))
        (λ x f. true-false (still-some (with_times q time) w' q.time w j x h f) (ap is_some e))
