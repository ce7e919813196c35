-- Paths by what they count: times, visits of nodes, and the way to a path that visits no node twice.
use Rattle.std.specs.Prelude.{ℕ, ◌+◌, ◌*◌, ◌≤◌, ◌<◌, ◌≡◌, refl, Bool, true, false, cond, ◌≢◌, length, eqb}
use Rattle.std.proofs.Common.{eq-zero-or-pos, sym, ◌∙◌, ap, ⊎_elim, eq-eqb, ne_eqb}
use native.Mathlib.Omega.{arith}
use mathlib.Core.List.{List, [], ◌∷◌}
use Rattle.theory.specs.Finite.{sum}
use Rattle.theory.specs.Flows.{sum_at}
use Rattle.theory.specs.Routes.{Routing, IsPath, path_time, occurrences}
use Rattle.theory.specs.Laws.Cases.{on-equal, on_test}
use Rattle.theory.specs.Laws.Finite.{sum-cong, sum-add, sum-zero, sum-pick, sum_bound}

-- What the laws ask of a routing: ends of links and the destination are nodes, and every time is at least 1.
pub record WellFormed (q : Routing) : Type 0 where
  pub tail-node : (l : ℕ) → l < q.links → q.tail l < q.nodes
  pub head-node : (l : ℕ) → l < q.links → q.head l < q.nodes
  pub destination-node : q.destination < q.nodes
  pub some-time : (l : ℕ) → l < q.links → 1 ≤ q.time l

-- A path from a node, of a given time.
abbrev pub PathOf : Routing → ℕ → ℕ → Type 0
PathOf q j x = (path : List ℕ) × IsPath q j path × (path_time q path ≡ x)

-- 1 where a test holds, otherwise 0.
abbrev pub one_if : Bool → ℕ
one_if b = cond b 1 0

-- The sum of a weight over the links of a path.
unfoldable pub path_sum : (ℕ → ℕ) → List ℕ → ℕ
path_sum weight [] = 0
path_sum weight (l ∷ path) = weight l + path_sum weight path

-- How many links of a path have the node as their end (tail or head).
abbrev pub ends_at : (ℕ → ℕ) → ℕ → List ℕ → ℕ
ends_at end i path = path_sum (λ l. one_if (eqb (end l) i)) path

-- The time of a path is the sum of its links' times.
pub path-time : (q : Routing) (path : List ℕ) → path_sum q.time path ≡ path_time q path
unfolding path_sum
path-time q [] = refl
path-time q (l ∷ path) = ap (λ x. q.time l + x) (path-time q path)

-- A path leaves a node as often as it enters it, but for its two ends.
pub path-balance :
    (q : Routing) (j : ℕ) (path : List ℕ) → IsPath q j path → (i : ℕ) →
    ends_at q.tail i path + one_if (eqb q.destination i) ≡ ends_at q.head i path + one_if (eqb j i)
unfolding path_sum
path-balance q j [] p i = ap (λ x. 0 + one_if (eqb x i)) (sym p)
path-balance q j (l ∷ path) p i =
    let a = path-balance q (q.head l) path p.3 i in
    let b : one_if (eqb (q.tail l) i) ≡ one_if (eqb j i) = ap (λ x. one_if (eqb x i)) p.2 in
    omega arith

-- The sum of a weight over a path's links, counted link by link.
pub sum-occurrences :
    (q : Routing) (weight : ℕ → ℕ) (j : ℕ) (path : List ℕ) → IsPath q j path →
    sum q.links (λ l. weight l * occurrences l path) ≡ path_sum weight path
unfolding path_sum
sum-occurrences q weight j [] p = sum-zero q.links (λ l. weight l * 0) (λ l h. omega arith)
sum-occurrences q weight j (x ∷ path) p =
    let a = sum-occurrences q weight (q.head x) path p.3 in
    let b = sum-pick q.links weight x p.0 in
    let c = sum-add q.links (λ l. cond (eqb x l) (weight l) 0) (λ l. weight l * occurrences l path) in
    let d = sum-cong q.links (λ l. weight l * occurrences l (x ∷ path)) _ (λ l h. at l) in
    omega arith
  where
    at : (l : ℕ) → weight l * occurrences l (x ∷ path) ≡ cond (eqb x l) (weight l) 0 + weight l * occurrences l path
    at l = on_test (eqb x l) (λ e. rw e (omega arith)) (λ e. rw e (omega arith))

-- The sum of an amount over the links at a node, as a sum over all links.
pub sum-at-weight :
    (links : ℕ) (end : ℕ → ℕ) (i : ℕ) (amount : ℕ → ℕ) →
    sum_at links end i amount ≡ sum links (λ l. one_if (eqb (end l) i) * amount l)
unfolding sum_at
sum-at-weight links end i amount = sum-cong links _ _ (λ l h. at (eqb (end l) i) (amount l))
  where
    at : (t : Bool) (x : ℕ) → cond t x 0 ≡ one_if t * x
    at true x = omega arith
    at false x = omega arith

-- A path's links at a node, counted link by link.
pub sum-at-occurrences :
    (q : Routing) (end : ℕ → ℕ) (i j : ℕ) (path : List ℕ) → IsPath q j path →
    sum_at q.links end i (λ l. occurrences l path) ≡ ends_at end i path
sum-at-occurrences q end i j path p =
    sum-at-weight q.links end i (λ l. occurrences l path) ∙ sum-occurrences q (λ l. one_if (eqb (end l) i)) j path p

-- A path that visits no node twice: it leaves each node at most once, and the destination never.
abbrev pub Simple : Routing → List ℕ → Type 0
Simple q path = (i : ℕ) → ends_at q.tail i path + one_if (eqb q.destination i) ≤ 1

-- The path of no links is such a path,
pub simple-none : (q : Routing) → Simple q []
unfolding path_sum
simple-none q i = at_most_one (eqb q.destination i)
  where
    at_most_one : (t : Bool) → 0 + one_if t ≤ 1
    at_most_one true = omega arith
    at_most_one false = omega arith

-- and stays one with a link in front whose tail is not the destination and is not left otherwise.
pub simple-more :
    (q : Routing) (l : ℕ) (path : List ℕ) →
    Simple q path → ends_at q.tail (q.tail l) path ≡ 0 → q.tail l ≢ q.destination → Simple q (l ∷ path)
unfolding path_sum
simple-more q l path s z away i = on-equal (q.tail l) i here elsewhere
  where
    here : q.tail l ≡ i → ends_at q.tail i (l ∷ path) + one_if (eqb q.destination i) ≤ 1
    here e =
        let a : one_if (eqb (q.tail l) i) ≡ 1 = rw (eq-eqb (q.tail l) i e) in
        let b : ends_at q.tail i path ≡ 0 = ap (λ k. ends_at q.tail k path) (sym e) ∙ z in
        let c : one_if (eqb q.destination i) ≡ 0 = rw (ne_eqb q.destination i (λ f. away (e ∙ sym f))) in
        omega arith

    elsewhere : q.tail l ≢ i → ends_at q.tail i (l ∷ path) + one_if (eqb q.destination i) ≤ 1
    elsewhere n =
        let a : one_if (eqb (q.tail l) i) ≡ 0 = rw (ne_eqb (q.tail l) i n) in
        omega (arith, s i)

module _ (q : Routing) (w : WellFormed q) where
  -- Each link of a path leaves one node.
  sum-ends : (j : ℕ) (path : List ℕ) → IsPath q j path → sum q.nodes (λ i. ends_at q.tail i path) ≡ length path
  unfolding path_sum
  sum-ends j [] p = sum-zero q.nodes (λ i. 0) (λ i h. refl)
  sum-ends j (l ∷ path) p =
      let a = sum-ends (q.head l) path p.3 in
      let b = sum-pick q.nodes (λ i. 1) (q.tail l) (w.tail-node l p.0) in
      let c = sum-add q.nodes (λ i. one_if (eqb (q.tail l) i)) (λ i. ends_at q.tail i path) in
      omega arith

  -- A path that visits no node twice has fewer links than there are nodes.
  pub simple-short : (j : ℕ) (path : List ℕ) → IsPath q j path → Simple q path → length path < q.nodes
  simple-short j path p s =
      let a = sum-ends j path p in
      let b = sum-pick q.nodes (λ i. 1) q.destination w.destination-node in
      let c = sum-add q.nodes (λ i. ends_at q.tail i path) (λ i. one_if (eqb q.destination i)) in
      let d = sum_bound q.nodes 1 _ (λ i h. s i) in
      omega arith

-- The rest of a path from a node that it leaves.
record Rest (q : Routing) (i : ℕ) (path : List ℕ) : Type 0 where
  links : List ℕ
  is-path : IsPath q i links
  no-slower : path_time q links ≤ path_time q path
  no_more : (k : ℕ) → ends_at q.tail k links ≤ ends_at q.tail k path

rest_from : (q : Routing) (i j : ℕ) (path : List ℕ) → IsPath q j path → 1 ≤ ends_at q.tail i path → Rest q i path
unfolding path_sum
rest_from q i j [] p h = absurd (omega arith)
rest_from q i j (l ∷ path) p h = on-equal (q.tail l) i here (λ n. later (rest_from q i (q.head l) path p.3 (beyond n)))
  where
    here : q.tail l ≡ i → Rest q i (l ∷ path)
    here e = record { links = l ∷ path; is-path = (p.0, p.1, e, p.3); no-slower = omega arith; no_more = λ k. omega arith }

    beyond : q.tail l ≢ i → 1 ≤ ends_at q.tail i path
    beyond n = let e : one_if (eqb (q.tail l) i) ≡ 0 = rw (ne_eqb (q.tail l) i n) in omega arith

    later : Rest q i path → Rest q i (l ∷ path)
    later r =
        record {
          links = r.links;
          is-path = r.is-path;
          no-slower = omega arith;
          no_more = λ k. omega (arith, r.no_more k);
        }

-- A path no slower than another, that visits no node twice.
pub record Simpler (q : Routing) (j : ℕ) (path : List ℕ) : Type 0 where
  pub links : List ℕ
  pub is-path : IsPath q j links
  pub no-slower : path_time q links ≤ path_time q path
  pub simple : Simple q links

-- At the destination it is the path of no links.
stopped : (q : Routing) (j : ℕ) (path : List ℕ) → j ≡ q.destination → Simpler q j path
stopped q j path e = record { links = []; is-path = e; no-slower = omega arith; simple = simple-none q }

-- One link more: where the path beyond it comes back to the node, the rest from there serves.
extended :
    (q : Routing) (j l : ℕ) (path : List ℕ) →
    IsPath q j (l ∷ path) → j ≢ q.destination → Simpler q (q.head l) path → Simpler q j (l ∷ path)
extended q j l path p away r = ⊎_elim fresh again (eq-zero-or-pos (ends_at q.tail j r.links))
  where
    fresh : ends_at q.tail j r.links ≡ 0 → Simpler q j (l ∷ path)
    fresh z =
        let unvisited : ends_at q.tail (q.tail l) r.links ≡ 0 = ap (λ k. ends_at q.tail k r.links) p.2 ∙ z in
        record {
          links = l ∷ r.links;
          is-path = (p.0, p.1, p.2, r.is-path);
          no-slower = omega arith;
          simple = simple-more q l r.links r.simple unvisited (λ e. away (sym p.2 ∙ e));
        }

    again : 0 < ends_at q.tail j r.links → Simpler q j (l ∷ path)
    again h =
        let s = rest_from q j (q.head l) r.links r.is-path h in
        record {
          links = s.links;
          is-path = s.is-path;
          no-slower = omega arith;
          simple = λ i. omega (arith, s.no_more i, r.simple i);
        }

-- Every path has one: what lies between two visits of a node is left out.
pub simpler : (q : Routing) (j : ℕ) (path : List ℕ) → IsPath q j path → Simpler q j path
simpler q j [] p = stopped q j [] p
simpler q j (l ∷ path) p =
    let r = simpler q (q.head l) path p.3 in
    on-equal j q.destination (stopped q j (l ∷ path)) (λ away. extended q j l path p away r)
