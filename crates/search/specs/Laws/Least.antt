-- The sum of trips × least time is added up node by node, destination by destination and group by group.
use Prim.Native.Nat.{ℕ, zero, suc, ◌+◌, ◌*◌, ◌-◌, ◌≤◌, ◌<◌, min}
use Rattle.std.proofs.Common.{mul-le-mul, mul-le-mul_right, sym, ◌∙◌, get_or-take, get_or-drop}
use native.Mathlib.Omega.{arith}
use Rattle.std.specs.Prelude.{◌≡◌, List, [], get_or, take, drop}
use Rattle.std.proofs.Math.Path.{refl, ap}
use Rattle.std.proofs.Math.ListN.{length}
use Rattle.theory.specs.Finite.{sum}
use Rattle.theory.specs.Laws.Finite.{sum-suc, sum-cong, sum-zero}
use Rattle.search.specs.Search.{routing_from, unreached, marks}
use Rattle.search.specs.Lanes.{lane, Found}
use Rattle.search.specs.Groups.{Unused, least_over, Member}
use Rattle.search.specs.Least.{most_at_node, LeastTo, LeastToFirst, least_below}
use Rattle.search.specs.Laws.Lanes.{lane-at}
use Rattle.search.specs.Laws.Trips.{trips-to, trips-to-at}

-- Trips × mark at a node.
pub node-most : (t v : ℕ) → t < 65536 → v ≤ unreached → t * v ≤ most_at_node
node-most t v h b = mul-le-mul {n₁ = t} {m₁ = v} {n₂ = 65535} {m₂ = unreached} (omega arith) b

-- The nodes are added one by one.
module _ (trips : List ℕ) (table : List (List ℕ)) (k : ℕ) where
  pub least-none : LeastTo trips table k 0 0
  unfolding sum
  least-none = record { is = refl; most = omega arith }

  pub least_more : (j r : ℕ) → j < 128 → get_or trips j 0 < 65536 → get_or (get_or table j []) k 0 ≤ unreached → LeastTo trips table k j r
      → LeastTo trips table k (j + 1) (r + get_or trips j 0 * get_or (get_or table j []) k 0)
  least_more j r h small marked w =
      let same : get_or trips j 0 * get_or (get_or table j []) k 0 ≡ get_or trips j 0 * get_or (lane k table) j 0 =
      ap (λ v. get_or trips j 0 * v) (sym (lane-at k table j h)) in
      record {
        is = omega (arith, w.is, same, sum-suc j (λ i. get_or trips i 0 * get_or (lane k table) i 0));
        most = omega (arith, w.most, node-most (get_or trips j 0) (get_or (get_or table j []) k 0) small marked);
      }

-- The destinations of a group are added one by one.
module _ (nodes : ℕ) (trips : List ℕ) (table : List (List ℕ)) where
  pub first-none : LeastToFirst nodes trips table 0 0
  unfolding sum
  first-none = record { is = refl; most = omega arith }

  pub first-more : (k r s : ℕ) → nodes ≤ 128 → LeastToFirst nodes trips table k r
      → LeastTo (take nodes (drop (k * nodes) trips)) table k nodes s → LeastToFirst nodes trips table (k + 1) (r + s)
  first-more k r s few w v =
      let at_most = mul-le-mul_right most_at_node few in
      record {
        is = omega (arith, w.is, v.is, here, sum-suc k of);
        most = omega (arith, w.most, v.most, at_most);
      }
    where
      of : ℕ → ℕ
      of i = sum nodes (λ j. get_or trips (i * nodes + j) 0 * get_or (lane i table) j 0)

      here : sum nodes (λ j. get_or (take nodes (drop (k * nodes) trips)) j 0 * get_or (lane k table) j 0) ≡ of k
      here =
          sum-cong nodes _ _
          (λ j h. ap (λ x. x * get_or (lane k table) j 0) (get_or-take nodes (drop (k * nodes) trips) j 0 h ∙ get_or-drop (k * nodes) trips j 0))

-- Eight destinations at most are in a group.
pub first-adds : {nodes k r : ℕ} {trips : List ℕ} {table : List (List ℕ)} → LeastToFirst nodes trips table k r → k ≤ 8 → r ≤ 8 * (128 * most_at_node)
first-adds {nodes} {k} w h =
    let few : k * (128 * most_at_node) ≤ 8 * (128 * most_at_node) = mul-le-mul_right {m = k} {n = 8} (128 * most_at_node) h in
    omega (arith, w.most)

-- A sum in two parts.
sum-parts : (a b : ℕ) (f : ℕ → ℕ) → sum (a + b) f ≡ sum a f + sum b (λ i. f (a + i))
unfolding sum
sum-parts a zero f = let e : a + 0 ≡ a = omega arith in rw e (omega arith)
sum-parts a (suc b) f = let e : a + suc b ≡ suc (a + b) = omega arith in rw e (omega (arith, sum-parts a b f))

-- The groups are added one after the other.
module _ (nodes : ℕ) (links : List (List ℕ)) (destinations trips times : List ℕ) where
  pub all_none : least_below nodes links destinations trips times (min 0 (length destinations)) ≡ 0
  unfolding least_below sum
  all_none = let e : min 0 (length destinations) ≡ 0 = omega arith in rw e refl

  module _ {first past : ℕ} (h : first < length destinations) (past≡ : past ≡ min (first + 8) (length destinations)) {r : ℕ}
      (w : r ≡ least_below nodes links destinations trips times (min first (length destinations))) where
    abbrev at : ℕ → ℕ
    at q = sum nodes (λ j. get_or trips (q * nodes + j) 0 * get_or (marks (routing_from nodes links times (get_or destinations q 0))) j 0)

    -- What a group adds,
    adds : (s : ℕ) → s ≡ sum (past - first) (λ i. at (first + i))
        → r + s ≡ least_below nodes links destinations trips times (min (first + 8) (length destinations))
    unfolding least_below
    adds s e =
        let before : min first (length destinations) ≡ first = omega arith in
        let whole : min (first + 8) (length destinations) ≡ first + (past - first) = omega arith in
        let so_far : r ≡ sum first at = w ∙ ap (λ k. sum k at) before in
        omega (arith, so_far, e, sum-parts first (past - first) at, ap (λ k. sum k at) whole)

    -- by its marks,
    pub all_more : {group : List ℕ} {table : List (List ℕ)} {s : ℕ} → past * nodes ≤ length trips → ((i : ℕ) → i < 8 → Member destinations first i (get_or group i 0))
        → Found nodes links times group table → LeastToFirst nodes (trips-to nodes trips first past) table (past - first) s
        → r + s ≡ least_below nodes links destinations trips times (min (first + 8) (length destinations))
    all_more {group} {table} {s} long members found v =
        adds s (v.is ∙ sum-cong (past - first) _ _ (λ i b. same i b))
      where
        same : (i : ℕ) → i < past - first
            → sum nodes (λ j. get_or (trips-to nodes trips first past) (i * nodes + j) 0 * get_or (lane i table) j 0) ≡ at (first + i)
        same i b =
            let one = members i (omega arith) in
            let is : get_or group i 0 ≡ get_or destinations (first + i) 0 = one.is ∙ ap (λ a. get_or destinations a 0) (one.own (omega arith)) in
            sum-cong nodes _ _
            (λ j h. ap (λ x. x * get_or (lane i table) j 0) (trips-to-at nodes trips first past (omega arith) long i b j h)
            ∙ ap (λ d. get_or trips ((first + i) * nodes + j) 0 * get_or d j 0)
            (found.least i (omega arith) ∙ ap (λ s. marks (routing_from nodes links times s)) is))

    -- which is nothing where nobody goes there.
    pub all-skip : Unused nodes trips first past → r ≡ least_below nodes links destinations trips times (min (first + 8) (length destinations))
    all-skip nobody =
        let nothing : 0 ≡ sum (past - first) (λ i. at (first + i)) =
        sym (sum-zero (past - first) _
        (λ i b. sum-zero nodes _ (λ j c. rw (nobody (first + i) (omega arith) (omega arith) j c) (omega arith)))) in
        omega (arith, adds 0 nothing)

  -- All destinations are below the last.
  pub all-below : {k : ℕ} → length destinations ≤ k
      → least_below nodes links destinations trips times (min k (length destinations)) ≡ least_over nodes links destinations trips times
  unfolding least_below least_over
  all-below {k} h = let e : min k (length destinations) ≡ length destinations = omega arith in rw e refl
