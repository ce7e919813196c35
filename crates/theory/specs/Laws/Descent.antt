-- Cost per share does not rise along a pass's moves.
use Rattle.std.specs.Prelude.{ℕ, ◌+◌, ◌*◌, ◌-◌, ◌≤◌, min, ◌≡◌, true, List}
use Rattle.std.proofs.Math.Nat.{mul-le-mul_left}
use Rattle.std.proofs.Common.{mul_comm, sym, ◌∙◌, leb-true}
use native.Mathlib.Omega.{arith}
use Rattle.std.proofs.Math.Path.{ap, subst₂}
use Rattle.std.proofs.Math.Option.{some}
use Rattle.std.proofs.Math.ListN.{get_or}
use Rattle.theory.specs.Network.{Network, Sound}
use Rattle.theory.specs.Flows.{total, times, step}
use Rattle.theory.specs.Cost.{staircase, link_cost, cost, spent_times}
use Rattle.theory.specs.Moves.{Shared, moved_times, qualifies, added, doubled, move}
use Rattle.theory.specs.Laws.Finite.{sum-cong, sum-scale}
use Rattle.theory.specs.Laws.Inequalities.{sum_both}
use Rattle.theory.specs.Laws.Times.{times-at}
use Rattle.theory.specs.Laws.Tables.{total-added, total-doubled}
use Rattle.theory.specs.Laws.Tangent.{cost-tangent}
use Rattle.theory.specs.Laws.Moves.{Pass, adds, doubles, moved, loading_of, chosen_of}

module _ (g : Network) (share : ℕ) (table : List ℕ) (j : ℕ) (y : List ℕ) where
  -- The sums in the choice of j are what tables spend at the times of the table with j·Y added.
  pub moved-spent : (other : List ℕ) →
      moved_times g share (total g table) (total g y) j (total g other) ≡ spent_times g (times g (share + j) (added g table j y)) other
  unfolding moved_times spent_times
  moved-spent other =
      sum-cong g.links _ _ (λ l p.
      rw (times-at g (share + j) (added g table j y) l p)
      (mul_comm (total g other l) _
      ∙ ap (λ n. g.height l (step (g.capacity l) (share + j) n) * total g other l) (sym (total-added g table j y l p))))

  -- The table with j·Y added spends what the table does, and j times what Y does.
  spent-added : (t : List ℕ) → spent_times g t (added g table j y) ≡ 1 * spent_times g t table + j * spent_times g t y
  unfolding spent_times
  spent-added t =
      sum-cong g.links _ _ (λ l p. rw (total-added g table j y l p) (omega arith))
      ∙ sum_both g.links 1 j (λ l. get_or t l 0 * total g table l) (λ l. get_or t l 0 * total g y l)

  -- Where j qualifies, W × the cost with j·Y added is at most (W + j) × the cost before.
  pub descent : Sound g → 1 ≤ share → qualifies g share (total g table) (total g y) j ≡ true →
      share * cost g (share + j) (added g table j y) ≤ (share + j) * cost g share table
  unfolding qualifies
  descent sound some-share q =
      let t = times g (share + j) (added g table j y) in
      let tangents = cost-tangent g sound (share + j) share (omega arith) (added g table j y) table in
      let spent = ap (λ n. share * n) (spent-added t) in
      let falls : share * spent_times g t y ≤ spent_times g t table =
      subst₂ (λ m n. share * m ≤ n) (moved-spent y) (moved-spent table) (leb-true _ _ q)
      in
      let scaled = mul-le-mul_left j falls in
      omega arith

-- A staircase with treads twice as wide, up to twice x, has twice the area.
staircase-doubled : (treads : ℕ) (h : ℕ → ℕ) (width x : ℕ) → staircase treads h (2 * width) (2 * x) ≡ 2 * staircase treads h width x
unfolding staircase
staircase-doubled treads h width x =
    let parts =
    sum-cong treads (λ r. h r * min (2 * width) (2 * x - r * (2 * width))) (λ r. 2 * (h r * min width (x - r * width))) (λ r p.
    rw (part-doubled r) (omega arith))
    ∙ sum-scale treads 2 (λ r. h r * min width (x - r * width))
    in
    let rest : 2 * x - treads * (2 * width) ≡ 2 * (x - treads * width) = omega arith in
    rw (parts, rest) (omega arith)
  where
    part-doubled : (r : ℕ) → min (2 * width) (2 * x - r * (2 * width)) ≡ 2 * min width (x - r * width)
    part-doubled r = omega arith

-- Both doubled, the cost doubles.
pub cost-doubled : (g : Network) (share : ℕ) (table : List ℕ) → cost g (2 * share) (doubled g table) ≡ 2 * cost g share table
unfolding cost link_cost
cost-doubled g share table =
    sum-cong g.links _ (λ l. 2 * link_cost (g.height l) (g.capacity l) share (total g table l)) (λ l p.
    let width : g.capacity l * (2 * share) ≡ 2 * (g.capacity l * share) = omega arith in
    let flow : 64 * (2 * total g table l) ≡ 2 * (64 * total g table l) = omega arith in
    rw (total-doubled g table l p, width, flow) (staircase-doubled 256 (g.height l) (g.capacity l * share) (64 * total g table l)))
    ∙ sum-scale g.links 2 (λ l. link_cost (g.height l) (g.capacity l) share (total g table l))

-- A move does not raise cost ÷ share.
pub move-descent : (g : Network) → Sound g → (x x' : Shared) → 1 ≤ x.share → move g x ≡ some x' →
    x.share * cost g x'.share x'.table ≤ x'.share * cost g x.share x.table
move-descent g sound x x' some-share e = go x' (moved g x x' e)
  where
    go : (x' : Shared) → Pass g x (some x') → x.share * cost g x'.share x'.table ≤ x'.share * cost g x.share x.table
    go x' (adds some-j fits q) = descent g x.share x.table (chosen_of g x) (loading_of g x) sound some-share q
    go x' (doubles none-chosen fits) = rw (cost-doubled g x.share x.table) (omega arith)
