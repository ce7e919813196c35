-- The bound: how far the cost of a table is from that of any table that carries the same trips.
use Rattle.std.specs.Prelude.{ℕ, ◌+◌, ◌*◌, ◌≤◌, ◌<◌, ◌≡◌, List}
use Rattle.std.proofs.Common.{mul-le-mul_left}
use Rattle.std.proofs.Math.Nat.{sub-add_cancel}
use native.Mathlib.Omega.{arith}
use Rattle.theory.specs.Network.{Network, Sound}
use Rattle.theory.specs.Flows.{times, Carries}
use Rattle.theory.specs.Routes.{routing}
use Rattle.theory.specs.Cost.{cost, least_times, spent_times, gap}
use Rattle.theory.specs.Laws.Consistent.{Consistent}
use Rattle.theory.specs.Laws.LeastTimes.{least-times-spent}
use Rattle.theory.specs.Laws.Tangent.{cost-tangent}

module _ (g : Network) (sound : Sound g) (share : ℕ) (table : List ℕ)
    (consistent : (k : ℕ) → k < g.commodities → Consistent (routing g (times g share table) k)) where
  -- The gap of a table that carries is never negative: the difference in its definition is exact.
  pub gap-exact : Carries g share table →
      gap g share table + share * least_times g (times g share table) ≡ spent_times g (times g share table) table
  unfolding gap
  gap-exact carries = sub-add_cancel (least-times-spent g sound share table carries (times g share table) consistent)

  -- The times spent are at most the gap + share × the least times, whatever the table.
  spent-le : spent_times g (times g share table) table ≤ gap g share table + share * least_times g (times g share table)
  unfolding gap
  spent-le = omega arith

  -- V × the cost of a table at share W is at most W × the cost of any table that carries at a share V + 64·V × the gap.
  pub bound : 1 ≤ share → (other : ℕ) (rival : List ℕ) → Carries g other rival →
      other * cost g share table ≤ share * cost g other rival + 64 * other * gap g share table
  bound some-share v z carries =
      let tangents = cost-tangent g sound share v some-share table z in
      let least = mul-le-mul_left share (least-times-spent g sound v z carries (times g share table) consistent) in
      let spent = mul-le-mul_left v spent-le in
      omega arith
