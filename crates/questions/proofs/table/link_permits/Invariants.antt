-- `link_permits` meets its contract: the link may carry the flow of each commodity before k.
use Prim.Native.Nat.{◌-◌, ◌≤◌}
use mathlib.Core.Path.{◌≡◌}
use mathlib.Core.Bool.{true}
use lib.ListN.{length}
use Rattle.theory.specs.Finite.{all}
use Rattle.questions.specs.Laws.Rows.{carry_test}
use Rattle.questions.proofs.table.link_permits.Given as goal

abbrev pub invariant-loop-k : goal.invariant-loop-k
invariant-loop-k l =
    (l.k ≤ length l.commodities) × (all l.k (carry_test l.links l.commodities l.table l.l) ≡ true)

abbrev pub decreases-loop-k : goal.decreases-loop-k
decreases-loop-k l = length l.commodities - l.k
