-- `rows_permit` meets its contract: the links before l carry no flow that they may not.
use Prim.Native.Nat.{◌-◌, ◌≤◌}
use mathlib.Core.Path.{◌≡◌}
use mathlib.Core.Bool.{true}
use lib.ListN.{length}
use Rattle.theory.specs.Finite.{all}
use Rattle.questions.specs.Rows.{link_permits}
use Rattle.questions.proofs.table.rows_permit.Given as goal

abbrev pub invariant-loop-l : goal.invariant-loop-l
invariant-loop-l l =
    (l.l ≤ length l.links) × (all l.l (link_permits l.links l.commodities l.table) ≡ true)

abbrev pub decreases-loop-l : goal.decreases-loop-l
decreases-loop-l l = length l.links - l.l
