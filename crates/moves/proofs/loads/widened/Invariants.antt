-- `widened` meets its contract. The invariant: the first `l` numbers are written. The measure is what is left of the links.
use Prim.Native.Nat.{◌-◌, ◌≤◌}
use mathlib.Core.Path.{◌≡◌}
use lib.ListN.{get_or}
use Rattle.moves.specs.Loading.{front}
use Rattle.moves.proofs.loads.widened.Given as goal

abbrev pub invariant-loop-l : goal.invariant-loop-l
invariant-loop-l l = (l.l ≤ l.m) × (l.totals ≡ front l.l (λ i. get_or l.sums i 0) l.initial.totals)

abbrev pub decreases-loop-l : goal.decreases-loop-l
decreases-loop-l l = l.m - l.l
