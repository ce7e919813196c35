-- `questions::total_trips` meets its contract: the total of the entries before i.
use lib.ListN.{length, get_or}
use mathlib.Core.Path.{◌≡◌}
use Prim.Native.Nat.{◌*◌, ◌≤◌, ◌-◌}
use Rattle.theory.specs.Finite.{sum}
use Rattle.questions.proofs.fields.total_trips.Given as goal

abbrev pub invariant-loop-i : goal.invariant-loop-i
invariant-loop-i l =
    (l.i ≤ length l.trips) × (l.total ≡ sum l.i (λ e. get_or l.trips e 0)) × (l.total ≤ l.i * 65535)

abbrev pub decreases-loop-i : goal.decreases-loop-i
decreases-loop-i l = length l.trips - l.i
