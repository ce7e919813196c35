-- `put_links` meets its contract. The invariant: the rows of the first `k` commodities stand behind the first number. The measure is what is
-- left of the commodities.
use Prim.Native.Nat.{◌-◌, ◌≤◌}
use Rattle.text.specs.Put.{Put}
use Rattle.notes.specs.Written.{link_rows}
use Rattle.notes.proofs.writing.put_links.Given as goal

abbrev pub invariant-loop-k : goal.invariant-loop-k
invariant-loop-k l = (l.k ≤ l.p) × Put l.initial.note 1 (link_rows l.nodes l.k l.next) l.note l.at

abbrev pub decreases-loop-k : goal.decreases-loop-k
decreases-loop-k l = l.p - l.k
