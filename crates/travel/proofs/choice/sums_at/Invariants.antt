-- The invariant of `sums_at`: the products of the links passed are added on both sides.
use Rattle.std.proofs.Common.{◌≡◌, ℕ, List}
use Rattle.travel.specs.Links.{total_of, load_of}
use Rattle.travel.specs.Laws.Choice.{moved_to}
use Rattle.travel.proofs.choice.sums_at.Given as goal

-- The sum of amount × time over the first l links.
abbrev pub moved : List (List ℕ) → List (List ℕ) → ℕ → ℕ → (ℕ → ℕ) → ℕ → ℕ
moved links flows share j amount l = moved_to links share (total_of flows) (load_of flows) j amount l

abbrev pub invariant-loop-l : goal.invariant-loop-l
invariant-loop-l l =
    (l.loaded ≡ moved l.links l.flows l.share l.j (load_of l.flows) l.l) × (l.spent ≡ moved l.links l.flows l.share l.j (total_of l.flows) l.l)
