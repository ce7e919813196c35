-- `questions::reach::whole_row` meets its contract.
use Prim.Native.Nat.{◌<◌}
use mathlib.Core.Bool.{true, false}
use mathlib.Core.Path.{◌≡◌, sym, ◌∙◌}
use native.Mathlib.Omega.{arith}
use borrow.Author.Tests.{eq-eqb, ne_eqb}
use Rattle.theory.specs.Laws.Marks.{common-both, next-unvisited}
use Rattle.theory.specs.Marks.{marked, common, lowest_unvisited}
use Rattle.questions.specs.Reach.{whole_row, row_at}
use Rattle.questions.proofs.reach.whole_row.Goals as goal
use Rattle.questions.proofs.reach.whole_row.Goals.{After-lowest_unvisited-j, Else-j-eq-NO_NODE}

-- The node found is reached, unvisited and whole.
found : (c : After-lowest_unvisited-j) → let x = c.args in c.lowest_unvisited-j.result ≡ lowest_unvisited (common x.reached x.whole) x.visited
found c = rw c.shared.ensures at c.lowest_unvisited-j.ensures

next : (c : Else-j-eq-NO_NODE) → let x = c.args in (c.lowest_unvisited-j.result < 128) × (marked (common x.reached x.whole) c.lowest_unvisited-j.result ≡ true) × (marked x.visited c.lowest_unvisited-j.result ≡ false)
next c = next-unvisited _ _ _ (found c.before) c.if-j-eq-NO_NODE.false

pub returns-then-j-eq-NO_NODE : goal.returns-then-j-eq-NO_NODE
unfolding whole_row row_at
returns-then-j-eq-NO_NODE c = rw (eq-eqb _ _ (sym (found (goal.at.returns-then-j-eq-NO_NODE c).After-lowest_unvisited-j) ∙ c.if-j-eq-NO_NODE.true))

pub offset_bounds-rows-j : goal.offset_bounds-rows-j
offset_bounds-rows-j c = record { fits = omega (arith, (next (goal.at.offset_bounds-rows-j c).Else-j-eq-NO_NODE).0) }

pub bounds-rows-j : goal.bounds-rows-j
bounds-rows-j c = c.requires _ (common-both _ _ _ (next (goal.at.bounds-rows-j c).Else-j-eq-NO_NODE).1).0

pub returns : goal.returns
unfolding whole_row row_at
returns c = rw (← found (goal.at.returns c).After-lowest_unvisited-j, ne_eqb _ _ c.if-j-eq-NO_NODE.false)
