-- `questions::reach::fill` meets its contract.
use mathlib.Core.Path.{sym, ◌∙◌}
use native.Mathlib.Omega.{arith}
use Rattle.questions.specs.Laws.Reach.{filled-before, filled-now}
use Rattle.questions.proofs.reach.fill.Goals as goal

pub is_marked-requires : goal.is_marked-requires
is_marked-requires c = omega (arith, c.requires.0, c.requires.1.few)

pub offset_bounds-rows-j : goal.offset_bounds-rows-j
offset_bounds-rows-j c = record { fits = omega (arith, c.requires.0, c.requires.1.few) }

pub slice_copy_out-result : goal.slice_copy_out-result
slice_copy_out-result c = omega (arith, c.requires.0, c.requires.1.enough)

pub returns-then-is_marked : goal.returns-then-is_marked
returns-then-is_marked c = filled-before c.requires.1 _ (sym c.is_marked.ensures ∙ c.if-is_marked.true)

pub offset_bounds-rows-j-2 : goal.offset_bounds-rows-j-2
offset_bounds-rows-j-2 c = record { fits = omega (arith, c.requires.0, c.requires.1.few) }

pub bounds-rows-j : goal.bounds-rows-j
bounds-rows-j c = omega (arith, c.requires.0, c.requires.1.enough)

pub only_node-requires : goal.only_node-requires
only_node-requires c = omega (arith, c.requires.0, c.requires.1.few)

pub returns : goal.returns
returns c = rw (c.both.ensures, c.only_node.ensures) (filled-now c.requires.1 c.requires.0 _ c.search-found.ensures)
