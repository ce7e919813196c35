-- `notes::following::is_settled` meets its contract.
use mathlib.Core.Path.{sym, ◌∙◌}
use borrow.Author.Tests.{eq-eqb, ne_eqb}
use native.Mathlib.Omega.{arith}
use Rattle.notes.proofs.following.is_settled.Goals as goal

pub returns-then-j-node_of : goal.returns-then-j-node_of
returns-then-j-node_of c = rw (eq-eqb _ _ (c.if-j-node_of.true ∙ c.node_of.ensures))

pub offset_bounds-next-j : goal.offset_bounds-next-j
offset_bounds-next-j c = omega (arith, c.requires)

pub bounds-next-j : goal.bounds-next-j
bounds-next-j c = c.requires

pub returns : goal.returns
returns c = rw (ne_eqb _ _ (λ e. c.if-j-node_of.false (e ∙ sym c.node_of.ensures)))
