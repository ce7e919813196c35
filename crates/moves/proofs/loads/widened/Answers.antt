-- `widened` meets its contract. The invariant: the first `l` numbers are written. The measure is what is left of the links.
use mathlib.Core.Path.{◌≡◌}
use native.Mathlib.Omega.{arith}
use borrow.Author.Rules.{rules}
use Rattle.moves.specs.Laws.Front.{front-none, front-more, front-clear}
use Rattle.moves.proofs.loads.widened.Goals as goal

pub loop-l-init : goal.loop-l-init
loop-l-init c = (search rules, front-none _ _)

pub loop-l-preserved : goal.loop-l-preserved
loop-l-preserved c = (search rules, front-more _ _ _ _ _ (omega (arith, c.requires.1.size)) c.loop-l.invariant.1 c.wide.ensures)

pub returns : goal.returns
returns c = let all : c.loop-l.l ≡ c.args.m = omega arith in
    front-clear c.args.m _ c.requires.0 c.requires.1 (rw all at c.loop-l.invariant.1)
