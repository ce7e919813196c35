-- `questions::questions::destinations_ascend` meets its contract: the destinations up to k ascend.
use borrow.Author.Rules.{rules}
use mathlib.Core.Path.{refl}
use native.Mathlib.Omega.{arith}
use borrow.Author.Tests.{lt-ltb, le-ltb}
use Rattle.theory.specs.Finite.{all}
use Rattle.questions.specs.Destinations.{all_ascending}
use Rattle.questions.specs.Laws.Questions.{all_more, all-failed, all_held}
use Rattle.questions.proofs.fields.destinations_ascend.Goals as goal

pub loop-k-init : goal.loop-k-init
unfolding all
loop-k-init c = (search rules, refl)

pub returns-then-destinations-k : goal.returns-then-destinations-k
unfolding all_ascending
returns-then-destinations-k c =
    all-failed _ _ c.loop-k.k (omega arith) (le-ltb _ _ c.if-destinations-k.true)

pub loop-k-preserved : goal.loop-k-preserved
loop-k-preserved c =
    (omega arith, all_more c.loop-k.k _ c.loop-k.invariant.1 (lt-ltb _ _ c.if-destinations-k.false))

pub returns : goal.returns
unfolding all_ascending
returns c = all_held _ _ {i = c.loop-k.k} c.loop-k.invariant.0 (omega arith) c.loop-k.invariant.1
