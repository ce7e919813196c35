-- `questions::fields::marks_fit` meets its contract: the bytes before i fit.
use borrow.Author.Rules.{rules}
use mathlib.Core.Path.{refl, sym, ◌∙◌}
use borrow.Author.Tests.{le-leb, lt-leb}
use Rattle.theory.specs.Finite.{all}
use Rattle.questions.specs.Laws.Questions.{all_more, all-failed, all_held, mark_test, marks-all}
use Rattle.questions.proofs.fields.marks_fit.Goals as goal

pub loop-i-init : goal.loop-i-init
unfolding all
loop-i-init c = (search rules, refl)

pub returns-then-bytes-i-gt1 : goal.returns-then-bytes-i-gt1
unfolding mark_test
returns-then-bytes-i-gt1 c = all-failed _ _ _ (search rules) (lt-leb _ _ c.if-bytes-i-gt1.true) ∙ sym (marks-all _)

pub loop-i-preserved : goal.loop-i-preserved
unfolding mark_test
loop-i-preserved c = (search rules, all_more _ _ c.loop-i.invariant.1 (le-leb _ _ c.if-bytes-i-gt1.false))

pub returns : goal.returns
returns c = all_held _ _ c.loop-i.invariant.0 c.loop-i-test.false c.loop-i.invariant.1 ∙ sym (marks-all _)
