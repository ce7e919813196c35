-- `questions::questions::destinations_fit` meets its contract: both halves of the question.
use mathlib.Core.Path.{sym, ◌∙◌}
use Rattle.study.proofs.Flags.{and_yes, and_no, was-yes, was-no}
use Rattle.questions.specs.Laws.Questions.{destinations-halves}
use Rattle.questions.proofs.fields.destinations_fit.Goals as goal

pub returns-then-not-destinations_are_nodes : goal.returns-then-not-destinations_are_nodes
returns-then-not-destinations_are_nodes c =
    and_no _ _ (was-no c.destinations_are_nodes.ensures c.if-not-destinations_are_nodes.true) (sym (was-no c.destinations_are_nodes.ensures c.if-not-destinations_are_nodes.true))
    ∙ sym (destinations-halves _ _)

pub returns : goal.returns
returns c =
    and_yes _ _ (was-yes c.destinations_are_nodes.ensures c.if-not-destinations_are_nodes.false) c.destinations_ascend.ensures
    ∙ sym (destinations-halves _ _)
