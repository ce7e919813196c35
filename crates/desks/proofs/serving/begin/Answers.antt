-- `desks::serve::begin` meets its contract: a budget that question 13 accepts leaves the start's questions.
use Rattle.std.proofs.Common.{sym, ◌∙◌}
use Rattle.calls.specs.Laws.Calls.{start-kept}
use Rattle.calls.specs.Laws.Desks.{unserved-answer, unserved-table}
use Rattle.desks.specs.Laws.Serving.{number-starts, refused-desk}
use Rattle.desks.proofs.serving.begin.Goals as goal

pub returns-then-refusal-ne0 : goal.returns-then-refusal-ne0
returns-then-refusal-ne0 c =
    let x = c.args in
    let number = c.start-refusal.ensures.value ∙ sym (number-starts x.file.now x.table.now x.budget x.excess c.requires) in
    let (answer, table) = refused-desk x.file.now x.table.now x.budget x.excess 0 _ number c.if-refusal-ne0.true in
    record {
      value = c.refused_run.ensures ∙ answer;
      table_after =
          c.start-refusal.ensures.table_after
          ∙ start-kept x.file.now x.table.now (λ e. c.if-refusal-ne0.true (c.start-refusal.ensures.value ∙ e))
          ∙ table;
    }

pub returns : goal.returns
returns c =
    let x = c.args in
    let accepted = number-starts x.file.now x.table.now x.budget x.excess c.requires ∙ sym c.start-refusal.ensures.value ∙ c.if-refusal-ne0.false in
    record {
      value = c.unserved.ensures ∙ sym (unserved-answer x.file.now x.table.now x.budget x.excess accepted);
      table_after = c.start-refusal.ensures.table_after ∙ sym (unserved-table x.file.now x.table.now x.budget x.excess accepted);
    }
