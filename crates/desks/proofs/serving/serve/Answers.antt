-- `desks::serving::serve` meets its contract: until it has had so many turns, a desk is served by a run of as large a budget, and no larger than its own.
use Rattle.std.proofs.Common.{sym, ap, ◌∙◌, min, arith}
use Rattle.desks.specs.Seats.{course_of, cut_off}
use Rattle.desks.specs.Laws.Serving.{refused-alone, unfit-refused, served, course-asks, open-sets-out}
use Rattle.desks.proofs.serving.serve.Goals as goal

pub returns-then-not-budget_fits : goal.returns-then-not-budget_fits
returns-then-not-budget_fits c =
    let x = c.args in
    let refused = unfit-refused x.file.now x.table.now x.budget x.excess (sym c.budget_fits.ensures ∙ c.if-not-budget_fits.true) in
    let (answer, table) = refused-alone x.file.now x.table.now x.budget x.excess x.until refused in
    record { value = c.run.ensures.value ∙ answer; table_after = c.run.ensures.table_after ∙ table }

pub begin-requires : goal.begin-requires
begin-requires c = sym c.budget_fits.ensures ∙ c.if-not-budget_fits.false

pub run_from-requires : goal.run_from-requires
run_from-requires c =
    let x = c.args in
    let is = c.course_of-course.ensures ∙ ap (λ m. course_of x.answer m x.excess) c.min.ensures in
    rw is (open-sets-out x.file.now x.table.now x.budget x.excess x.answer x.until c.requires)

pub returns : goal.returns
returns c =
    let x = c.args in
    let is = c.course_of-course.ensures ∙ ap (λ m. course_of x.answer m x.excess) c.min.ensures in
    let (asks, leaves) = course-asks x.file.now x.table.now x.budget x.excess x.answer (min x.budget x.until) _ is in
    let (answer, table) = served x.file.now x.table.now x.budget x.excess (sym c.budget_fits.ensures ∙ c.if-not-budget_fits.false) x.until (omega arith) in
    record {
      value = c.cut_off.ensures ∙ ap (λ r. cut_off r x.budget) (c.run_from.ensures.value ∙ asks) ∙ answer;
      table_after = c.run_from.ensures.table_after ∙ leaves ∙ table;
    }
