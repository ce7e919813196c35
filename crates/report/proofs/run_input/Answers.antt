-- `report::run_input` meets its contract: it runs the study behind the first four bytes.
use Rattle.report.specs.Laws.Printed.{ran-short, ran-long}
use Rattle.report.proofs.run_input.Goals as goal

pub returns-then-input-lt4 : goal.returns-then-input-lt4
returns-then-input-lt4 c = ran-short _ _ c.if-input-lt4.true c.refused.ensures

pub returns : goal.returns
returns c =
    ran-long _ _ c.if-input-lt4.false c.u16_at-budget.ensures c.u16_at-excess.ensures (c.run.ensures.value, c.run.ensures.table_after)
