-- `report::write_refusal` meets its contract: a listing with a refusal is its line.
use Rattle.report.specs.Laws.Printed.{refused-line, written_as}
use Rattle.report.proofs.write_refusal.Goals as goal

pub returns : goal.returns
returns c =
    let size = rw c.refused.ensures at c.write_listing.ensures.value in
    let text = rw c.refused.ensures at c.write_listing.ensures.out_after in
    written_as (refused-line _ _ _ _ c.requires.0) (size, text)
