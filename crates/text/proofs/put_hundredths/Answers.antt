-- `text::put_hundredths` meets its contract: the digits before the point, the point, and two digits, one behind the other.
use Rattle.text.proofs.Columns.{aligned-hundredths}
use Rattle.text.specs.Laws.Put as laws
use Rattle.text.proofs.put_hundredths.Goals as goal

pub returns-clause-put : goal.returns-clause-put
returns-clause-put c =
    rw (aligned-hundredths c.args.width c.args.x)
    (laws.then
    (laws.then (laws.then c.put_aligned-at.ensures.put c.put_byte-at.ensures) (rw c.digit-tenths.ensures at c.put_byte-at-2.ensures))
    (rw c.digit-last.ensures at c.put_byte.ensures))
