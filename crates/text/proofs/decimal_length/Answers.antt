-- `text::decimal_length` meets its contract.
use Rattle.std.proofs.Common.{sym}
use Rattle.text.specs.Laws.Decimal.{digits_of}
use Rattle.text.proofs.decimal_length.Goals as goal

pub returns : goal.returns
returns c = sym (digits_of _ _ (rw (← c.max.ensures) c.ilog10.ensures.power_le) (rw (← c.max.ensures) c.ilog10.ensures.next_power_gt))
