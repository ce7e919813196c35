-- `text::put_decimal` meets its contract: in a column of its own width a number has no space before it.
use native.Mathlib.Omega.{arith}
use Rattle.text.specs.Laws.Decimal.{some-digit, decimal-below}
use Rattle.text.proofs.Columns.{aligned-whole}
use Rattle.text.proofs.put_decimal.Goals as goal

pub put_aligned-requires : goal.put_aligned-requires
put_aligned-requires c =
    let x = c.args.x in
    rw c.decimal_length.ensures (some-digit x, decimal-below x, omega arith)

pub returns : goal.returns
returns c =
    rw (c.decimal_length.ensures, aligned-whole) at c.put_aligned.ensures.put
