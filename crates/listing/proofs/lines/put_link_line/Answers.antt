-- `listing::lines::put_link_line` meets its contract: its seven calls put the parts of the line one behind the other.
use native.Mathlib.Omega.{arith}
use Prim.Native.Nat.{◌≤◌}
use lib.ListN.{length}
use Rattle.text.specs.Laws.Decimal as decimals
use Rattle.text.specs.Laws.Put as puts
use Rattle.text.specs.Decimal.{decimal}
use Rattle.listing.specs.Listing.{link_line, link_word}
use Rattle.listing.proofs.lines.put_link_line.Goals as goal
use Rattle.listing.proofs.lines.put_link_line.Goals.{Start}

-- How many digits the three numbers have.
digits : (start : Start) → (length (decimal start.args.l) ≤ 20) × (length (decimal start.args.flow) ≤ 20) × (length (decimal start.args.time) ≤ 10)
digits start = (
  decimals.digits-64 start.args.l start.ranges.l.fits,
  decimals.digits-64 start.args.flow start.ranges.flow.fits,
  decimals.digits-32 start.args.time start.ranges.time.fits,
)

pub put_decimal-at-requires : goal.put_decimal-at-requires
put_decimal-at-requires c = omega (arith, digits (goal.at.put_decimal-at-requires c).Start)

pub put_byte-at-requires : goal.put_byte-at-requires
put_byte-at-requires c = omega (arith, digits (goal.at.put_byte-at-requires c).Start)

pub put_decimal-at-requires-2 : goal.put_decimal-at-requires-2
put_decimal-at-requires-2 c = omega (arith, digits (goal.at.put_decimal-at-requires-2 c).Start)

pub put_byte-at-requires-2 : goal.put_byte-at-requires-2
put_byte-at-requires-2 c = omega (arith, digits (goal.at.put_byte-at-requires-2 c).Start)

pub put_decimal-at-requires-3 : goal.put_decimal-at-requires-3
put_decimal-at-requires-3 c = omega (arith, digits (goal.at.put_decimal-at-requires-3 c).Start)

pub put_byte-requires : goal.put_byte-requires
put_byte-requires c = omega (arith, digits (goal.at.put_byte-requires c).Start)

pub returns : goal.returns
unfolding link_line link_word
returns c =
    record {
      put = puts.then
          (puts.then
          (puts.then
          (puts.then
          (puts.then (puts.then c.put_text-at.ensures c.put_decimal-at.ensures) c.put_byte-at.ensures)
          c.put_decimal-at-2.ensures)
          c.put_byte-at-2.ensures)
          c.put_decimal-at-3.ensures)
          c.put_byte.ensures;
      upper_bound = omega (arith, digits (goal.at.returns c).Start);
    }
