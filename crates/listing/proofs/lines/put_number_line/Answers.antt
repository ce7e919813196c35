-- `listing::lines::put_number_line` meets its contract: its four calls put the parts of the line one behind the other.
use native.Mathlib.Omega.{arith}
use Rattle.text.specs.Laws.Decimal as decimals
use Rattle.text.specs.Laws.Put as puts
use Rattle.listing.specs.Listing.{number_line}
use Rattle.listing.proofs.lines.put_number_line.Goals as goal

pub put_decimal-at-requires : goal.put_decimal-at-requires
put_decimal-at-requires c =
    omega (arith, decimals.digits-64 c.args.x c.ranges.x.fits)

pub put_byte-requires : goal.put_byte-requires
put_byte-requires c =
    omega (arith, decimals.digits-64 c.args.x c.ranges.x.fits)

pub returns : goal.returns
unfolding number_line
returns c =
    record {
      put = puts.then (puts.then (puts.then c.put_text-at.ensures c.put_byte-at.ensures) c.put_decimal-at.ensures)
          c.put_byte.ensures;
      upper_bound = omega (arith, decimals.digits-64 c.args.x c.ranges.x.fits);
    }
