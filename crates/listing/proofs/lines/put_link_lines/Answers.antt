-- `listing::lines::put_link_lines` meets its contract. The loop's invariant: the lines of the links passed are put.
use borrow.Author.Rules.{rules}
use native.Mathlib.Omega.{arith}
use mathlib.Core.Path.{◌≡◌}
use Rattle.text.specs.Laws.Put as puts
use Rattle.listing.specs.Lines.{link_lines}
use Rattle.listing.proofs.lines.put_link_lines.Goals as goal

pub loop-l-init : goal.loop-l-init
unfolding link_lines
loop-l-init c = (search rules, puts.no_rows _ _ _, search rules)

pub put_link_line-next-requires : goal.put_link_line-next-requires
put_link_line-next-requires c = omega (arith, puts.same_length c.loop-l.invariant.1)

pub loop-l-preserved : goal.loop-l-preserved
unfolding link_lines
loop-l-preserved c =
    (search rules, puts.then-row _ _ c.loop-l.invariant.1 c.put_link_line-next.ensures.put, search rules)

pub shape_of-out : goal.shape_of-out
shape_of-out c = puts.same_length c.loop-l.invariant.1

pub returns : goal.returns
returns c =
    let all : c.loop-l.l ≡ c.args.m = omega arith in
    record { put = rw all at c.loop-l.invariant.1; upper_bound = omega arith }
