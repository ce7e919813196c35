-- `pages::lines::put_lines` meets its contract. The loop's invariant: the lines of the links passed are put, 30 bytes each.
use borrow.Author.Rules.{rules}
use native.Mathlib.Omega.{arith}
use Rattle.travel.specs.Links.{list_time}
use Rattle.text.specs.Laws.Put as puts
use Rattle.pages.specs.Lines.{row_line}
use Rattle.pages.proofs.lines.put_lines.Goals as goal

pub loop-l-init : goal.loop-l-init
loop-l-init c = (search rules, search rules, puts.no_rows _ _ _)

pub loop-l-preserved : goal.loop-l-preserved
unfolding row_line list_time
loop-l-preserved c =
    let line = rw (c.volume_of-volume.ensures, c.link_time-timed.ensures.0) at c.put_line-at.ensures.put in
    (omega arith, omega arith, puts.then-row _ _ c.loop-l.invariant.2 line)
