-- `listing::lines::put_ending_line` meets its contract: it puts the end of the line behind the word.
use borrow.Author.Rules.{rules}
use Rattle.text.specs.Laws.Put as puts
use Rattle.listing.proofs.lines.put_ending_line.Goals as goal

pub returns : goal.returns
returns c =
    record { put = puts.then c.put_ending-end.ensures.put c.put_byte.ensures; upper_bound = search rules }
