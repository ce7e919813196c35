-- `pages::lines::put_line` meets its contract: its calls put the columns one behind the other.
use borrow.Author.Rules.{rules}
use Rattle.text.specs.Laws.Put as puts
use Rattle.calls.specs.Page.{page_line}
use Rattle.pages.specs.Lines.{ends}
use Rattle.pages.proofs.lines.put_line.Goals as goal

pub returns : goal.returns
unfolding page_line ends
returns c =
    record {
      put = puts.then
          (puts.then
          (puts.then (puts.then c.put_ends-at.ensures.put c.put_hundredths-at.ensures.put) c.put_byte-at.ensures)
          c.put_hundredths-at-2.ensures.put)
          c.put_byte.ensures;
      value = search rules;
    }
