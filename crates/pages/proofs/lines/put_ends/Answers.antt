-- `pages::lines::put_ends` meets its contract: its six calls put the columns one behind the other.
use borrow.Author.Rules.{rules}
use Rattle.text.specs.Laws.Put as puts
use Rattle.pages.specs.Lines.{ends}
use Rattle.pages.proofs.lines.put_ends.Goals as goal

pub returns : goal.returns
unfolding ends
returns c =
    record {
      put = puts.then
          (puts.then
          (puts.then
          (puts.then (puts.then c.put_aligned-at.ensures.put c.put_byte-at.ensures) c.put_aligned-at-2.ensures.put)
          c.put_byte-at-2.ensures)
          c.put_aligned-at-3.ensures.put)
          c.put_byte.ensures;
      value = search rules;
    }
