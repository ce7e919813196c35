-- The lines of a page, from the rows of a study's links and their totals in a list.
use Rattle.std.specs.Prelude.{ℕ, ◌<◌, cond, List, ◌++◌, length, get_or, eqb, leb}
use Rattle.text.specs.Decimal.{space, decimal, aligned}
use Rattle.theory.specs.Finite.{rows}
use Rattle.theory.specs.Study.{tail, head}
use Rattle.travel.specs.Links.{list_time}
use Rattle.travel.specs.Ranges.{LinksFit, ShareFits, Within, most_flow}
use Rattle.calls.specs.Page.{volume, page_line}
use Rattle.calls.specs.Laws.Page.{LineRange}

-- The first three columns of a line, each with the space after it.
unfoldable pub ends : ℕ → ℕ → ℕ → List ℕ
ends link tail head =
    aligned 3 (decimal link) ++ space ++ aligned 3 (decimal tail) ++ space ++ aligned 3 (decimal head) ++ space

-- The line of link l, with its volume and its time.
unfoldable pub row_line : List (List ℕ) → ℕ → List ℕ → ℕ → List ℕ
row_line links share flows l = page_line l (tail links l) (head links l) (volume share (get_or flows l 0)) (list_time links share flows l)

-- The lines of all links.
abbrev pub row_lines : List (List ℕ) → ℕ → List ℕ → List ℕ
row_lines links share flows = rows (length links) (row_line links share flows)

-- What the lines ask of these numbers: each is in its range.
pub record Printable (links : List (List ℕ)) (share : ℕ) (flows : List ℕ) : Type 0 where
  pub links-fit : LinksFit links
  pub share-fits : ShareFits share
  pub flows-fit : Within (length links) most_flow flows
  pub line : (l : ℕ) → l < length links → LineRange l (tail links l) (head links l) (volume share (get_or flows l 0)) (list_time links share flows l)

-- The number of a call whose audit's questions answer a number: question 18 is asked last, of a slice with so much room.
abbrev pub after_audit : ℕ → ℕ → ℕ → ℕ
after_audit audited size room = cond (eqb audited 0) (cond (leb size room) 0 18) audited
