-- The parts of a listing, as they are put one behind the other.
use Rattle.std.specs.Prelude.{ℕ, List, ◌++◌, get_or}
use Rattle.theory.specs.Finite.{rows}
use Rattle.calls.specs.declared.RunAnswer.{RunAnswer}
use Rattle.text.specs.Decimal.{newline}
use Rattle.listing.specs.Listing.{ending_word, judged_word, share_word, gap_word, cost_word, over_word, number_line, link_line, listing}

-- The lines before those of the links.
unfoldable pub answer_lines : RunAnswer → List ℕ
answer_lines answer =
    ending_word answer.ending
    ++ newline
    ++ number_line judged_word answer.judged
    ++ number_line share_word answer.share
    ++ number_line gap_word answer.gap
    ++ number_line cost_word answer.cost
    ++ number_line over_word answer.over

-- The lines of the first m links, whose flows and times are in two lists.
unfoldable pub link_lines : ℕ → List ℕ → List ℕ → List ℕ
link_lines m flows times = rows m (λ l. link_line l (get_or flows l 0) (get_or times l 0))

-- The listing, with the flow and the time of each link from two lists.
abbrev pub listing_of : RunAnswer → ℕ → List ℕ → List ℕ → List ℕ
listing_of answer m flows times = listing answer m (λ l. get_or flows l 0) (λ l. get_or times l 0)
