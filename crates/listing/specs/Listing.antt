-- What the programs print, as bytes: document 01's listing of `assign`, and the page of document 02's `page` (A.1).
use Rattle.std.specs.Prelude.{ℕ, cond, List, [], ◌∷◌, ◌++◌, length, get_or, drop, leb, eqb}
use Rattle.study.specs.Bytes.{u16}
use Rattle.study.specs.Sections.{links}
use Rattle.theory.specs.Flows.{total, times}
use Rattle.theory.specs.Finite.{rows}
use Rattle.text.specs.Decimal.{space, newline, decimal}
use Rattle.calls.specs.Study.{network_of}
use Rattle.calls.specs.Page.{page_of}
use Rattle.calls.specs.Calls.{run_answer, run_table}
use Rattle.calls.specs.declared.Ending.{Ending}
use Rattle.calls.specs.declared.Ending.TheVariants as ending
use Rattle.calls.specs.declared.RunAnswer.{RunAnswer}

-- "reached", "finest", "spent" and "refused"
unfoldable pub ending_word : Ending → List ℕ
ending_word ending.Reached = 114 ∷ 101 ∷ 97 ∷ 99 ∷ 104 ∷ 101 ∷ 100 ∷ []
ending_word ending.Finest = 102 ∷ 105 ∷ 110 ∷ 101 ∷ 115 ∷ 116 ∷ []
ending_word ending.Spent = 115 ∷ 112 ∷ 101 ∷ 110 ∷ 116 ∷ []
ending_word ending.Waiting = 119 ∷ 97 ∷ 105 ∷ 116 ∷ 105 ∷ 110 ∷ 103 ∷ []
ending_word ending.Refused = 114 ∷ 101 ∷ 102 ∷ 117 ∷ 115 ∷ 101 ∷ 100 ∷ []

unfoldable pub judged_word : List ℕ
judged_word = 106 ∷ 117 ∷ 100 ∷ 103 ∷ 101 ∷ 100 ∷ []

unfoldable pub share_word : List ℕ
share_word = 115 ∷ 104 ∷ 97 ∷ 114 ∷ 101 ∷ []

unfoldable pub gap_word : List ℕ
gap_word = 103 ∷ 97 ∷ 112 ∷ []

unfoldable pub cost_word : List ℕ
cost_word = 99 ∷ 111 ∷ 115 ∷ 116 ∷ []

-- (A.4)
unfoldable pub over_word : List ℕ
over_word = 111 ∷ 118 ∷ 101 ∷ 114 ∷ []

unfoldable pub link_word : List ℕ
link_word = 108 ∷ 105 ∷ 110 ∷ 107 ∷ []

-- A word and a number on a line, as `judged 5`.
unfoldable pub number_line : List ℕ → ℕ → List ℕ
number_line word x = word ++ space ++ decimal x ++ newline

-- `link NUMBER TOTAL TIME`
unfoldable pub link_line : ℕ → ℕ → ℕ → List ℕ
link_line l flow time = link_word ++ space ++ decimal l ++ space ++ decimal flow ++ space ++ decimal time ++ newline

-- The listing of a run's answer, with the total flow and the time of each of m links; a refusal prints only `refused` and its number.
unfoldable pub listing : RunAnswer → ℕ → (ℕ → ℕ) → (ℕ → ℕ) → List ℕ
listing answer m flow time =
    cond (eqb answer.refusal 0)
    (ending_word answer.ending
    ++ newline
    ++ number_line judged_word answer.judged
    ++ number_line share_word answer.share
    ++ number_line gap_word answer.gap
    ++ number_line cost_word answer.cost
    ++ number_line over_word answer.over
    ++ rows m (λ l. link_line l (flow l) (time l)))
    (number_line (ending_word ending.Refused) answer.refusal)

-- What `assign` prints for its standard input: u16 budget, u16 excess, then a study to the end. Fewer than four bytes count as
-- refusal 1. The table is empty before the run, which plays no part.
unfoldable pub printed : List ℕ → List ℕ → List ℕ
printed input table =
    let file = drop 4 input in
    let answer = run_answer file table (u16 input 0) (u16 input 2) in
    let g = network_of file in
    let after = run_table file table (u16 input 0) (u16 input 2) in
    cond (leb 4 (length input))
    (listing answer (links file) (total g after) (λ l. get_or (times g answer.share after) l 0))
    (number_line (ending_word ending.Refused) 1)

-- What `page` prints for the same standard input: the page of the table that the run judged last, or a refusal's line.
unfoldable pub printed_page : List ℕ → List ℕ → List ℕ
printed_page input table =
    let file = drop 4 input in
    let answer = run_answer file table (u16 input 0) (u16 input 2) in
    let after = run_table file table (u16 input 0) (u16 input 2) in
    cond (leb 4 (length input))
    (cond (eqb answer.refusal 0)
    (page_of (network_of file) answer.share after)
    (number_line (ending_word ending.Refused) answer.refusal))
    (number_line (ending_word ending.Refused) 1)
