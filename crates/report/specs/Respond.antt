-- The programs `assign` and `page`: the run that they make of their input, and what they write into lent memory.
use Rattle.std.specs.Prelude.{ℕ, ◌≡◌, cond, List, ◌++◌, length, get_or, drop, leb}
use Rattle.study.specs.Bytes.{u16}
use Rattle.study.specs.Sections.{links}
use Rattle.theory.specs.Flows.{total, times}
use Rattle.calls.specs.Study.{network_of}
use Rattle.calls.specs.Calls.{run_answer, run_table}
use Rattle.calls.specs.declared.Ending.TheVariants as ending
use Rattle.calls.specs.declared.RunAnswer.{RunAnswer}
use Rattle.calls.specs.Laws.Calls.{refused_run}
use Rattle.listing.specs.Listing.{ending_word, number_line, listing}

-- What the run answers. An input of fewer than four bytes counts as refusal 1.
unfoldable pub input_answer : List ℕ → List ℕ → RunAnswer
input_answer input table = cond (leb 4 (length input)) (run_answer (drop 4 input) table (u16 input 0) (u16 input 2)) (refused_run 1)

-- The table after the run. An input of fewer than four bytes has no run, and changes nothing.
unfoldable pub table_left : List ℕ → List ℕ → List ℕ
table_left input table = cond (leb 4 (length input)) (run_table (drop 4 input) table (u16 input 0) (u16 input 2)) table

-- The run that an input asks for over a lent table: what it answered, and the table that it left.
pub record Ran (input table : List ℕ) (answer : RunAnswer) (after : List ℕ) : Type 0 where
  pub answered : answer ≡ input_answer input table
  pub left : after ≡ table_left input table

-- The line of a refusal: `refused` and its number.
abbrev pub refusal_line : ℕ → List ℕ
refusal_line number = number_line (ending_word ending.Refused) number

-- The listing of a run's answer, with the total flow and the time of each link in the table that the run left.
unfoldable pub listed : List ℕ → List ℕ → RunAnswer → List ℕ
listed file table answer =
    let g = network_of file in
    listing answer (links file) (total g table) (λ l. get_or (times g answer.share table) l 0)

-- Memory that held `before` holds `after`: the bytes at its start, `size` of them, and behind them what stood there.
pub record Written (before bytes after : List ℕ) (size : ℕ) : Type 0 where
  pub counted : size ≡ length bytes
  pub held : after ≡ bytes ++ drop size before
