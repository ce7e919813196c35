-- The page of a table that the audit accepts: every number is small enough for its columns, so every line has 30 bytes.
use Rattle.std.specs.Prelude.{ℕ, ◌*◌, ◌/◌, ◌≤◌, ◌<◌, ◌≡◌, List, length}
use Rattle.std.proofs.Common.{le_trans, mul-le-mul_left, arith, ◌∙◌, length-append}
use Rattle.std.proofs.Math.Nat.{div-le_of_le-mul}
use Rattle.study.specs.Sections.{links}
use Rattle.study.specs.Laws.{Accepted, accepted}
use Rattle.text.specs.Decimal.{decimal, hundredths}
use Rattle.text.specs.Laws.Decimal.{length-decimal, length-hundredths, length-aligned}
use Rattle.theory.specs.Network.{Network}
use Rattle.theory.specs.Flows.{total, time_at}
use Rattle.theory.specs.Study.{free_time, rise, capacity, power, network}
use Rattle.theory.specs.Laws.Finite.{length-rows}
use Rattle.theory.specs.Laws.Tables.{totals_fit-all}
use Rattle.theory.specs.Laws.Times.{step-most, step_time-most}
use Rattle.calls.specs.Study.{link_rows, network_of}
use Rattle.calls.specs.Page.{volume, page_line, line_of, page_of}
use Rattle.calls.specs.Calls.{table_number}
use Rattle.calls.specs.Laws.Questions.{Passed, SharePassed, check-passed, start-both, table-both}
use Rattle.calls.specs.Laws.Networks.{links-length, share-range, fields_fit, ends-fit, few-trips}

-- The largest numbers that a line meets.
pub record LineRange (link tail head volume time : ℕ) : Type 0 where
  pub link-most : link ≤ 511
  pub tail-most : tail ≤ 127
  pub head-most : head ≤ 127
  pub volume-most : volume ≤ 6553500
  pub time-most : time ≤ 4210431

-- The numbers of a line fit their columns.
pub record LineFits (link tail head volume time : ℕ) : Type 0 where
  pub link_fits : length (decimal link) ≤ 3
  pub tail-fits : length (decimal tail) ≤ 3
  pub head-fits : length (decimal head) ≤ 3
  pub volume-fits : length (hundredths volume) ≤ 8
  pub time-fits : length (hundredths time) ≤ 8

pub range-fits : {link tail head volume time : ℕ} → LineRange link tail head volume time → LineFits link tail head volume time
range-fits {link} {tail} {head} {volume} {time} range =
    record {
      link_fits = length-decimal 2 link (omega arith);
      tail-fits = length-decimal 2 tail (omega arith);
      head-fits = length-decimal 2 head (omega arith);
      volume-fits = length-hundredths 4 volume (omega arith);
      time-fits = length-hundredths 4 time (omega arith);
    }

pub length-line : {link tail head volume time : ℕ} → LineFits link tail head volume time → length (page_line link tail head volume time) ≡ 30
unfolding page_line
length-line {link} {tail} {head} {volume} {time} fits =
    simp length-append
    (omega (
      arith,
      length-aligned 3 (decimal link) fits.link_fits,
      length-aligned 3 (decimal tail) fits.tail-fits,
      length-aligned 3 (decimal head) fits.head-fits,
      length-aligned 8 (hundredths volume) fits.volume-fits,
      length-aligned 8 (hundredths time) fits.time-fits,
    ))

-- A volume is at most 100 × T where the total is at most share × T.
volume-at-most : (share flow : ℕ) → 1 ≤ share → flow ≤ share * 65535 → volume share flow ≤ 6553500
volume-at-most share flow some most = div-le_of_le-mul share (omega arith)

-- A network has the links of its file.
pub link-count : (file : List ℕ) → (network_of file).links ≡ links file
unfolding network_of network
link-count file = links-length file

-- The page of a file and a table that an audit at a share accepts.
module _ (file table : List ℕ) (share : ℕ) (audited : table_number file table share ≡ 0) where
  abbrev g : Network
  g = network_of file

  study : Passed file
  study = check-passed file (start-both file table (table-both file table share audited).0).0

  passed : SharePassed file table share
  passed = (table-both file table share audited).1

  counts : Accepted file
  counts = accepted file study.described.opened

  time-most : (l : ℕ) → l < g.links → time_at g share (total g table) l ≤ 4210431
  unfolding network_of network
  time-most l h =
      let fits = fields_fit file study.described l h in
      step_time-most (free_time (link_rows file) l) (rise (link_rows file) l) (power (link_rows file) l) _ fits.free-most fits.rise-most fits.power-most
      (step-most (capacity (link_rows file) l) share (total g table l))

  -- No total is above share × T, by questions 10 and 15.
  pub total-most : (l : ℕ) → l < g.links → total g table l ≤ share * 65535
  total-most l h = le_trans (totals_fit-all g share table passed.totals-fit l h) (mul-le-mul_left share (few-trips file study.described))

  node-most : g.nodes ≤ 128
  unfolding network_of network
  node-most = counts.nodes-most

  pub line-range : (l : ℕ) → l < g.links → LineRange l (g.tail l) (g.head l) (volume share (total g table l)) (time_at g share (total g table) l)
  line-range l h =
      let ends = ends-fit file study.described l h in
      record {
        link-most = omega (arith, link-count file, counts.links-most);
        tail-most = omega (arith, ends.tail-node, node-most);
        head-most = omega (arith, ends.head-node, node-most);
        volume-most = volume-at-most share (total g table l) (share-range share passed.share-fits).0 (total-most l h);
        time-most = time-most l h;
      }

  pub length-page : length (page_of g share table) ≡ 30 * links file
  unfolding page_of line_of
  length-page =
      length-rows g.links 30 (line_of g share table) (λ l h. length-line (range-fits (line-range l h))) ∙ omega (arith, link-count file)
