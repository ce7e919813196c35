-- Request A.1: the page of a table that the audit accepts.
use Rattle.std.specs.Prelude.{ℕ, ◌+◌, ◌*◌, ◌-◌, ◌/◌, ◌%◌, ◌≤◌, ◌<◌, ◌≡◌, List, [], ◌∷◌, ◌++◌, length, get_or, take}
use Rattle.std.proofs.Common.{arith, ◌∙◌, ap, length-append}
use Rattle.std.proofs.Math.Seq.{take-append_seam, get_or-append_seam}
use Rattle.study.specs.Sections.{links}
use Rattle.text.specs.Decimal.{decimal, hundredths}
use Rattle.text.specs.Laws.Decimal.{some-digit, length-small, no-leading-zero}
use Rattle.theory.specs.Flows.{total, time_at}
use Rattle.theory.specs.Laws.Finite.{get_d_rows}
use Rattle.calls.specs.Study.{network_of}
use Rattle.calls.specs.Page.{volume, line_of, page_of}
use Rattle.calls.specs.Calls.{table_number, page_number, page_slice}
use Rattle.calls.specs.Cases.{full_town, full_line}
use Rattle.calls.proofs.Computed.{computed}
use Rattle.calls.specs.Laws.Questions.{page-both}
use Rattle.calls.specs.Laws.Calls.{page-written}
use Rattle.calls.specs.Laws.Page.{LineRange, LineFits, range-fits, length-line, link-count, line-range, length-page}
use Rattle.demands.specs.Results.{Fresh, overwritten-fresh}

-- Digits with no needless leading zero: where they begin with 0, there is no other digit.
abbrev pub Plain : List ℕ → Type 0
Plain digits = get_or digits 0 0 ≡ 48 → length digits ≡ 1

-- Digits with a point before the last two, at least one digit before it, and no needless leading zero there.
pub record Pointed (digits : List ℕ) : Type 0 where
  pub some : 4 ≤ length digits
  pub point : get_or digits (length digits - 3) 0 ≡ 46
  pub plain : Plain (take (length digits - 3) digits)

pub decimal-plain : (x : ℕ) → Plain (decimal x)
decimal-plain x e = let none = no-leading-zero x e in length-small x (omega arith)

pointed-append : (whole : List ℕ) (tenths last : ℕ) → 1 ≤ length whole → Plain whole → Pointed (whole ++ (46 ∷ tenths ∷ last ∷ []))
pointed-append whole tenths last some plain =
    let size = length-append whole (46 ∷ tenths ∷ last ∷ []) in
    let before : length (whole ++ (46 ∷ tenths ∷ last ∷ [])) - 3 ≡ length whole = omega arith in
    record {
      some = omega arith;
      point = ap (λ i. get_or (whole ++ (46 ∷ tenths ∷ last ∷ [])) i 0) before ∙ get_or-append_seam whole 46 (tenths ∷ last ∷ []) 0;
      plain = rw (before, take-append_seam whole (46 ∷ tenths ∷ last ∷ [])) plain;
    }

pub hundredths-pointed : (x : ℕ) → Pointed (hundredths x)
unfolding hundredths
hundredths-pointed x = pointed-append (decimal (x / 100)) (48 + x / 10 % 10) (48 + x % 10) (some-digit (x / 100)) (decimal-plain (x / 100))

-- The numbers of a link's line, and what is said of them.
abbrev pub OfLine : (ℕ → ℕ → ℕ → ℕ → ℕ → Type 0) → List ℕ → List ℕ → ℕ → ℕ → Type 0
OfLine P file table share l =
    let g = network_of file in
    P l (g.tail l) (g.head l) (volume share (total g table l)) (time_at g share (total g table) l)

-- A table that the audit accepts with a link whose volume and time are the largest: its line ends in "65535.00 42104.31".
pub record Largest : Type 0 where
  pub file : List ℕ
  pub table : List ℕ
  pub share : ℕ
  pub link : ℕ
  pub accepted : table_number file table share ≡ 0
  pub volume-is : volume share (total (network_of file) table link) ≡ 6553500
  pub time-is : time_at (network_of file) share (total (network_of file) table) link ≡ 4210431
  pub line-is : line_of (network_of file) share table link ≡ full_line

pub full-road : Largest
full-road =
    record {
      file = full_town;
      table = 65535 ∷ [];
      share = 1;
      link = 0;
      accepted = computed.full;
      volume-is = computed.full-volume;
      time-is = computed.full-time;
      line-is = computed.full-line;
    }

module _ (file table : List ℕ) (share : ℕ) (audited : table_number file table share ≡ 0) where
  module _ (l : ℕ) (h : l < links file) where
    within : l < (network_of file).links
    within = omega (arith, link-count file)

    pub numbers-range : OfLine LineRange file table share l
    numbers-range = line-range file table share audited l within

    pub numbers_fit : OfLine LineFits file table share l
    numbers_fit = range-fits numbers-range

    pub line-length : length (line_of (network_of file) share table l) ≡ 30
    unfolding line_of
    line-length = length-line numbers_fit

  pub line-place : (l i : ℕ) → l < links file → i < 30 → get_or (page_of (network_of file) share table) (l * 30 + i) 0 ≡ get_or (line_of (network_of file) share table l) i 0
  unfolding page_of
  line-place l i h p =
      let count = link-count file in
      get_d_rows (network_of file).links 30 (line_of (network_of file) share table) (λ k q. line-length k (omega arith)) 0 l i (omega arith) p

  pub page-length : length (page_of (network_of file) share table) ≡ 30 * links file
  page-length = length-page file table share audited

pub page-fresh : (file table : List ℕ) (share : ℕ) (page : List ℕ) → page_number file table share page ≡ 0
    → Fresh (30 * links file) (page_of (network_of file) share table) page (page_slice file table share page)
page-fresh file table share page e =
    rw (page-written file table share page e)
    (overwritten-fresh (30 * links file) (page_of (network_of file) share table) page
    (page-length file table share (page-both file table share page e).0))
