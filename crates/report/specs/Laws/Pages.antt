-- The page of an audited table, written into memory with room for the largest.
use Rattle.std.specs.Prelude.{ℕ, ◌*◌, ◌≤◌, ◌≡◌, List, ◌++◌, length, drop}
use Rattle.std.proofs.Common.{arith, sym, ◌∙◌, ap, le-leb}
use Rattle.study.specs.Sections.{links}
use Rattle.calls.specs.Study.{network_of}
use Rattle.calls.specs.Questions.{page_holds}
use Rattle.calls.specs.Page.{page_of}
use Rattle.calls.specs.Calls.{overwritten, table_number, page_slice}
use Rattle.calls.specs.Laws.Networks.{links-length}
use Rattle.calls.specs.Laws.Questions.{both-page}
use Rattle.calls.specs.Laws.Calls.{page-written}
use Rattle.calls.specs.Laws.Page.{link-count, length-page}
use Rattle.network.specs.Laws.Checking.{sized}
use Rattle.report.specs.Respond.{Written}
use Rattle.report.specs.Laws.Printed.{written_as}

-- A file has at most 512 links.
pub links-most : (file : List ℕ) → links file ≤ 512
links-most file = omega (arith, links-length file, (sized file).few-links)

pub written-page :
    (file table : List ℕ) (share : ℕ) (before : List ℕ) → table_number file table share ≡ 0 → 15360 ≤ length before → {after : List ℕ} {size : ℕ} →
    after ≡ page_slice file table share before → size ≡ 30 * links file → {bytes : List ℕ} → page_of (network_of file) share table ≡ bytes →
    Written before bytes after size
unfolding page_holds overwritten
written-page file table share before audited room after_is size_is same =
    let long = length-page file table share audited in
    let holds = le-leb (30 * (network_of file).links) (length before) (omega (arith, link-count file, links-most file)) in
    let whole = size_is ∙ sym long in
    written_as same
    (whole, after_is ∙ page-written file table share before (both-page file table share before audited holds) ∙ ap (λ k. page_of (network_of file) share table ++ drop k before) (sym whole))
