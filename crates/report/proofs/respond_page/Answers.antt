-- `report::respond_page` meets its contract: it writes a refusal's line, or the page of the table that the run leaves.
use borrow.Author.Rules.{rules}
use Prim.Native.Nat.{◌*◌, ◌≤◌}
use native.Mathlib.Omega.{arith}
use mathlib.Core.Path.{refl, ap}
use lib.ListN.{length}
use Rattle.report.specs.Laws.Printed.{page-refused, page-accepted, input-long, ran-audited, responded}
use Rattle.report.specs.Laws.Pages.{links-most, written-page}
use Rattle.report.proofs.respond_page.Goals as goal
use Rattle.report.proofs.respond_page.Goals.{Else-refusal-ne0}

pub returns-then-refusal-ne0 : goal.returns-then-refusal-ne0
returns-then-refusal-ne0 c =
    let r = c.run_input-answer.ensures in
    let (size, (text, left)) = responded c.write_refusal.ensures (page-refused _ _ r c.if-refusal-ne0.true) r.left in
    record { value = size; out_after = text; table_after = left }

-- An accepted run's input has a study behind its first four bytes.
long : (c : Else-refusal-ne0) → 4 ≤ length c.args.input.now
long c = input-long _ _ c.run_input-answer.ensures c.if-refusal-ne0.false

pub slice_bounds-file-count : goal.slice_bounds-file-count
slice_bounds-file-count c = long (goal.at.slice_bounds-file-count c).Else-refusal-ne0

pub slice_bounds-file-start : goal.slice_bounds-file-start
slice_bounds-file-start c = let there = long (goal.at.slice_bounds-file-start c).Else-refusal-ne0 in search rules

pub overflow_mul-result : goal.overflow_mul-result
overflow_mul-result c =
    let few : c.link_count.result ≤ 512 = rw c.link_count.ensures (links-most _) in
    omega arith

pub returns : goal.returns
returns c =
    let r = c.run_input-answer.ensures in
    let audited = ran-audited _ _ r c.if-refusal-ne0.false in
    let size = ap (λ m. 30 * m) c.link_count.ensures in
    let room : 15360 ≤ length c.args.out.now = omega arith in
    let (size, (text, left)) = responded (written-page _ _ _ _ audited room c.page.ensures.page_after size (page-accepted _ _ r c.if-refusal-ne0.false)) refl r.left in
    record { value = size; out_after = text; table_after = left }
