-- `report::respond` meets its contract: it writes a refusal's line, or the listing of what the run answers and leaves.
use borrow.Author.Rules.{rules}
use Prim.Native.Nat.{◌≤◌}
use lib.ListN.{length}
use Rattle.report.specs.Laws.Printed.{printed-refused, printed-accepted, input-long, ran-audited, responded}
use Rattle.report.proofs.respond.Goals as goal
use Rattle.report.proofs.respond.Goals.{Else-refusal-ne0}

pub returns-then-refusal-ne0 : goal.returns-then-refusal-ne0
returns-then-refusal-ne0 c =
    let r = c.run_input-answer.ensures in
    let (size, (text, left)) = responded c.write_refusal.ensures (printed-refused _ _ r c.if-refusal-ne0.true) r.left in
    record { value = size; out_after = text; table_after = left }

-- An accepted run's input has a study behind its first four bytes.
long : (c : Else-refusal-ne0) → 4 ≤ length c.args.input.now
long c = input-long _ _ c.run_input-answer.ensures c.if-refusal-ne0.false

pub slice_bounds-write_accepted-count : goal.slice_bounds-write_accepted-count
slice_bounds-write_accepted-count c = long (goal.at.slice_bounds-write_accepted-count c).Else-refusal-ne0

pub slice_bounds-write_accepted-start : goal.slice_bounds-write_accepted-start
slice_bounds-write_accepted-start c = let there = long (goal.at.slice_bounds-write_accepted-start c).Else-refusal-ne0 in search rules

pub write_accepted-requires : goal.write_accepted-requires
write_accepted-requires c =
    (ran-audited _ _ c.run_input-answer.ensures c.if-refusal-ne0.false, search rules)

pub returns : goal.returns
returns c =
    let r = c.run_input-answer.ensures in
    let (size, (text, left)) = responded c.write_accepted.ensures (printed-accepted _ _ r c.if-refusal-ne0.false) r.left in
    record { value = size; out_after = text; table_after = left }
