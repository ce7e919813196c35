-- A turn adds the row that is next. A sum of k rows is at most k of the largest numbers that a table holds.
use Rattle.std.proofs.Common.{◌≡◌, ℕ, ◌+◌, ◌-◌, ◌*◌, ◌≤◌, length, get_or, take, drop, sym, ap, ◌∙◌, mul-le-mul_right, arith, w32, Fits, rules}
use Rattle.theory.specs.Flows.{link_total}
use Rattle.travel.specs.Links.{padded}
use Rattle.travel.specs.Ranges.{RowAdded}
use Rattle.travel.specs.Laws.Padded.{length-padded, padded-zeros, padded-added, padded-within}
use Rattle.travel.specs.Laws.Rows.{length_row, get_d-row}
use Rattle.travel.specs.Laws.Totals.{link_total-none, link_total-more, link_total-most}
use Rattle.travel.proofs.table.write_totals.Goals as goal
use Rattle.travel.proofs.table.write_totals.Goals.{At-loop-k, In-loop-k}

-- The row that is added is within the table.
row_within : (c : In-loop-k) → c.loop-k.k * c.args.m + c.args.m ≤ length c.args.table.now
row_within c =
    let h : (c.loop-k.k + 1) * c.args.m ≤ c.args.p * c.args.m = mul-le-mul_right c.args.m (omega arith) in
    omega arith

sum-within : (c : At-loop-k) (l : ℕ) → get_or c.loop-k.sums l 0 ≤ c.loop-k.k * 4294967295
sum-within c l =
    let m = c.args.m in
    let table = c.args.table.now in
    rw c.loop-k.invariant
    (padded-within m (link_total c.loop-k.k m table) (c.loop-k.k * 4294967295)
    (λ i p. link_total-most m table i c.loop-k.k 4294967295 (λ j. let fits : Fits w32 (get_or table j 0) = search rules in omega arith)) l)

pub loop-k-init : goal.loop-k-init
loop-k-init c = c.requires.3 ∙ padded-zeros c.args.m _ (omega arith) (λ l p. link_total-none _ _ l)

pub add_row-requires : goal.add_row-requires
add_row-requires c =
    let w = (goal.at.add_row-requires c).In-loop-k in (
      rw (length_row c.args.table.now (c.loop-k.k * c.args.m) c.args.m (row_within w)) (search rules),
      ap length c.loop-k.invariant ∙ length-padded c.args.m _ (search rules),
      (λ l p. omega (arith, sum-within (goal.at.add_row-requires c).At-loop-k l)),
    )

pub loop-k-preserved : goal.loop-k-preserved
loop-k-preserved c =
    let table = c.args.table.now in
    let m = c.args.m in
    let k = c.loop-k.k in
    let within = row_within (goal.at.loop-k-preserved c).In-loop-k in
    let sum : RowAdded m (take (k * m + m - k * m) (drop (k * m) table)) (padded m (link_total k m table)) c.add_row.new.sums = rw (length_row table (k * m) m within, c.loop-k.invariant) at c.add_row.ensures in
    padded-added m (link_total k m table) (link_total (k + 1) m table) _ _ (search rules) sum
    (λ l p. link_total-more m table l k ∙ ap (λ x. link_total k m table l + x) (sym (get_d-row table (k * m) m within l p)))

pub returns : goal.returns
returns c =
    let end : c.loop-k.k ≡ c.args.p = omega arith in
    (rw end at c.loop-k.invariant, (λ l p. omega (arith, sum-within (goal.at.returns c).At-loop-k l)))
