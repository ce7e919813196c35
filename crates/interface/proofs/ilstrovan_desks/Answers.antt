-- `interface::ilstrovan_desks` meets its contract: the desks hold the tables that are lent, and each is left as the call leaves its desk.
use Rattle.std.proofs.Common.{◌≡◌, List, [], ◌∷◌, arith, rules}
use Rattle.calls.specs.Desks.{Desk, desks_table}
use Rattle.desks.specs.Laws.Standing.{left-at}
use Rattle.interface.specs.Numbers.{queue}
use Rattle.interface.proofs.ilstrovan_desks.Goals as goal
use Rattle.interface.proofs.ilstrovan_desks.Goals.{Start}

abbrev lent : Start → List Desk
lent c = let x = c.args in queue (x.file_0.now ∷ x.file_1.now ∷ x.file_2.now ∷ x.file_3.now ∷ x.file_4.now ∷ x.file_5.now ∷ x.file_6.now ∷ x.file_7.now ∷ []) (x.table_0.now ∷ x.table_1.now ∷ x.table_2.now ∷ x.table_3.now ∷ x.table_4.now ∷ x.table_5.now ∷ x.table_6.now ∷ x.table_7.now ∷ []) x.budgets.now x.excesses.now 0

pub returns-clause-table_0_after : goal.returns-clause-table_0_after
returns-clause-table_0_after c =
    let desks = lent (goal.at.returns-clause-table_0_after c).Start in
    let left : c.desks-answered.new.seat_0.table.now ≡ desks_table desks c.args.count c.args.allowance 0 = left-at desks _ _ _ 0 (omega arith) c.desks-answered.ensures.desks_after in
    search (rules, left)

pub returns-clause-table_1_after : goal.returns-clause-table_1_after
returns-clause-table_1_after c =
    let desks = lent (goal.at.returns-clause-table_1_after c).Start in
    let left : c.desks-answered.new.seat_1.table.now ≡ desks_table desks c.args.count c.args.allowance 1 = left-at desks _ _ _ 1 (omega arith) c.desks-answered.ensures.desks_after in
    search (rules, left)

pub returns-clause-table_2_after : goal.returns-clause-table_2_after
returns-clause-table_2_after c =
    let desks = lent (goal.at.returns-clause-table_2_after c).Start in
    let left : c.desks-answered.new.seat_2.table.now ≡ desks_table desks c.args.count c.args.allowance 2 = left-at desks _ _ _ 2 (omega arith) c.desks-answered.ensures.desks_after in
    search (rules, left)

pub returns-clause-table_3_after : goal.returns-clause-table_3_after
returns-clause-table_3_after c =
    let desks = lent (goal.at.returns-clause-table_3_after c).Start in
    let left : c.desks-answered.new.seat_3.table.now ≡ desks_table desks c.args.count c.args.allowance 3 = left-at desks _ _ _ 3 (omega arith) c.desks-answered.ensures.desks_after in
    search (rules, left)

pub returns-clause-table_4_after : goal.returns-clause-table_4_after
returns-clause-table_4_after c =
    let desks = lent (goal.at.returns-clause-table_4_after c).Start in
    let left : c.desks-answered.new.seat_4.table.now ≡ desks_table desks c.args.count c.args.allowance 4 = left-at desks _ _ _ 4 (omega arith) c.desks-answered.ensures.desks_after in
    search (rules, left)

pub returns-clause-table_5_after : goal.returns-clause-table_5_after
returns-clause-table_5_after c =
    let desks = lent (goal.at.returns-clause-table_5_after c).Start in
    let left : c.desks-answered.new.seat_5.table.now ≡ desks_table desks c.args.count c.args.allowance 5 = left-at desks _ _ _ 5 (omega arith) c.desks-answered.ensures.desks_after in
    search (rules, left)

pub returns-clause-table_6_after : goal.returns-clause-table_6_after
returns-clause-table_6_after c =
    let desks = lent (goal.at.returns-clause-table_6_after c).Start in
    let left : c.desks-answered.new.seat_6.table.now ≡ desks_table desks c.args.count c.args.allowance 6 = left-at desks _ _ _ 6 (omega arith) c.desks-answered.ensures.desks_after in
    search (rules, left)

pub returns-clause-table_7_after : goal.returns-clause-table_7_after
returns-clause-table_7_after c =
    let desks = lent (goal.at.returns-clause-table_7_after c).Start in
    let left : c.desks-answered.new.seat_7.table.now ≡ desks_table desks c.args.count c.args.allowance 7 = left-at desks _ _ _ 7 (omega arith) c.desks-answered.ensures.desks_after in
    search (rules, left)
