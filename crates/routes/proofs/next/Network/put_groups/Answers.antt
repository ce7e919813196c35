-- `next::Network::put_groups` meets its contract.
use Rattle.std.proofs.Common.{◌∙◌, sym, ◌+◌, ◌≤◌, length, arith}
use Rattle.search.specs.Laws.Groups.{group-size, part-searchable, class-part, trips-within}
use Rattle.search.specs.Laws.Trips.{no-trips}
use Rattle.routes.specs.Table.{ChosenBelow}
use Rattle.routes.specs.Laws.Table.{chosen_none, part-size, part-ends, chosen-put, chosen-left, chosen-all}
use Rattle.routes.proofs.next.Network.put_groups.Goals as goal
use Rattle.routes.proofs.next.Network.put_groups.Goals.{Joined-any_trips-used, then-any_trips-used, else-any_trips-used}

pub loop-first-init : goal.loop-first-init
loop-first-init c = chosen_none _ _ _ _ _ _ _

pub put_group-requires-clause-all_searchable : goal.put_group-requires-clause-all_searchable
put_group-requires-clause-all_searchable c =
    let (given, linked) = c.args.self.now.all_searchable in
    let inside = c.loop-first-test.true in
    let past = c.group_end-past.ensures in
    (part-searchable given inside past, rw (class-part given inside past) linked)

pub put_group-requires-clause-few : goal.put_group-requires-clause-few
put_group-requires-clause-few c =
    let inside = c.loop-first-test.true in
    let past = c.group_end-past.ensures in
    let (room, ends) = c.requires in
    let w = c.loop-first.invariant in
    let long : c.group_end-past.result ≤ length c.loop-first.table = omega (arith, past, w.rows.size, room) in
    let size = group-size c.args.self.now.destinations.now inside past in
    (omega (arith, size, past, inside), omega (arith, size, past), part-size w inside past long ∙ sym size, part-ends w inside past ends long)

-- The next links to the destinations of the group are written, or its rows are left as they were.
done : (c : Joined-any_trips-used) →
    let n = c.args.self.now in
    ChosenBelow n.nodes n.links.now n.destinations.now n.trips.now n.times.now c.args.used c.args.table.now (c.loop-first.first + 8) c.if-any_trips-used.table
done c =
    let n = c.args.self.now in
    let inside = c.loop-first-test.true in
    let past = c.group_end-past.ensures in
    let w = c.loop-first.invariant in
    let long : c.group_end-past.result ≤ length c.loop-first.table = omega (arith, past, w.rows.size, c.requires.0) in
    let (low, trips) = trips-within n.destinations.now inside past n.nodes n.trips.now n.trips_len in
    let nobody = no-trips n.nodes n.trips.now c.loop-first.first c.group_end-past.result low trips in
    elim c.if-any_trips-used.branch [
      | then-any_trips-used u ↦ rw u.table-is (chosen-put w inside past _ long (u.put_group.auto.rows ∙ part-size w inside past long) u.put_group.ensures)
      | else-any_trips-used u ↦
          rw u.table-is (chosen-left w inside past c.any_trips.result ((λ e. nobody.0 (c.any_trips.ensures.0 e)), λ h. c.any_trips.ensures.1 (nobody.1 h)) u.if-any_trips-used.false)
    ]

pub loop-first-preserved : goal.loop-first-preserved
loop-first-preserved c = done (goal.at.loop-first-preserved c).Joined-any_trips-used

pub returns : goal.returns
returns c = chosen-all c.loop-first.invariant c.loop-first-test.false

pub returns-after-any_trips-used : goal.returns-after-any_trips-used
returns-after-any_trips-used c = chosen-all (done (goal.at.returns-after-any_trips-used c).Joined-any_trips-used) (omega arith)
