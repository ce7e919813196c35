-- `least::least_times` meets its contract.
use Rattle.std.proofs.Common.{ℕ, ◌+◌, ◌-◌, ◌*◌, ◌≤◌, ◌<◌, ◌≡◌, sym, ◌∙◌, min, length, get_or, mul-le-mul_right, arith}
use Rattle.search.specs.Groups.{Member}
use Rattle.search.specs.Least.{most_at_node, least_below}
use Rattle.search.specs.Laws.Groups.{trips-within, member-of, group-class, members-searchable}
use Rattle.search.specs.Laws.Trips.{trips-to-size, no-trips}
use Rattle.search.specs.Laws.Least.{first-adds, all_none, all_more, all-skip, all-below}
use Rattle.search.proofs.least.least_times.Goals as goal
use Rattle.search.proofs.least.least_times.Goals.{After-group_of-group, Joined-any_trips, then-any_trips, else-any_trips}

pub loop-first-init : goal.loop-first-init
loop-first-init c = (sym (all_none _ _ _ _ _), omega arith)

-- The destinations are a group of them all.
members : (c : After-group_of-group) → (i : ℕ) → i < 8 → Member c.args.destinations.now c.loop-first.first i (get_or c.group_of-group.result i 0)
members c i b = member-of c.args.destinations.now c.loop-first-test.true c.group_end-past.ensures b (c.group_of-group.ensures i b)

pub search-requires : goal.search-requires
search-requires c =
    let (given, chain) = c.requires.all_searchable in
    let group = c.group_of-group.result in
    let own = members (goal.at.search-requires c).After-group_of-group in
    (members-searchable given group own, rw (group-class given group own) chain)

pub least_to_group-least-requires : goal.least_to_group-least-requires
least_to_group-least-requires c =
    let x = c.args in
    let past = c.group_end-past.result in
    let first = c.loop-first.first in
    let (low, long) = trips-within x.destinations.now c.loop-first-test.true c.group_end-past.ensures x.nodes x.trips.now c.requires.trips_len in
    let size = trips-to-size x.nodes x.trips.now first past low long in
    let few : (past - first) * x.nodes ≤ 8 * x.nodes = mul-le-mul_right x.nodes (omega (arith, c.group_end-past.ensures)) in
    let given = c.requires.all_searchable.0 in
    (omega (arith, given.destination-node first c.loop-first-test.true), given.roads.few-nodes, omega (arith, size, few), c.search.ensures.marked)

-- The destinations of the group are added, or there is nothing to add.
added : (c : Joined-any_trips) →
    let x = c.args in
    let past = c.loop-first.first + 8 in
    (c.if-any_trips.least ≡ least_below x.nodes x.links.now x.destinations.now x.trips.now x.times.now (min past (length x.destinations.now)))
    × (c.if-any_trips.least ≤ past * (128 * most_at_node))
added c =
    let x = c.args in
    let past = c.group_end-past.result in
    let first = c.loop-first.first in
    let (low, long) = trips-within x.destinations.now c.loop-first-test.true c.group_end-past.ensures x.nodes x.trips.now c.requires.trips_len in
    let inside = c.loop-first-test.true in
    let ends = c.group_end-past.ensures in
    let size = trips-to-size x.nodes x.trips.now first past low long in
    let (so_far, small) = c.loop-first.invariant in
    elim c.if-any_trips.branch [
      | then-any_trips w ↦
          let own = w.least_to_group-least.ensures (past - first) size in
          rw w.least-is (
            all_more x.nodes x.links.now x.destinations.now x.trips.now x.times.now inside ends so_far long
                (λ i b. member-of x.destinations.now inside ends b (w.group_of-group.ensures i b)) w.search.ensures own,
            omega (arith, small, first-adds own (omega (arith, ends))),
          )
      | else-any_trips w ↦ rw w.least-is (
        all-skip x.nodes x.links.now x.destinations.now x.trips.now x.times.now inside ends so_far
            ((no-trips x.nodes x.trips.now first past low long).0 (c.any_trips.ensures.0 w.if-any_trips.false)),
        omega (arith, small),
      )
    ]

pub overflow_add-least : goal.overflow_add-least
overflow_add-least c =
    let x = c.args in
    let past = c.group_end-past.result in
    let first = c.loop-first.first in
    let (low, long) = trips-within x.destinations.now c.loop-first-test.true c.group_end-past.ensures x.nodes x.trips.now c.requires.trips_len in
    let own = c.least_to_group-least.ensures (past - first) (trips-to-size x.nodes x.trips.now first past low long) in
    omega (arith, c.loop-first.invariant.1, first-adds own (omega (arith, c.group_end-past.ensures)), c.loop-first-test.true, c.requires.all_searchable.0.few-destinations)

pub loop-first-preserved : goal.loop-first-preserved
loop-first-preserved c = added (goal.at.loop-first-preserved c).Joined-any_trips

pub returns : goal.returns
returns c = c.loop-first.invariant.0 ∙ all-below _ _ _ _ _ c.loop-first-test.false

pub returns-after-any_trips : goal.returns-after-any_trips
returns-after-any_trips c = (added (goal.at.returns-after-any_trips c).Joined-any_trips).0 ∙ all-below _ _ _ _ _ (omega arith)
