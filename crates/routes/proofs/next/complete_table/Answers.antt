-- `next::complete_table` meets its contract.
use Rattle.std.proofs.Common.{ℕ, ◌≡◌, ◌<◌, [], length, get_or, take, length-take-le, get_or-take, arith}
use Rattle.routes.specs.Laws.Table.{next-ends}
use Rattle.routes.proofs.next.complete_table.Goals as goal
use Rattle.routes.proofs.next.complete_table.Goals.{Start}

own : (c : Start) → (k : ℕ) → k < length c.args.destinations.now
    → get_or (take (length c.args.destinations.now) c.args.table.now) k [] ≡ get_or c.args.table.now k []
own c k b = get_or-take (length c.args.destinations.now) c.args.table.now k [] b

pub put_groups-requires : goal.put_groups-requires
put_groups-requires c =
    let x = c.args in
    let room = c.requires.nexts.size in
    let size = length-take-le (length x.destinations.now) x.table.now room in (
      size,
      record {
        long = λ k b. rw (own (goal.at.put_groups-requires c).Start k (omega (arith, size))) (c.told-table k (omega (arith, size, room)));
        rest = λ k b.
            rw (own (goal.at.put_groups-requires c).Start k (omega (arith, size)))
            (next-ends x.links.now x.destinations.now x.trips.now x.times.now k c.requires.all_searchable.0.roads.few-nodes (c.requires.nexts.row k (omega (arith, size))));
      },
    )
