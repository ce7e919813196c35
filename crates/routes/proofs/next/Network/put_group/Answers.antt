-- `next::Network::put_group` meets its contract.
use Rattle.std.proofs.Common.{◌<◌, length, arith}
use Rattle.search.specs.Laws.Chains.{linked-two}
use Rattle.routes.proofs.next.Network.put_group.Goals as goal
use Rattle.routes.proofs.next.Network.put_group.Goals.{Start}

-- There are two rows of chains.
two : (c : Start) → 1 < length c.args.self.now.chains.now
two c = linked-two c.requires.all_searchable.1

pub bounds-self-0 : goal.bounds-self-0
bounds-self-0 c = omega (arith, two (goal.at.bounds-self-0 c).Start)

pub bounds-self-1 : goal.bounds-self-1
bounds-self-1 c = two (goal.at.bounds-self-1 c).Start
