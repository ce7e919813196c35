-- The loop's invariant: the chosen groups of those before `first` are written, and the other rows are as they were.
use Rattle.routes.specs.Table.{ChosenBelow}
use Rattle.routes.proofs.next.Network.put_groups.Given as goal

abbrev pub invariant-loop-first : goal.invariant-loop-first
invariant-loop-first l =
    ChosenBelow l.self.nodes l.self.links.now l.self.destinations.now l.self.trips.now l.self.times.now l.used l.initial.table l.first l.table
