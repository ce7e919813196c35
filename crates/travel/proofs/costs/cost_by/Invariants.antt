-- The invariant of `cost_by`: the areas of the links passed are added, and those of them that are over are counted.
use Rattle.std.proofs.Common.{◌≡◌, length}
use Rattle.travel.specs.Laws.Costs.{cost_to, over_to}
use Rattle.travel.proofs.costs.cost_by.Given as goal

abbrev pub invariant-loop-link : goal.invariant-loop-link
invariant-loop-link g l =
    (l.cost ≡ cost_to l.links l.share l.flows (length l.yielded)) × (l.over ≡ over_to l.links l.share l.flows (length l.yielded))
