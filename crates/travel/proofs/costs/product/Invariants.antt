-- The invariant of `product`: the products of the links passed are added.
use Rattle.std.proofs.Common.{◌≡◌, length}
use Rattle.travel.specs.Links.{list_product}
use Rattle.travel.proofs.costs.product.Given as goal

abbrev pub invariant-loop-time : goal.invariant-loop-time
invariant-loop-time l = l.spent ≡ list_product (length l.yielded) l.times l.flows
