-- `least::least_to` meets its contract.
use Rattle.std.proofs.Common.{◌+◌, ◌*◌, ◌<◌, arith}
use Rattle.search.specs.Least.{LeastTo}
use Rattle.search.specs.Laws.Lanes.{row-most}
use Rattle.search.specs.Laws.Least.{least-none, least_more}
use Rattle.search.proofs.least.least_to.Goals as goal
use Rattle.search.proofs.least.least_to.Goals.{After-from-in-loop-j}

pub loop-j-init : goal.loop-j-init
loop-j-init c = least-none _ _ _

-- One more node is added.
more : (c : After-from-in-loop-j) →
    let x = c.args in LeastTo x.trips.now x.marks.now x.k (c.loop-j.j + 1) (c.loop-j.least + c.from.result * c.from-in-loop-j.result)
more c =
    let x = c.args in
    let j = c.loop-j.j in
    let node : j < 128 = omega (arith, c.requires.0, c.loop-j-test.true) in
    rw (c.from.ensures, c.from-in-loop-j.ensures)
    (least_more x.trips.now x.marks.now x.k j c.loop-j.least node (omega (arith, c.type_inv.trips j)) (row-most x.marks.now c.requires.2 node x.k c.requires.1) c.loop-j.invariant)

pub overflow_add-least : goal.overflow_add-least
overflow_add-least c = omega (arith, (more c).most, c.requires.0, c.loop-j-test.true)

pub loop-j-preserved : goal.loop-j-preserved
loop-j-preserved c = more c
