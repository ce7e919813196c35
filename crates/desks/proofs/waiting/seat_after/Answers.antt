-- `desks::waiting::seat_after` meets its contract: all waiting desks are as many as are asked for, at least.
use Rattle.std.proofs.Common.{◌≡◌, cond, refl, ap, arith}
use Rattle.theory.specs.Finite.{count}
use Rattle.theory.specs.Laws.Finite.{sum-suc}
use Rattle.desks.specs.Rounds.{waits_at}
use Rattle.desks.specs.Laws.Rounds.{one-most, count-all, sum-none}
use Rattle.desks.proofs.waiting.seat_after.Goals as goal

pub loop-seat-init : goal.loop-seat-init
loop-seat-init c = omega (arith, sum-none (λ i. cond (waits_at c.args.answers.now i) 1 0))

pub loop-seat-preserved : goal.loop-seat-preserved
loop-seat-preserved c =
    let waits = waits_at c.args.answers.now in
    omega (arith, c.loop-seat.invariant, sum-suc c.loop-seat.seat (λ i. cond (waits i) 1 0), c.if_waiting-rest.ensures, one-most (waits c.loop-seat.seat))

pub returns-clause-counted : goal.returns-clause-counted
returns-clause-counted c =
    let waits = waits_at c.args.answers.now in
    omega (arith, c.requires, c.loop-seat.invariant, ap (λ n. count n waits) (let end : c.loop-seat.seat ≡ 8 = omega arith in end), count-all c.args.answers.now 8 refl)
