-- `desks::waiting::turns_made` meets its contract: no sum of the first seats' turns is above that of all.
use Rattle.std.proofs.Common.{sym, ◌∙◌, arith}
use Rattle.theory.specs.Laws.Finite.{sum-suc}
use Rattle.desks.specs.Rounds.{turns_had}
use Rattle.desks.specs.Laws.Rounds.{made-before, made-all, sum-none}
use Rattle.desks.proofs.waiting.turns_made.Goals as goal

pub loop-seat-init : goal.loop-seat-init
loop-seat-init c = sym (sum-none (turns_had c.args.answers.now))

pub overflow_add-made : goal.overflow_add-made
overflow_add-made c =
    omega (arith, made-before c.args.answers.now c.loop-seat.seat (omega arith), sum-suc c.loop-seat.seat (turns_had c.args.answers.now))

pub loop-seat-preserved : goal.loop-seat-preserved
loop-seat-preserved c = omega (arith, sum-suc c.loop-seat.seat (turns_had c.args.answers.now))

pub returns : goal.returns
returns c = c.loop-seat.invariant ∙ made-all c.args.answers.now c.loop-seat.seat (omega arith)
