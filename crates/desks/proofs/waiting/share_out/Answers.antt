-- `desks::waiting::share_out` meets its contract: no sum of the first seats is above that of all.
use Rattle.std.proofs.Common.{◌+◌, cond, sym, ap, ◌∙◌, arith}
use Rattle.theory.specs.Laws.Finite.{sum-suc}
use Rattle.desks.specs.Rounds.{turns_had, waits_at}
use Rattle.desks.specs.Laws.Rounds.{waiting-before, waiting-most, count-before, count-all, waiting-all, sum-none}
use Rattle.desks.proofs.waiting.share_out.Goals as goal

pub loop-seat-init : goal.loop-seat-init
loop-seat-init c =
    let answers = c.args.answers.now in
    record {
      counted = sym (sum-none (λ i. cond (waits_at answers i) 1 0));
      added = omega (arith, sum-none (λ i. cond (waits_at answers i) (turns_had answers i) 0));
    }

pub overflow_add-waiting : goal.overflow_add-waiting
overflow_add-waiting c =
    let answers = c.args.answers.now in
    omega (arith, count-before answers c.loop-seat.seat (omega arith), sum-suc c.loop-seat.seat (λ i. cond (waits_at answers i) 1 0), c.if_waiting-waiting.ensures, c.loop-seat.invariant.counted)

pub overflow_add-turns : goal.overflow_add-turns
overflow_add-turns c =
    let answers = c.args.answers.now in
    omega (
      arith,
      waiting-before answers (turns_had answers) c.loop-seat.seat (omega arith),
      waiting-most answers,
      sum-suc c.loop-seat.seat (λ i. cond (waits_at answers i) (turns_had answers i) 0),
      c.if_waiting-turns.ensures,
      c.loop-seat.invariant.added,
    )

pub loop-seat-preserved : goal.loop-seat-preserved
loop-seat-preserved c =
    let answers = c.args.answers.now in
    record {
      counted = omega (arith, sum-suc c.loop-seat.seat (λ i. cond (waits_at answers i) 1 0), c.if_waiting-waiting.ensures, c.loop-seat.invariant.counted);
      added = omega (arith, sum-suc c.loop-seat.seat (λ i. cond (waits_at answers i) (turns_had answers i) 0), c.if_waiting-turns.ensures, c.loop-seat.invariant.added);
    }

pub returns : goal.returns
returns c =
    let answers = c.args.answers.now in
    record {
      waiting = c.loop-seat.invariant.counted ∙ count-all answers c.loop-seat.seat (omega arith);
      turns = c.loop-seat.invariant.added ∙ ap (λ n. c.args.left + n) (waiting-all answers (turns_had answers) c.loop-seat.seat (omega arith));
    }
