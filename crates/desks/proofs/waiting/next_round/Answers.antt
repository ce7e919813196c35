-- `desks::waiting::next_round` meets its contract: the turns are shared with what is over.
use Rattle.std.proofs.Common.{refl}
use Rattle.std.proofs.Math.Nat.{div-le_self}
use Rattle.desks.specs.Laws.Rounds.{round-shares}
use Rattle.desks.proofs.waiting.next_round.Goals as goal

pub returns-clause-turns : goal.returns-clause-turns
returns-clause-turns c =
    round-shares c.args.answers.now _ _ _ c.requires.some c.requires.waiting c.seat_after-before.ensures.few refl c.seat_after-before.ensures.counted

pub returns-clause-whole : goal.returns-clause-whole
returns-clause-whole c = div-le_self c.args.shared.turns c.args.shared.waiting
