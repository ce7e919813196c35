-- `desks::rounds::open_desks` meets its contract: each visit serves the desk of one seat.
use Rattle.std.proofs.Common.{refl, ◌∙◌, arith}
use Rattle.std.proofs.lemmas.List.{length-set}
use Rattle.desks.specs.Rounds.{every}
use Rattle.desks.specs.Laws.Rounds.{going-served}
use Rattle.desks.proofs.rounds.open_desks.Goals as goal

pub loop-seat-preserved : goal.loop-seat-preserved
loop-seat-preserved c =
    let was = c.loop-seat.invariant in
    let served = c.serve_seat.ensures in
    record {
      same-references = served.same_references ∙ was.same-references;
      answers-long = length-set c.loop-seat.answers c.loop-seat.seat _ ∙ was.answers-long;
      under-way = going-served every c.args.round c.loop-seat.seat _ _ _ c.loop-seat.answers _ c.turns_at.ensures _ _ _ (omega arith) was.answers-long refl served.value refl served.desks_after was.under-way refl;
    }
