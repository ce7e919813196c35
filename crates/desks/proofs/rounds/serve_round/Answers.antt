-- `desks::rounds::serve_round` meets its contract: each visit serves the desk of one seat, or passes over it.
use Rattle.std.proofs.Common.{refl, sym, ◌∙◌, arith}
use Rattle.std.proofs.lemmas.List.{length-set}
use Rattle.desks.specs.Laws.Rounds.{going-served, going-past, still-behind}
use Rattle.desks.proofs.rounds.serve_round.Goals as goal
use Rattle.desks.proofs.rounds.serve_round.Goals.{then-serves, else-serves}

pub loop-seat-preserved : goal.loop-seat-preserved
loop-seat-preserved c =
    let was = c.loop-seat.invariant in
    let tested = c.serves.ensures ∙ still-behind _ c.args.round c.loop-seat.seat _ _ _ c.loop-seat.answers _ c.turns_at-until.ensures was.under-way in
    elim c.if-serves.branch [
      | then-serves w ↦
          let served = w.serve_seat.ensures in
          rw (w.seat_0-is, w.seat_1-is, w.seat_2-is, w.seat_3-is, w.seat_4-is, w.seat_5-is, w.seat_6-is, w.seat_7-is, w.answers-is)
          (record {
            same-references = served.same_references ∙ was.same-references;
            answers-long = length-set c.loop-seat.answers c.loop-seat.seat _ ∙ was.answers-long;
            under-way = going-served _ c.args.round c.loop-seat.seat _ _ _ c.loop-seat.answers _ c.turns_at-until.ensures _ _ _ (omega arith) was.answers-long refl served.value refl served.desks_after was.under-way (sym tested ∙ w.if-serves.true);
          })
      | else-serves w ↦
          rw (w.seat_0-is, w.seat_1-is, w.seat_2-is, w.seat_3-is, w.seat_4-is, w.seat_5-is, w.seat_6-is, w.seat_7-is, w.answers-is)
          (record {
            same-references = was.same-references;
            answers-long = was.answers-long;
            under-way = going-past _ c.args.round c.loop-seat.seat _ _ _ c.loop-seat.answers _ c.turns_at-until.ensures was.under-way (sym tested ∙ w.if-serves.false);
          })
    ]
