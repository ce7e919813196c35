-- `interface::put_desks` meets its contract: the turns stand first, and the rows behind them fill what is left.
use Rattle.std.proofs.Common.{ap, ◌∙◌, arith}
use Rattle.std.specs.List.{flat_map}
use Rattle.interface.specs.Seats.{rows-joined, first-put}
use Rattle.interface.proofs.put_desks.Goals as goal

pub returns : goal.returns
returns c =
    let rows = c.copy_from_slice.ensures.after ∙ c.as_flattened.ensures.value ∙ ap (flat_map (λ x. x)) c.seats_numbers-rows.ensures ∙ rows-joined c.args.answered.seats in
    first-put c.args.answer.now c.args.answered.turns _ _ (omega arith) rows
