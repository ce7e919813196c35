-- `passes::take_by_note` meets its contract: the rows that it lends hold all that is taken back.
use Prim.Native.Nat.{◌≤◌}
use native.Mathlib.Omega.{arith}
use lib.ListN.{length}
use Rattle.passes.proofs.taking.take_by_note.Goals as goal

pub take_back_table-requires-2 : goal.take_back_table-requires-2
take_back_table-requires-2 c =
    let few : length c.args.commodities.now ≤ 32 = omega (arith, c.if-car_count-commodities.false, c.car_count.ensures.0, c.requires.1) in
    record { takeable = c.requires.0; commodities_in_bounds = (few, few) }
