-- `move_table` meets its contract: it adds, or doubles, or does not move.
use native.Mathlib.Nat.{mul-le-mul}
use native.Mathlib.Omega.{arith}
use Rattle.moves.specs.Laws.Moves.{movable-adds, movable-doubles, moved-adds, moved-doubles, moved-rests}
use Rattle.moves.proofs.moves.move_table.Goals as goal

pub add_classes-requires : goal.add_classes-requires
add_classes-requires c = movable-adds c.requires

pub returns-then-j-gt0 : goal.returns-then-j-gt0
returns-then-j-gt0 c = let moved = moved-adds c.requires c.if-j-gt0.true c.add_classes.ensures in
    record { value = moved.0; table_after = moved.1 }

pub overflow_mul-commodities : goal.overflow_mul-commodities
overflow_mul-commodities c = let given = c.requires in
    omega (arith, mul-le-mul {n₂ = 64} {m₂ = 512} given.few-commodities given.few-links)

pub double_flows-requires : goal.double_flows-requires
double_flows-requires c = let given = c.requires in
    (given.holds, movable-doubles given c.if-share-le1024.true)

pub returns-then-share-le1024 : goal.returns-then-share-le1024
returns-then-share-le1024 c = let given = c.requires in
    let moved = moved-doubles given c.if-j-gt0.false c.if-share-le1024.true c.double_flows.ensures in
    record { value = moved.0; table_after = moved.1 }

pub returns : goal.returns
returns c = let moved = moved-rests c.requires c.if-j-gt0.false c.if-share-le1024.false in
    record { value = moved.0; table_after = moved.1 }
