-- `turn_table` meets its contract: the table is judged by what is computed of it, and each way on is the one that its gap and j give.
use Prim.Native.Nat.{◌*◌}
use mathlib.Core.Path.{◌≡◌, refl, sym, ◌∙◌, ap}
use mathlib.Core.Bool.{true}
use native.Mathlib.Nat.{mul-le-mul}
use native.Mathlib.Omega.{arith}
use borrow.Author.Tests.{eqb-true}
use Rattle.study.proofs.Flags.{was-yes, was-no}
use Rattle.theory.specs.Cost.{gap}
use Rattle.theory.specs.Study.{network}
use Rattle.theory.specs.Moves.{moves}
use Rattle.calls.specs.Calls.{share_after, table_after}
use Rattle.judging.specs.Study.{move_of}
use Rattle.moves.specs.Moves.{can_move}
use Rattle.judging.specs.Laws.Judged.{known-lent, totals-lent, share-fits, totals-within, left-still, gap_is, gap-fits, move-fits, movable, totals-movable, totals-moved, move-is, moves-is}
use Rattle.judging.specs.Laws.Doubled.{known-moved}
use Rattle.judging.specs.Laws.Turns.{reached, finest, spent, moved}
use Rattle.judging.proofs.turns.turn_table.Goals as goal
use Rattle.judging.proofs.turns.turn_table.Goals.{After-chosen-j, After-gap_of-gap, Else-not-can_move}

-- The gap is the table's.
gap_of :
    (c : After-gap_of-gap) →
    let x = c.args in
    c.gap_of-gap.result ≡ gap (network x.nodes x.links.now x.commodities.now x.trips.now) x.standing.share x.table.now
gap_of c =
    c.gap_of-gap.ensures ∙ gap_is c.requires.judgeable.0 c.judge.ensures c.requires.stands.totals-are

-- Whether there is a move.
can-move-is :
    (c : After-chosen-j) →
    let x = c.args in
    let share = x.standing.share in
    moves (move_of (network x.nodes x.links.now x.commodities.now x.trips.now) x.table.now share) ≡ can_move share c.chosen-j.result
can-move-is c =
    sym (moves-is c.requires.judgeable.0 c.judge.ensures c.requires.stands.totals-are c.chosen-j.ensures)

can-move-yes : (c : Else-not-can_move) → can_move c.args.standing.share c.chosen-j.result ≡ true
can-move-yes c = was-yes c.can_move.ensures c.if-not-can_move.false

pub judge-requires : goal.judge-requires
judge-requires c =
    let (judgeable, prepared, curves) = c.requires.judgeable in let lent = c.requires.lent in let stands = c.requires.stands in
    record { ready = (judgeable.ready, share-fits judgeable, prepared); known = stands.known; lent = (lent, totals-within judgeable stands.totals-are) }

pub gap_of-gap-requires : goal.gap_of-gap-requires
gap_of-gap-requires c = gap-fits c.requires.judgeable.0 c.judge.ensures c.requires.stands.totals-are

pub overflow_mul-standing : goal.overflow_mul-standing
overflow_mul-standing c =
    omega (arith, mul-le-mul {n₂ = 65535 * 65535} {m₂ = 1024} c.requires.stands.limit-fits c.requires.judgeable.0.share-most)

pub returns-then-gap-standing : goal.returns-then-gap-standing
returns-then-gap-standing c = let gap-was = gap_of (goal.at.returns-then-gap-standing c).After-gap_of-gap in
    rw c.turned.ensures (
    record {
      turned = record { step_is = reached _ _ _ _ _ gap-was c.if-gap-standing.true; gap_is = gap-was; share-is = refl; table_is = refl };
      left = left-still c.requires.judgeable.0 c.judge.ensures c.requires.stands.totals-are;
    }
    )

pub chosen-j-requires : goal.chosen-j-requires
chosen-j-requires c = (move-fits c.requires.judgeable.0 c.judge.ensures c.requires.stands.totals-are, c.requires.judgeable.2)

pub returns-then-not-can_move : goal.returns-then-not-can_move
returns-then-not-can_move c = let at = goal.at.returns-then-not-can_move c in
    let gap-was = gap_of at.After-gap_of-gap in
    let none = can-move-is at.After-chosen-j ∙ was-no c.can_move.ensures c.if-not-can_move.true in
    rw c.turned-then-not-can_move.ensures (
    record {
      turned = record { step_is = finest _ _ _ _ _ gap-was c.if-gap-standing.false none; gap_is = gap-was; share-is = refl; table_is = refl };
      left = left-still c.requires.judgeable.0 c.judge.ensures c.requires.stands.totals-are;
    }
    )

pub returns-then-standing : goal.returns-then-standing
returns-then-standing c = let at = goal.at.returns-then-standing c in
    let gap-was = gap_of at.After-gap_of-gap in
    let some = can-move-is at.After-chosen-j ∙ can-move-yes at.Else-not-can_move in
    rw c.turned-then-standing.ensures (
    record {
      turned =
          record {
            step_is = spent _ _ _ _ _ gap-was c.if-gap-standing.false some c.if-standing.true;
            gap_is = gap-was;
            share-is = refl;
            table_is = refl;
          };
      left = left-still c.requires.judgeable.0 c.judge.ensures c.requires.stands.totals-are;
    }
    )

pub move_totals-requires : goal.move_totals-requires
move_totals-requires c = totals-movable c.requires.judgeable.0 c.judge.ensures c.requires.stands.totals-are c.chosen-j.ensures

pub move_table-after-requires : goal.move_table-after-requires
move_table-after-requires c = movable c.requires.judgeable.0 c.judge.ensures c.requires.stands.totals-are c.chosen-j.ensures

pub returns : goal.returns
returns c = let at = goal.at.returns c in
    let judgeable = c.requires.judgeable.0 in
    let known = c.judge.ensures in
    let totals-were = c.requires.stands.totals-are in
    let gap-was = gap_of at.After-gap_of-gap in
    let can = can-move-yes at.Else-not-can_move in
    let next = move-is judgeable known totals-were c.chosen-j.ensures in
    rw c.turned-2.ensures (
    record {
      turned =
          record {
            step_is = moved _ _ _ _ _ gap-was c.if-gap-standing.false (can-move-is at.After-chosen-j ∙ can) c.if-standing.false;
            gap_is = gap-was;
            share-is = c.move_table-after.ensures.value ∙ ap (share_after c.args.standing.share) next;
            table_is = c.move_table-after.ensures.table_after ∙ ap (table_after c.args.table.now) next;
          };
      left =
          record {
            lent = totals-lent _ (known-lent judgeable.ready known.known) c.move_totals.ensures;
            totals-are =
                totals-moved judgeable known totals-were c.chosen-j.ensures can c.move_totals.ensures
                c.move_table-after.ensures.table_after;
            known = λ e.
                known-moved judgeable.ready known.known c.args.table.now can (eqb-true _ _ e) c.move_table-after.ensures.value
                c.move_totals.ensures;
          };
    }
    )
