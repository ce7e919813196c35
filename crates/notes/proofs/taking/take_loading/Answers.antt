-- `notes::taking::take_loading` meets its contract.
use Prim.Native.Nat.{◌*◌}
use native.Mathlib.Omega.{arith}
use mathlib.Core.Path.{sym, ◌∙◌}
use lib.ListN.{length}
use borrow.Author.Tests.{leb-true}
use Rattle.theory.specs.Laws.Finite.{all-elim}
use Rattle.notes.specs.Laws.Taken.{tested-refused, tested-taken, lessenable}
use Rattle.notes.proofs.taking.take_loading.Goals as goal

pub load_volumes-requires : goal.load_volumes-requires
load_volumes-requires c = let given = c.requires.all_followable in (given.0, given.2)

pub holds_part-requires : goal.holds_part-requires
holds_part-requires c =
    lessenable c.requires.all_followable.0 _ c.load_volumes.ensures (omega (arith, c.requires.all_followable.2)) c.requires.all_followable.1 c.requires.j_lt_share.1

pub returns-then-not-holds_part : goal.returns-then-not-holds_part
returns-then-not-holds_part c =
    tested-refused
    (rw (sym c.load_volumes.ensures) (sym c.holds_part.ensures ∙ c.if-not-holds_part.true))
    c.refused.ensures

pub lessen-requires : goal.lessen-requires
lessen-requires c =
    let yes = sym c.holds_part.ensures ∙ c.if-not-holds_part.false in record { lessenable = lessenable c.requires.all_followable.0 _ c.load_volumes.ensures (omega (arith, c.requires.all_followable.2)) c.requires.all_followable.1 c.requires.j_lt_share.1; by_index = λ i h. leb-true _ _ (all-elim (length c.args.commodities.now * length c.args.links.now) _ yes i h) }

pub overflow_sub-share : goal.overflow_sub-share
overflow_sub-share c = omega (arith, c.requires.j_lt_share.0)

pub returns : goal.returns
returns c =
    let yes = sym c.holds_part.ensures ∙ c.if-not-holds_part.false in
    rw (sym c.load_volumes.ensures) (tested-taken _ _ yes c.taken.ensures c.lessen.ensures)
