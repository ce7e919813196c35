-- `network::decoding::mark_barred` meets its contract. The loop's invariant: the rows of the links below `l` have their marks. The measure is what
-- is left of the links.
use borrow.Author.Rules.{rules}
use mathlib.Core.List.{[]}
use mathlib.Core.Path.{◌≡◌, ◌∙◌, ap}
use lib.ListN.{get_or, set}
use native.Mathlib.Omega.{arith}
use Prim.Native.Nat.{◌+◌, ◌*◌}
use Rattle.calls.specs.Study.{as_mark}
use Rattle.network.specs.Decoded.{barred_marked}
use Rattle.network.specs.Laws.Decoding.{changed-none, changed-more, still-markable, barred-none}
use Rattle.network.proofs.decoding.mark_barred.Goals as goal

pub returns-then-barred-eq0 : goal.returns-then-barred-eq0
returns-then-barred-eq0 c = barred-none _ _ _ c.if-barred-eq0.true

pub loop-l-init : goal.loop-l-init
loop-l-init c = (search rules, changed-none _ _)

pub with_mark-requires : goal.with_mark-requires
with_mark-requires c = (still-markable _ c.requires.1 c.loop-l.invariant.1 (omega arith), omega (arith, c.mark.ensures.1))

pub loop-l-preserved : goal.loop-l-preserved
loop-l-preserved c =
    let turn = c.loop-l in
    let row = get_or turn.links turn.l [] in (
      search rules,
      changed-more (barred_marked c.args.barred.now) (omega (arith, c.requires.0)) turn.invariant.1
          (c.with_mark.ensures ∙ ap (λ mark. set row 5 (get_or row 5 0 + 2 * mark)) (c.mark.ensures.0 ∙ ap as_mark c.mark_byte.ensures)),
    )

pub returns : goal.returns
returns c =
    let last : c.loop-l.l ≡ c.args.m = omega arith in
    rw last at c.loop-l.invariant.1
