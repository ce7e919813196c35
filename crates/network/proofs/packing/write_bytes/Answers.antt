-- `network::packing::write_bytes` meets its contract: the first i bytes are written.
use borrow.Author.Rules.{rules}
use lib.ListN.{set, get_or, length-set}
use lib.Seq.{take_all}
use mathlib.Core.Path.{refl, ap, ◌∙◌}
use native.Mathlib.Omega.{arith}
use Prim.Native.Nat.{◌+◌}
use Rattle.network.specs.Written.{written}
use Rattle.network.specs.Laws.Packing.{written_none, written_next}
use Rattle.network.proofs.packing.write_bytes.Goals as goal

pub loop-i-init : goal.loop-i-init
loop-i-init c = (search rules, written_none _ _, refl)

pub bounds-output-at : goal.bounds-output-at
bounds-output-at c = omega (arith, c.requires)

pub loop-i-preserved : goal.loop-i-preserved
loop-i-preserved c =
    let i = c.loop-i.i in (
      omega arith,
      ap (λ output. set output (c.args.at + i) (get_or c.args.bytes.now i 0)) c.loop-i.invariant.1
          ∙ written_next _ _ i _ (search rules) c.requires,
      simp length-set c.loop-i.invariant.2,
    )

pub shape_of-output : goal.shape_of-output
shape_of-output c = c.loop-i.invariant.2

pub returns : goal.returns
returns c =
    c.loop-i.invariant.1
    ∙ ap (λ bytes. written c.args.at bytes c.args.output.now) (take_all c.loop-i.i c.args.bytes.now c.loop-i-test.false)
