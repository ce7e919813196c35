-- `network::packing::write_pair` meets its contract.
use mathlib.Core.Path.{ap, ◌∙◌}
use native.Mathlib.Omega.{arith}
use Prim.Native.Nat.{◌+◌}
use Rattle.calls.specs.Pack.{bytes32}
use Rattle.network.specs.Written.{written}
use Rattle.calls.specs.Laws.Pack.{length32}
use Rattle.network.specs.Laws.Packing.{written-more}
use Rattle.network.proofs.packing.write_pair.Goals as goal

pub returns : goal.returns
returns c =
    let at = c.args.at in
    let offset = c.args.offset in
    let size = c.args.size in
    c.write_u32-2.ensures
    ∙ ap (written (at + 4) (bytes32 size)) c.write_u32.ensures
    ∙ written-more at (at + 4) (bytes32 offset) (bytes32 size) _ (omega (arith, length32 offset)) (omega (arith, length32 size, c.requires))
