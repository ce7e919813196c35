-- `network::packing::write_u32` meets its contract.
use mathlib.Core.Path.{ap, ◌∙◌}
use Prim.Native.Nat.{◌+◌, ◌/◌}
use Rattle.calls.specs.Pack.{bytes16}
use Rattle.network.specs.Written.{written}
use Rattle.network.specs.Laws.Packing.{written-u32}
use Rattle.network.proofs.packing.write_u32.Goals as goal

pub returns : goal.returns
returns c =
    c.write_u16-2.ensures
    ∙ ap (written (c.args.at + 2) (bytes16 (c.args.x / 65536))) c.write_u16.ensures
    ∙ written-u32 _ _ _ c.requires
