-- `network::packing::write_counts` meets its contract: each count extends the bytes written.
use mathlib.Core.List.{[], ◌++◌}
use mathlib.Core.Path.{refl}
use native.Mathlib.Omega.{arith}
use Rattle.calls.specs.Pack.{bytes16}
use Rattle.network.specs.Laws.Packing.{overwritten-none, overwritten-more}
use Rattle.network.proofs.packing.write_counts.Goals as goal

pub returns : goal.returns
unfolding bytes16
returns c =
    let old = c.args.output.now in
    let v = bytes16 c.args.version in
    let n = bytes16 c.args.n in
    let m = bytes16 c.args.m in
    let p = bytes16 c.args.p in
    let one = overwritten-more old [] v 0 refl (omega (arith, c.requires)) (overwritten-none old) c.write_u16.ensures in
    let two = overwritten-more old v n 2 refl (omega (arith, c.requires)) one c.write_u16-2.ensures in
    let three = overwritten-more old (v ++ n) m 4 refl (omega (arith, c.requires)) two c.write_u16-3.ensures in
    overwritten-more old (v ++ n ++ m) p 6 refl (omega (arith, c.requires)) three c.write_u16-4.ensures
