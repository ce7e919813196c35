-- `network::packing::write_u16` meets its contract.
use lib.ListN.{length-set}
use native.Mathlib.Omega.{arith}
use Rattle.network.specs.Laws.Packing.{written-u16}
use Rattle.network.proofs.packing.write_u16.Goals as goal

pub bounds-output-at-2 : goal.bounds-output-at-2
bounds-output-at-2 c = simp length-set (omega arith)

pub returns : goal.returns
returns c = written-u16 _ _ _ c.requires
