-- `network::packing::write_study` meets its contract: the sections follow the header.
use native.Mathlib.Omega.{arith}
use Rattle.study.specs.Laws.{accepted}
use Rattle.network.specs.Laws.Packing.{header-fits, study-written}
use Rattle.network.proofs.packing.write_study.Goals as goal

pub version-requires : goal.version-requires
version-requires c = (accepted _ c.requires.counts.1).length-least

pub write_header-requires : goal.write_header-requires
write_header-requires c =
    let counts = c.requires.counts.0 in
    let room = header-fits c.args.file.now in (
      rw c.version.ensures (accepted _ c.requires.counts.1).version-known,
      rw c.version.ensures (omega (arith, room, c.requires.file_in_bounds)),
      (counts.nodes-most, counts.links-most, counts.destinations-most),
    )

pub returns : goal.returns
returns c =
    study-written _ _ c.requires.counts.0 (accepted _ c.requires.counts.1).version-known c.requires.file_in_bounds (rw c.version.ensures at c.write_header.ensures) c.write_sections.ensures
