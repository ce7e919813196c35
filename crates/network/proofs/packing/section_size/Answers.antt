-- `network::packing::section_size` meets its contract.
use Rattle.calls.specs.Laws.Pack.{size-most}
use Rattle.network.proofs.packing.section_size.Goals as goal

pub returns : goal.returns
returns c =
    let bounds = c.requires.1 in
    (c.section_size.ensures, rw c.section_size.ensures (size-most c.requires.0 bounds.0 bounds.1 bounds.2 c.args.section))
