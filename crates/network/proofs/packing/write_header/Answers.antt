-- `network::packing::write_header` meets its contract: the pairs follow the counts.
use Rattle.network.specs.Laws.Packing.{header-written}
use Rattle.network.proofs.packing.write_header.Goals as goal

pub returns : goal.returns
returns c =
    header-written _ _ _ _ _ c.requires.0 c.requires.1 c.write_counts.ensures c.write_pairs.ensures
