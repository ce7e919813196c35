-- `network::decoding::decode_commodities` meets its contract: the destinations for cars are read, and then those for lorries.
use native.Mathlib.Omega.{arith}
use Rattle.study.specs.Laws.{accepted}
use Rattle.network.specs.Laws.Decoding.{lorries-most, destinations-there, commodities-held}
use Rattle.network.proofs.decoding.decode_commodities.Goals as goal

pub decode_destinations-requires : goal.decode_destinations-requires
decode_destinations-requires c =
    let few = (accepted _ c.requires.file_value.0).destinations-most in
    (omega (arith, c.requires.file_value), destinations-there _ c.accepted_section-bytes.ensures (omega (arith, c.requires.file_value)), c.requires.commodities_len)

pub decode_lorries-requires : goal.decode_lorries-requires
decode_lorries-requires c =
    let few = (accepted _ c.requires.file_value.0).destinations-most in
    let lorries = lorries-most c.args.file.now in
    (omega (arith, c.requires.file_value), destinations-there _ c.accepted_section-bytes.ensures (omega (arith, c.requires.file_value)), c.decode_destinations.ensures)

pub returns : goal.returns
returns c =
    commodities-held _ _ _ c.requires.file_value.1 c.requires.file_value.2 c.accepted_section-bytes.ensures c.decode_lorries.ensures
