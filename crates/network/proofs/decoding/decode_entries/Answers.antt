-- `network::decoding::decode_entries` meets its contract: the lorries' trips fill a part that begins where the cars' end.
use mathlib.Core.Path.{sym}
use Prim.Native.Nat.{◌*◌}
use lib.ListN.{length-take, length-drop}
use native.Mathlib.Omega.{arith}
use Rattle.network.specs.Laws.Decoding.{holds-both, entries-counted, cars-there, lorries-there, entries-held}
use Rattle.network.proofs.decoding.decode_entries.Goals as goal

pub decode_trips-requires : goal.decode_trips-requires
decode_trips-requires c =
    (omega (arith, c.requires.n_in_bounds), cars-there _ _ _ _ c.requires.file_value.1 c.accepted_section.ensures c.requires.file_value.2)

pub decode_trips-requires-2 : goal.decode_trips-requires-2
decode_trips-requires-2 c =
    (simp (length-take, length-drop) (omega (arith, c.requires.n_in_bounds)), lorries-there _ _ _ _ c.requires.file_value.1 c.accepted_section-lorry_bytes.ensures c.requires.file_value.3)

pub returns : goal.returns
returns c =
    entries-held _ _ _ _ c.requires.file_value.1 c.requires.file_value.2 c.requires.file_value.3 c.accepted_section.ensures
    c.accepted_section-lorry_bytes.ensures
    (holds-both _ (c.args.p * c.args.n) c.decode_trips.ensures
    (sym (entries-counted _ (c.args.p * c.args.n))) (omega (arith, c.requires.n_in_bounds)) c.decode_trips-2.ensures)
