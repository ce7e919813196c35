-- `network::decoding::decode_rows` meets its contract: the fields of the links are read, and their marks are joined to them.
use mathlib.Core.List.{[]}
use native.Mathlib.Omega.{arith}
use Rattle.network.specs.Laws.Decoding.{links-there, rows-markable, closed-markable, rows-marked, rows-held}
use Rattle.network.proofs.decoding.decode_rows.Goals as goal

pub decode_links-requires : goal.decode_links-requires
decode_links-requires c =
    (c.requires.2, rw c.link_size-size.ensures (links-there _ c.accepted_section-bytes.ensures c.requires.1))

pub mark_closed-requires : goal.mark_closed-requires
mark_closed-requires c =
    let read = c.decode_links.ensures in
    (omega (arith, c.requires.2, read.long), rows-markable _ _ [] [] _ read)

pub mark_barred-requires : goal.mark_barred-requires
mark_barred-requires c =
    let read = c.decode_links.ensures in
    let once = c.mark_closed.ensures in
    (omega (arith, c.requires.2, read.long, once.long), closed-markable _ _ _ [] _ read once)

pub returns : goal.returns
returns c =
    rows-held _ _ c.requires.1 c.accepted_section-bytes.ensures c.link_size-size.ensures c.accepted_section-closed.ensures c.accepted_section-barred.ensures
    (rows-marked _ _ _ _ _ c.decode_links.ensures c.mark_closed.ensures c.requires.2 c.mark_barred.ensures)
