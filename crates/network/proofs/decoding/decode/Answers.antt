-- `network::decode` meets its contract: the rows, the commodities and the trips of an accepted file are decoded one after the other.
use mathlib.Core.Path.{◌≡◌, sym, ◌∙◌}
use native.Mathlib.Omega.{arith}
use Rattle.study.specs.Laws.{accepted, nodes-field, links-field, destinations-field}
use Rattle.study.specs.Questions.{refusal}
use Rattle.calls.specs.Laws.Commodities.{commodities-long}
use Rattle.network.specs.Decoded.{Counts}
use Rattle.network.specs.Laws.Decoding.{counts, lorries-most, room-links, room-entries, decoded, decoded-refused}
use Rattle.network.proofs.decoding.decode.Goals as goal
use Rattle.network.proofs.decoding.decode.Goals.{After-destination_field-p, Else-refusal-ne0}

pub returns-then-refusal-ne0 : goal.returns-then-refusal-ne0
returns-then-refusal-ne0 c = decoded-refused _ _ c.refusal-refusal.ensures c.if-refusal-ne0.true c.requires.0 c.requires.1

-- The file is accepted where the code goes on.
opened : (c : Else-refusal-ne0) → refusal c.args.file.now ≡ 0
opened c = sym c.refusal-refusal.ensures ∙ c.if-refusal-ne0.false

pub node_field-n-requires : goal.node_field-n-requires
node_field-n-requires c = (accepted _ (opened (goal.at.node_field-n-requires c).Else-refusal-ne0)).length-least

pub link_field-m-requires : goal.link_field-m-requires
link_field-m-requires c = (accepted _ (opened (goal.at.link_field-m-requires c).Else-refusal-ne0)).length-least

pub destination_field-p-requires : goal.destination_field-p-requires
destination_field-p-requires c = (accepted _ (opened (goal.at.destination_field-p-requires c).Else-refusal-ne0)).length-least

-- The counts of the file.
counted : (c : After-destination_field-p) → Counts c.args.file.now c.node_field-n.result c.link_field-m.result c.destination_field-p.result
counted c =
    let open' : refusal c.args.file.now ≡ 0 = sym c.refusal-refusal.ensures ∙ c.if-refusal-ne0.false in
    counts _ (c.node_field-n.ensures.0 ∙ sym (nodes-field _ open')) (c.link_field-m.ensures.0 ∙ sym (links-field _ open'))
    (c.destination_field-p.ensures.0 ∙ sym (destinations-field _ open'))

pub lorry_destinations-lorries-requires : goal.lorry_destinations-lorries-requires
lorry_destinations-lorries-requires c = (opened (goal.at.lorry_destinations-lorries-requires c).Else-refusal-ne0, (counted (goal.at.lorry_destinations-lorries-requires c).After-destination_field-p).destinations-are)

pub decode_rows-requires : goal.decode_rows-requires
decode_rows-requires c = (opened (goal.at.decode_rows-requires c).Else-refusal-ne0, (counted (goal.at.decode_rows-requires c).After-destination_field-p).links-are, room-links (counted (goal.at.decode_rows-requires c).After-destination_field-p) c.requires.0)

pub decode_commodities-requires : goal.decode_commodities-requires
decode_commodities-requires c = record { file_value = (opened (goal.at.decode_commodities-requires c).Else-refusal-ne0, (counted (goal.at.decode_commodities-requires c).After-destination_field-p).destinations-are, c.lorry_destinations-lorries.ensures); commodities_len = c.requires.1 }

pub decode_entries-requires : goal.decode_entries-requires
decode_entries-requires c =
    let known = counted (goal.at.decode_entries-requires c).After-destination_field-p in
    record { file_value = (opened (goal.at.decode_entries-requires c).Else-refusal-ne0, known.nodes-are, known.destinations-are, c.lorry_destinations-lorries.ensures); n_in_bounds = room-entries known c.requires.0 c.lorry_destinations-lorries.ensures }

pub overflow_add-result : goal.overflow_add-result
overflow_add-result c = omega (arith, counted (goal.at.overflow_add-result c).After-destination_field-p, c.lorry_destinations-lorries.ensures, lorries-most c.args.file.now)

pub returns : goal.returns
returns c =
    let known = counted (goal.at.returns c).After-destination_field-p in
    decoded _ _ c.requires.0 c.refusal-refusal.ensures known (omega (arith, known, c.lorry_destinations-lorries.ensures, commodities-long c.args.file.now))
    c.decode_rows.ensures c.decode_commodities.ensures c.decode_entries.ensures
