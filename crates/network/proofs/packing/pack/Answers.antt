-- `network::pack` meets its contract: refused as by check, or with 17, and else packed.
use borrow.Author.Rules.{rules}
use mathlib.Core.Path.{◌≡◌, sym, ◌∙◌}
use native.Mathlib.Omega.{arith}
use mathlib.Core.List.{List}
use Prim.Native.Nat.{ℕ}
use Rattle.study.specs.Laws.{accepted, nodes-field, links-field, destinations-field}
use Rattle.study.specs.Header.{version}
use Rattle.study.specs.Questions.{refusal}
use Rattle.study.specs.Versions.{form_of}
use Rattle.calls.specs.Calls.{check_number}
use Rattle.calls.specs.Laws.Questions.{check-passed}
use Rattle.calls.specs.Pack.{section_place}
use Rattle.calls.specs.Questions.{packed_size}
use Rattle.network.specs.Decoded.{Counts}
use Rattle.network.specs.Laws.Decoding.{counts}
use Rattle.network.specs.Laws.Packing.{end_is, pack-refused, pack-short, pack-written}
use Rattle.network.proofs.packing.pack.Goals as goal
use Rattle.network.proofs.packing.pack.Goals.{After-destination_field-p, Else-refusal-ne0}

pub returns-then-refusal-ne0 : goal.returns-then-refusal-ne0
returns-then-refusal-ne0 c = pack-refused _ _ c.check-refusal.ensures c.if-refusal-ne0.true

-- The study passes questions 1 to 11.
passed : (c : Else-refusal-ne0) → check_number c.args.file.now ≡ 0
passed c = sym c.check-refusal.ensures ∙ c.if-refusal-ne0.false

-- So its file is accepted.
opened : (c : Else-refusal-ne0) → refusal c.args.file.now ≡ 0
opened c = (check-passed _ (passed c)).described.opened

pub node_field-n-requires : goal.node_field-n-requires
node_field-n-requires c = (accepted _ (opened (goal.at.node_field-n-requires c).Else-refusal-ne0)).length-least

pub link_field-m-requires : goal.link_field-m-requires
link_field-m-requires c = (accepted _ (opened (goal.at.link_field-m-requires c).Else-refusal-ne0)).length-least

pub destination_field-p-requires : goal.destination_field-p-requires
destination_field-p-requires c = (accepted _ (opened (goal.at.destination_field-p-requires c).Else-refusal-ne0)).length-least

counted : (c : After-destination_field-p) → Counts c.args.file.now c.node_field-n.result c.link_field-m.result c.destination_field-p.result
counted c =
    let open' : refusal c.args.file.now ≡ 0 = (check-passed _ (sym c.check-refusal.ensures ∙ c.if-refusal-ne0.false)).described.opened in
    counts _ (c.node_field-n.ensures.0 ∙ sym (nodes-field _ open')) (c.link_field-m.ensures.0 ∙ sym (links-field _ open'))
    (c.destination_field-p.ensures.0 ∙ sym (destinations-field _ open'))

pub version-requires : goal.version-requires
version-requires c = (accepted _ (opened (goal.at.version-requires c).Else-refusal-ne0)).length-least

pub packed_end-requires : goal.packed_end-requires
packed_end-requires c =
    let counts = counted (goal.at.packed_end-requires c).After-destination_field-p in
    (rw c.version.ensures (accepted _ (opened (goal.at.packed_end-requires c).Else-refusal-ne0)).version-known, (counts.nodes-most, counts.links-most, counts.destinations-most))

-- The end of the packed study is its packed size.
ends-at : {file : List ℕ} {v n m p end : ℕ} → Counts file n m p → v ≡ version file → end ≡ section_place v n m p (form_of v).sections → end ≡ packed_size file
ends-at counts is-version is-end = rw (is-end, is-version) (end_is counts)

pub returns-then-output-packed_end : goal.returns-then-output-packed_end
returns-then-output-packed_end c =
    let at-size = ends-at (counted (goal.at.returns-then-output-packed_end c).After-destination_field-p) c.version.ensures c.packed_end.ensures in
    pack-short _ _ (passed (goal.at.returns-then-output-packed_end c).Else-refusal-ne0) (omega (arith, at-size))

pub write_study-requires : goal.write_study-requires
write_study-requires c =
    let known = counted (goal.at.write_study-requires c).After-destination_field-p in
    let at-size = ends-at known c.version.ensures c.packed_end.ensures in
    record { counts = (known, opened (goal.at.write_study-requires c).Else-refusal-ne0); file_in_bounds = omega (arith, at-size) }

pub returns : goal.returns
returns c =
    let at-size = ends-at (counted (goal.at.returns c).After-destination_field-p) c.version.ensures c.packed_end.ensures in
    pack-written _ _ (passed (goal.at.returns c).Else-refusal-ne0) (omega (arith, at-size)) c.write_study.ensures
