-- That what the theorems on packing ask can be met: document 01's town of two roads, and the same town with bytes between its sections.
use Rattle.std.specs.Prelude.{ℕ, ◌≡◌, refl, List, [], ◌∷◌, ◌++◌}
use Rattle.study.specs.Bytes.{u16, u32}
use Rattle.study.specs.Versions.{versions, form_of, section_size}
use Rattle.study.specs.Header.{version, node_field, link_field, destination_field, has_section, offset, size}
use Rattle.study.specs.Questions.{length_fits, version_known, counts_fit, each_section, sections_apart, sections_in_order, sizes_fit, opening, refusal}
use Rattle.study.specs.Sections.{nodes, links, destinations, lorry_destinations, part}
use Rattle.study.specs.Fields.{tail, head, free_time, rise, capacity, power, destination, trips, mark_byte}
use Rattle.theory.specs.Finite.{sum, all, tabulate, rows}
use Rattle.theory.specs.Network.{total_trips}
use Rattle.theory.specs.Study.{barred_to, may_use, network}
use Rattle.theory.specs.Routes.{least_of, from_head, round, rounds, distances}
use Rattle.calls.specs.Study.{link_row, link_rows, destination_nodes, commodities, trip_entries, network_of}
use Rattle.calls.specs.Questions.{ends_fit, times_fit, destinations_fit, marks_fit, no_trips_within, total_fits, has_path, trips_reach, packed_size, output_holds, study_questions, check_questions, pack_questions}
use Rattle.calls.specs.Pack.{bytes16, bytes32, section_place, packed_header, packed}
use Rattle.calls.specs.Calls.{overwritten, pack_number, pack_output}
use Rattle.calls.specs.Cases.{town}

-- The town with three bytes before its links, one before its destinations, two before its trips, and one after them.
unfoldable pub gapped_town : List ℕ
gapped_town =
    1 ∷ 0 ∷ 2 ∷ 0 ∷ 2 ∷ 0 ∷ 1 ∷ 0 ∷ []
    ++ (35 ∷ 0 ∷ 0 ∷ 0 ∷ 20 ∷ 0 ∷ 0 ∷ 0 ∷ 56 ∷ 0 ∷ 0 ∷ 0 ∷ 2 ∷ 0 ∷ 0 ∷ 0 ∷ 60 ∷ 0 ∷ 0 ∷ 0 ∷ 4 ∷ 0 ∷ 0 ∷ 0 ∷ [])
    ++ (7 ∷ 7 ∷ 7 ∷ [])
    ++ (0 ∷ 0 ∷ 1 ∷ 0 ∷ 10 ∷ 0 ∷ 10 ∷ 0 ∷ 2 ∷ 0 ∷ [])
    ++ (0 ∷ 0 ∷ 1 ∷ 0 ∷ 15 ∷ 0 ∷ 0 ∷ 0 ∷ 1 ∷ 0 ∷ [])
    ++ (7 ∷ [])
    ++ (1 ∷ 0 ∷ [])
    ++ (7 ∷ 7 ∷ [])
    ++ (2 ∷ 0 ∷ 0 ∷ 0 ∷ [])
    ++ (7 ∷ [])

-- Both are accepted, and packing takes the bytes between the sections out: the town itself has none, and stays as it is. The call refuses
-- nothing where the output slice has the file's own length.
pub record TownPacks : Type 0 where
  pub town-accepted : refusal town ≡ 0
  pub town-packed : packed town ≡ town
  pub gapped-accepted : refusal gapped_town ≡ 0
  pub gapped-packed : packed gapped_town ≡ town
  pub gapped-number : pack_number gapped_town gapped_town ≡ 0
  pub gapped-output : pack_output gapped_town gapped_town ≡ town ++ (7 ∷ 7 ∷ 2 ∷ 0 ∷ 0 ∷ 0 ∷ 7 ∷ [])

pub town-packs : TownPacks
unfolding town gapped_town u16 u32 versions form_of version node_field link_field destination_field has_section offset size section_size length_fits version_known counts_fit each_section sections_apart sections_in_order sizes_fit opening refusal nodes links destinations lorry_destinations part tail head free_time rise capacity power destination trips mark_byte sum all tabulate rows total_trips least_of from_head round rounds distances link_row link_rows destination_nodes commodities trip_entries barred_to may_use network network_of ends_fit times_fit destinations_fit marks_fit no_trips_within total_fits has_path trips_reach packed_size output_holds study_questions check_questions pack_questions bytes16 bytes32 section_place packed_header packed overwritten pack_number pack_output
town-packs =
    record {
      town-accepted = refl;
      town-packed = refl;
      gapped-accepted = refl;
      gapped-packed = refl;
      gapped-number = refl;
      gapped-output = refl;
    }
