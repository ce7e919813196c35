-- What the theorems of A.7 ask of the towns with a lorry, by computation.
use Rattle.std.proofs.Common.{arith}
use Rattle.std.specs.Prelude.{◌≡◌, refl, [], ◌∷◌}
use Rattle.study.specs.Bytes.{u16, u32}
use Rattle.study.specs.Versions.{versions, form_of, section_size}
use Rattle.study.specs.Header.{version, node_field, link_field, destination_field, has_section, offset, size}
use Rattle.study.specs.Questions.{length_fits, version_known, counts_fit, each_section, sections_apart, sections_in_order, sizes_fit, opening, refusal}
use Rattle.study.specs.Sections.{nodes, links, destinations, lorry_destinations, part, barred_part}
use Rattle.study.specs.Fields.{tail, head, free_time, rise, capacity, power, destination, trips, mark_byte}
use Rattle.theory.specs.Finite.{sum, all, first, largest, tabulate, rows}
use Rattle.theory.specs.Network.{total_trips}
use Rattle.theory.specs.Flows.{link_total, total, sum_at, balances, conserves, permits, totals_fit}
use Rattle.theory.specs.Routes.{routing, IsPath, least_of, from_head, round, rounds, distances}
use Rattle.theory.specs.Study.{barred_to, may_use, network}
use Rattle.calls.specs.Study.{link_row, link_rows, destination_nodes, commodities, trip_entries, network_of}
use Rattle.calls.specs.Questions.{ends_fit, times_fit, destinations_fit, marks_fit, no_trips_within, total_fits, has_path, trips_reach, table_holds, share_fits}
use Rattle.calls.specs.Questions.{study_questions, share_questions, check_questions, start_questions, table_questions}
use Rattle.calls.specs.Calls.{check_number, start_number, table_number}
use Rattle.calls.specs.Cases.{lorry_town, barred_town, shared_town}

-- The sizes of the town where road 0 is barred, a path and a table of its lorry; two tables of the town where nothing is barred.
pub record Lorried : Type 0 where
  pub fourth : version barred_town ≡ 4
  pub sizes : (destinations barred_town ≡ 1) × ((network_of barred_town).commodities ≡ 2) × ((network_of barred_town).links ≡ 2)
  pub byte : mark_byte (barred_part barred_town) 0 ≡ 1
  pub way : IsPath (routing (network_of barred_town) (20 ∷ 15 ∷ []) 1) 0 (1 ∷ [])
  pub table : table_number barred_town (2 ∷ 0 ∷ 0 ∷ 1 ∷ []) 1 ≡ 0
  pub shared : (destinations shared_town ≡ 1) × ((network_of shared_town).links ≡ 2)
  pub first-totals : total (network_of shared_town) (2 ∷ 0 ∷ 0 ∷ 1 ∷ []) 0 ≡ total (network_of shared_town) (1 ∷ 1 ∷ 1 ∷ 0 ∷ []) 0
  pub second-totals : total (network_of shared_town) (2 ∷ 0 ∷ 0 ∷ 1 ∷ []) 1 ≡ total (network_of shared_town) (1 ∷ 1 ∷ 1 ∷ 0 ∷ []) 1

pub lorried : Lorried
unfolding lorry_town u16 u32 versions form_of section_size version node_field link_field destination_field has_section offset size length_fits version_known counts_fit each_section sections_apart sections_in_order sizes_fit opening refusal nodes links destinations lorry_destinations part tail head free_time rise capacity power destination trips mark_byte sum all tabulate rows total_trips link_total sum_at balances conserves permits totals_fit link_row link_rows destination_nodes commodities trip_entries barred_to may_use network network_of ends_fit times_fit destinations_fit marks_fit no_trips_within total_fits has_path trips_reach least_of from_head round rounds distances first largest table_holds share_fits study_questions share_questions check_questions start_questions table_questions check_number start_number table_number
lorried =
    record {
      fourth = refl;
      sizes = (refl, refl, refl);
      byte = refl;
      way = (omega arith, refl, refl, refl);
      table = refl;
      shared = (refl, refl);
      first-totals = refl;
      second-totals = refl;
    }
