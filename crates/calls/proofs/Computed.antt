-- Each case of specs/Cases.antt holds, by computation. The lemma stands here, so that a wrong definition is refused where it falls.
use Rattle.std.specs.Prelude.{refl}
use Rattle.std.proofs.Common.{arith}
use Rattle.text.specs.Decimal.{digits_within, decimal, hundredths, aligned}
use Rattle.study.specs.Bytes.{u16, u32}
use Rattle.study.specs.Versions.{versions, form_of, section_size}
use Rattle.study.specs.Header.{version, node_field, link_field, destination_field, has_section, offset, size}
use Rattle.study.specs.Questions.{length_fits, version_known, counts_fit, each_section, sections_apart, sections_in_order, sizes_fit, opening, refusal}
use Rattle.study.specs.Sections.{nodes, links, destinations, lorry_destinations, part}
use Rattle.study.specs.Fields.{tail, head, free_time, rise, capacity, power as power_of, destination, trips, mark_byte}
use Rattle.theory.specs.Finite.{sum, all, first, largest, tabulate, rows}
use Rattle.theory.specs.Network.{total_trips}
use Rattle.theory.specs.Flows.{link_total, sum_at, balances, conserves, permits, totals_fit, step, step_time, times, over}
use Rattle.theory.specs.Routes.{least_of, from_head, round, rounds, distances, fits_next, next_links, walk, sent_along, loading_row, loading}
use Rattle.theory.specs.Cost.{staircase, link_cost, cost, least_times, spent_times, gap}
use Rattle.theory.specs.Moves.{started, moved_times, qualifies, chosen, added, doubled, move, after_moves, reaches, stops, judged, last_judged}
use Rattle.theory.specs.Notes.{next_marks, note_of, leaves_by, noted_links, leads_from, note_leads, note_loading, can_take_back, taken_back}
use Rattle.theory.specs.Study.{barred_to, may_use, network, link_mark}
use Rattle.theory.specs.Marks.{bit, marked, only_node, nodes_below, union, lowest, unvisited, lowest_unvisited}
use Rattle.calls.specs.Study.{link_row, link_rows, destination_nodes, commodities, trip_entries, network_of}
use Rattle.calls.specs.Questions.{ends_fit, times_fit, destinations_fit, marks_fit, no_trips_within, total_fits, has_path, trips_reach, table_holds, note_holds, budget_fits, share_fits, desks_fit, allowance_fits}
use Rattle.calls.specs.Questions.{packed_size, output_holds, study_questions, share_questions, check_questions, pack_questions, start_questions, run_questions, table_questions, page_holds, page_questions, note_questions, pass_questions, take_back_questions, desks_questions}
use Rattle.calls.specs.Pack.{bytes16, bytes32, section_place, packed_header, packed}
use Rattle.calls.specs.Page.{page_line, line_of, page_of}
use Rattle.calls.specs.Calls.{overwritten, check_number, pack_number, pack_output, start_number, start_table, table_number, audit_answer}
use Rattle.calls.specs.Calls.{pass_number, pass_answer, pass_table, pass_note, take_back_number, take_back_answer, take_back_table, run_number, ending_at, run_answer, run_table, page_number, page_slice}
use Rattle.calls.specs.Desks.{turns_to_end, turns_of, turns_after, desk_turns, desk_answer, desk_table, desks_number, desks_answer, desks_table}
use Rattle.calls.specs.Cases.{Computed, cases, case, queued, town, stranded_town, full_town, busy_town, curved_town, zone_town, zone_served, zone_only, ring_town, lorry_town, town_lines, full_line}

pub computed : Computed
unfolding cases case queued turns_to_end turns_of turns_after desk_turns desk_answer desk_table desks_number desks_answer desks_table desks_fit allowance_fits desks_questions run_table town stranded_town full_town busy_town curved_town zone_town zone_served zone_only ring_town lorry_town town_lines full_line digits_within decimal hundredths aligned u16 u32 versions form_of section_size version node_field link_field destination_field has_section offset size length_fits version_known counts_fit each_section sections_apart sections_in_order sizes_fit opening refusal nodes links destinations lorry_destinations part tail head free_time rise capacity power_of destination trips mark_byte sum all first largest tabulate rows total_trips link_total sum_at balances conserves permits totals_fit step step_time times over least_of from_head round rounds distances fits_next next_links walk sent_along loading_row loading staircase link_cost cost least_times spent_times gap started moved_times qualifies chosen added doubled move after_moves reaches stops judged last_judged link_row link_rows destination_nodes commodities trip_entries barred_to may_use network network_of ends_fit times_fit destinations_fit marks_fit no_trips_within total_fits has_path trips_reach table_holds note_holds budget_fits share_fits packed_size output_holds study_questions share_questions check_questions pack_questions start_questions run_questions table_questions bytes16 bytes32 section_place packed_header packed pack_number pack_output overwritten check_number start_number start_table table_number audit_answer pass_number pass_answer pass_table pass_note take_back_number take_back_answer take_back_table run_number ending_at run_answer page_holds page_questions note_questions pass_questions take_back_questions next_marks note_of leaves_by noted_links leads_from note_leads note_loading can_take_back taken_back link_mark page_line line_of page_of page_number page_slice bit marked only_node nodes_below union lowest unvisited lowest_unvisited
computed =
    record {
      every-case-holds = refl;
      check = refl;
      start = refl;
      table = refl;
      run = refl;
      stranded = refl;
      roads = refl;
      page = refl;
      full = refl;
      full-volume = refl;
      full-line = refl;
      zone-closed = refl;
      zone-open = refl;
      zone-passed = refl;
      first-version = refl;
      zone-sizes = (refl, refl);
      zone-head = refl;
      zone-destination = refl;
      zone-byte = refl;
      zone-pack = refl;
      zone-way = (omega arith, refl, refl, (omega arith, refl, refl, refl));
      zone-avoided = refl;
      full-time = refl;
      busy = refl;
      busy-run = refl;
      busy-roads = refl;
      busy-road = (refl, refl);
      empty-roads = (refl, refl);
      curved = refl;
      curved-table = refl;
      curved-roads = (refl, refl);
      next-node = refl;
      next-none = refl;
      busy-passed = refl;
      town-sizes = (refl, refl);
      adds = refl;
      doubles = refl;
      none-chosen = refl;
      rests = refl;
      taken_back_lem = refl;
      lorries-shared = refl;
      lorries-barred = refl;
      lorries-stranded = refl;
      cars-alone = refl;
      lorry-table = refl;
      other-table = refl;
      queued-number = (refl, refl, refl);
      queued-turns = refl;
      queued-ends = (refl, refl);
      queued-waits = (refl, refl);
      queued-run = refl;
      queued-refused = refl;
    }
