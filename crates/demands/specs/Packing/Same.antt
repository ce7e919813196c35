-- Two files that the file layer answers alike describe one study: every field, the network and every call's answer are the same.
use Prim.Native.Nat.{ℕ, zero, suc}
use Rattle.std.specs.Prelude.{◌≡◌, List}
use Rattle.std.proofs.Math.Path.{refl}
use Rattle.std.proofs.Common.{ap}
use Rattle.study.specs.Versions.{form_of}
use Rattle.study.specs.Header.{version, has_section}
use Rattle.study.specs.Questions.{refusal}
use Rattle.study.specs.Sections.{nodes, links, destinations, lorry_destinations, link_size, part, link_part, destination_part, trip_part, lorry_part}
use Rattle.study.specs.Fields.{destination, trips}
use Rattle.study.specs.Laws.{after-opening}
use Rattle.theory.specs.Laws.Finite.{rows-cong}
use Rattle.calls.specs.Study.{link_rows, destination_nodes, commodities, trip_entries, network_of}
use Rattle.calls.specs.Questions.{packed_size, output_holds, check_questions}
use Rattle.calls.specs.Pack.{packed}
use Rattle.calls.specs.Laws.Questions.{pack-number, start-number, table-number, pass-number, take-back-number, run-number}
use Rattle.calls.specs.Calls.{check_number, pack_number, pack_output, start_number, start_table, table_number, audit_answer, run_number, run_answer, run_table}
use Rattle.calls.specs.Calls.{pass_number, pass_answer, pass_table, pass_note, take_back_number, take_back_answer, take_back_table}

-- The file layer answers the same of both files: the refusal of questions 1 to 5, the version, n, m and p, and the part of every section.
pub record SameStudy (a b : List ℕ) : Type 0 where
  pub same-refusal : refusal a ≡ refusal b
  pub same_version : version a ≡ version b
  pub same_nodes : nodes a ≡ nodes b
  pub same-links : links a ≡ links b
  pub same-destinations : destinations a ≡ destinations b
  pub same-part : (section : ℕ) → part a section ≡ part b section

module _ {a b : List ℕ} (same : SameStudy a b) where
  same-link-size : link_size a ≡ link_size b
  same-link-size = ap (λ v. (form_of v).link) same.same_version

  -- tail, head, free_time, rise, capacity and power of a link
  pub same-link-field : (field : List ℕ → ℕ → ℕ → ℕ) (link : ℕ) → field (link_part a) (link_size a) link ≡ field (link_part b) (link_size b) link
  same-link-field field link = rw (same-link-size, same.same-part 0)

  pub same-destination : (k : ℕ) → destination (destination_part a) k ≡ destination (destination_part b) k
  same-destination k = rw (same.same-part 1)

  pub same-trips : (k node : ℕ) → trips (trip_part a) (nodes a) k node ≡ trips (trip_part b) (nodes b) k node
  same-trips k node = rw (same.same-part 2, same.same_nodes)

  pub same-lorry-trips : (k node : ℕ) → trips (lorry_part a) (nodes a) k node ≡ trips (lorry_part b) (nodes b) k node
  same-lorry-trips k node = rw (same.same-part 4, same.same_nodes)

  pub same-lorry-destinations : lorry_destinations a ≡ lorry_destinations b
  unfolding lorry_destinations has_section
  same-lorry-destinations = rw (same.same_version, same.same-destinations)

  pub same_rows : link_rows a ≡ link_rows b
  unfolding link_rows
  same_rows = rw (same-link-size, same.same-links, same.same-part 0, same.same-part 3, same.same-part 5)

  pub same-destination-nodes : destination_nodes a ≡ destination_nodes b
  unfolding destination_nodes
  same-destination-nodes = rw (same.same-destinations, same.same-part 1)

  pub same-commodities : commodities a ≡ commodities b
  unfolding commodities
  same-commodities = rw (same-destination-nodes, same-lorry-destinations, same.same-part 1)

  pub same_entries : trip_entries a ≡ trip_entries b
  unfolding trip_entries
  same_entries = rw (same.same-destinations, same-lorry-destinations, same.same_nodes, same.same-part 2, same.same-part 4)

  pub same-network : network_of a ≡ network_of b
  unfolding network_of
  same-network = rw (same.same_nodes, same_rows, same-commodities, same_entries)

  pub same-packed : packed a ≡ packed b
  unfolding packed
  same-packed =
      rw (
        same.same_version,
        same.same_nodes,
        same.same-links,
        same.same-destinations,
        rows-cong (form_of (version b)).sections (part a) (part b) (λ section h. same.same-part section),
      )

  pub same-packed-size : packed_size a ≡ packed_size b
  unfolding packed_size
  same-packed-size = rw (same.same_version, same.same_nodes, same.same-links, same.same-destinations)

  -- Every call answers the same, and leaves the same in lent memory.
  pub same_check : check_number a ≡ check_number b
  unfolding check_number check_questions
  same_check = rw (after-opening a, after-opening b, same.same-refusal, same.same_nodes, same_rows, same-destination-nodes, same.same-part 3, same.same-part 5, same-commodities, same_entries)

  pub same-pack-number : (output : List ℕ) → pack_number a output ≡ pack_number b output
  unfolding output_holds
  same-pack-number output = rw (pack-number a, pack-number b, same_check, same-packed-size)

  pub same-pack-output : (output : List ℕ) → pack_output a output ≡ pack_output b output
  unfolding pack_output
  same-pack-output output = rw (same-pack-number, same-packed)

  pub same-start-number : (table : List ℕ) → start_number a table ≡ start_number b table
  same-start-number table = rw (start-number a, start-number b, same_check, same-network)

  pub same-start-table : (table : List ℕ) → start_table a table ≡ start_table b table
  unfolding start_table
  same-start-table table = rw (same-start-number, same-network)

  same-table-number : (table : List ℕ) (share : ℕ) → table_number a table share ≡ table_number b table share
  same-table-number table share = rw (table-number a, table-number b, same-start-number, same-network)

  pub same-audit : (table : List ℕ) (share : ℕ) → audit_answer a table share ≡ audit_answer b table share
  unfolding audit_answer
  same-audit table share = by_number (table_number b table share) refl
    where
      by_number : (number : ℕ) → table_number b table share ≡ number → audit_answer a table share ≡ audit_answer b table share
      by_number zero e = rw (same-table-number table share, e, audit_answer, same-network)
      by_number (suc number) e = rw (same-table-number table share, e, audit_answer)

  module _ (table : List ℕ) (share : ℕ) (note : List ℕ) where
    same-pass-number : pass_number a table share note ≡ pass_number b table share note
    same-pass-number = rw (pass-number a, pass-number b, same-table-number, same-start-number, same-network)

    pub same-pass : pass_answer a table share note ≡ pass_answer b table share note
    unfolding pass_answer
    same-pass = by_number (pass_number b table share note) refl
      where
        by_number : (number : ℕ) → pass_number b table share note ≡ number → pass_answer a table share note ≡ pass_answer b table share note
        by_number zero e = rw (same-pass-number, e, pass_answer, same-network)
        by_number (suc number) e = rw (same-pass-number, e, pass_answer)

    pub same-pass-table : pass_table a table share note ≡ pass_table b table share note
    unfolding pass_table
    same-pass-table = rw (same-pass-number, same-network)

    pub same-pass-note : pass_note a table share note ≡ pass_note b table share note
    unfolding pass_note
    same-pass-note = rw (same-pass-number, same-network)

    same-take-back-number : take_back_number a table share note ≡ take_back_number b table share note
    same-take-back-number = rw (take-back-number a, take-back-number b, same-pass-number, same-network)

    pub same-take-back : take_back_answer a table share note ≡ take_back_answer b table share note
    unfolding take_back_answer
    same-take-back = by_number (take_back_number b table share note) refl
      where
        by_number : (number : ℕ) → take_back_number b table share note ≡ number → take_back_answer a table share note ≡ take_back_answer b table share note
        by_number zero e = rw (same-take-back-number, e, take_back_answer, same-network)
        by_number (suc number) e = rw (same-take-back-number, e, take_back_answer)

    pub same-take-back-table : take_back_table a table share note ≡ take_back_table b table share note
    unfolding take_back_table
    same-take-back-table = rw (same-take-back-number, same-network)

  same-run-number : (table : List ℕ) (budget : ℕ) → run_number a table budget ≡ run_number b table budget
  same-run-number table budget = rw (run-number a, run-number b, same-start-number)

  pub same-run : (table : List ℕ) (budget excess : ℕ) → run_answer a table budget excess ≡ run_answer b table budget excess
  unfolding run_answer
  same-run table budget excess = by_number (run_number b table budget) refl
    where
      by_number : (number : ℕ) → run_number b table budget ≡ number → run_answer a table budget excess ≡ run_answer b table budget excess
      by_number zero e = rw (same-run-number table budget, e, run_answer, same-network)
      by_number (suc number) e = rw (same-run-number table budget, e, run_answer)

  pub same-run-table : (table : List ℕ) (budget excess : ℕ) → run_table a table budget excess ≡ run_table b table budget excess
  unfolding run_table
  same-run-table table budget excess = rw (same-run-number, same-network)
