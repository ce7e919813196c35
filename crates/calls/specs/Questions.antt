-- Document 01, 'The questions, in order': questions 6 to 17, and the list of each call. Questions 1 to 5 are the file layer's. Document 02's
-- requests add questions of their own, each named with its request.
use Rattle.std.specs.Prelude.{ℕ, ◌+◌, ◌*◌, ◌-◌, Bool, true, not, ◌&&◌, ◌||◌, List, [], ◌∷◌, ◌++◌, length, get_or, replicate, leb, ltb, eqb}
use Rattle.std.proofs.Math.Option.{none}
use Rattle.study.specs.Questions.{Question, within, opening}
use Rattle.study.specs.Versions.{form_of, section_size}
use Rattle.study.specs.Header.{version}
use Rattle.study.specs.Sections.{nodes, links, destinations, closed_part, barred_part}
use Rattle.study.specs.Fields.{mark_byte}
use Rattle.theory.specs.Finite.{sum, all, tabulate}
use Rattle.theory.specs.Network.{Network, total_trips}
use Rattle.theory.specs.Flows.{totals_fit, conserves, permits}
use Rattle.theory.specs.Routes.{routing, distances, is_some}
use Rattle.theory.specs.Moves.{table_size}
use Rattle.theory.specs.Notes.{note_size, note_leads, can_take_back}
use Rattle.theory.specs.Study.{free_time, rise, capacity, power, network}
use Rattle.calls.specs.Study.{link_rows, destination_nodes, commodities, trip_entries, network_of}

-- 6. Are each link's tail and head below n and different?
unfoldable pub ends_fit : Network → Bool
ends_fit g = all g.links (λ l. ltb (g.tail l) g.nodes && ltb (g.head l) g.nodes && not (eqb (g.tail l) (g.head l)))

-- 7. Are a 1 to 16,383, b 0 to 16,383, c at least 1 and (A.5) q 1 to 4 on every link?
unfoldable pub times_fit : List (List ℕ) → Bool
times_fit rows =
    all (length rows) (λ l.
    within 1 16383 (free_time rows l) && within 0 16383 (rise rows l) && leb 1 (capacity rows l) && within 1 4 (power rows l))

-- 8. Are the destinations below n and strictly ascending?
unfoldable pub destinations_fit : ℕ → List ℕ → Bool
destinations_fit n node_list =
    all (length node_list) (λ k. ltb (get_or node_list k 0) n)
    && all (length node_list - 1) (λ k. ltb (get_or node_list k 0) (get_or node_list (k + 1) 0))

-- 19 (A.2). Is every closed byte 0 or 1? 23 (A.7). Is every barred byte?
unfoldable pub marks_fit : List ℕ → Bool
marks_fit bytes = all (length bytes) (λ i. leb (mark_byte bytes i) 1)

-- 9. Is D(s,s) zero for every destination?
unfoldable pub no_trips_within : Network → Bool
no_trips_within g = all g.commodities (λ k. eqb (g.trips k (g.destination k)) 0)

-- 10. Is the total of trips, T, at most 65,535?
unfoldable pub total_fits : Network → Bool
total_fits g = leb (total_trips g) 65535

-- Whether a node has a path to a commodity's destination: a distance, whatever the times, here 1 on every link.
unfoldable pub has_path : Network → ℕ → List Bool
has_path g k =
    let d = distances (routing g (replicate g.links 1) k) in
    tabulate g.nodes (λ j. is_some (get_or d j none))

-- 11. Does every node with trips to s have a path to s?
unfoldable pub trips_reach : Network → Bool
trips_reach g =
    all g.commodities (λ k.
    let path = has_path g k in
    all g.nodes (λ j. eqb (g.trips k j) 0 || get_or path j true))

-- 12. Does the flow table hold at least p·m numbers of 32 bits, and 2·p·m in version 4 (A.7): a row for each commodity?
unfoldable pub table_holds : Network → List ℕ → Bool
table_holds g table = leb (table_size g) (length table)

-- 12 (A.6), of a call that is lent a note: does the note hold at least 1 + p·n numbers of 16 bits, and 1 + 2·p·n in version 4?
unfoldable pub note_holds : Network → List ℕ → Bool
note_holds g note = leb (note_size g) (length note)

-- 13. Is the budget 1 to 1,024?
unfoldable pub budget_fits : ℕ → Bool
budget_fits budget = within 1 1024 budget

-- 14. Is the share 1 to 1,024?
unfoldable pub share_fits : ℕ → Bool
share_fits share = within 1 1024 share

-- The packed size, the header and the version's sections: 32 + 10m + 2p + 2pn bytes in version 1, 40 + 10m + 2p + 2pn + n in version 2,
-- 40 + 12m + 2p + 2pn + n in version 3 and 56 + 12m + 2p + 2pn + n + 2pn + m in version 4.
unfoldable pub packed_size : List ℕ → ℕ
packed_size file =
    (form_of (version file)).header
    + sum (form_of (version file)).sections (section_size (version file) (nodes file) (links file) (destinations file))

-- 17. Is the output slice at least that long?
unfoldable pub output_holds : List ℕ → List ℕ → Bool
output_holds file output = leb (packed_size file) (length output)

-- 18 (A.1). Has the page slice at least 30m bytes?
unfoldable pub page_holds : Network → List ℕ → Bool
page_holds g page = leb (30 * g.links) (length page)

-- 24 (A.8). Are the desks 1 to 8?
unfoldable pub desks_fit : ℕ → Bool
desks_fit desks = within 1 8 desks

-- 25 (A.8). Is the allowance 1 to 8,192?
unfoldable pub allowance_fits : ℕ → Bool
allowance_fits allowance = within 1 8192 allowance

-- The order of the questions of each call, in one place. A question asked:
abbrev pub ask : ℕ → Bool → Question
ask number answer = record { number = number; yes = answer }

-- Questions 6 to 11 of a study whose file passes 1 to 5, with 19 and 23 after 8;
unfoldable pub study_questions : ℕ → List (List ℕ) → List ℕ → List ℕ → List ℕ → List ℕ → List ℕ → List Question
study_questions n rows node_list closed_bytes barred_bytes commodity_list entries =
    let g = network n rows commodity_list entries in
    ask 6 (ends_fit g)
    ∷ ask 7 (times_fit rows)
    ∷ ask 8 (destinations_fit n node_list)
    ∷ ask 19 (marks_fit closed_bytes)
    ∷ ask 23 (marks_fit barred_bytes)
    ∷ ask 9 (no_trips_within g)
    ∷ ask 10 (total_fits g)
    ∷ ask 11 (trips_reach g)
    ∷ []

-- questions 14 to 16 of a table and a share, then 20 (A.2): is there no flow on a link that may not carry it?
unfoldable pub share_questions : Network → List ℕ → ℕ → List Question
share_questions g table share =
    ask 14 (share_fits share)
    ∷ ask 15 (totals_fit g share table)
    ∷ ask 16 (conserves g share table)
    ∷ ask 20 (permits g table)
    ∷ []

-- Check puts 1 to 8, 19, 23, 9 to 11;
unfoldable pub check_questions : List ℕ → List Question
check_questions file =
    opening file
    ++ study_questions (nodes file) (link_rows file) (destination_nodes file) (closed_part file) (barred_part file) (commodities file) (trip_entries file)

-- pack those, then 17;
unfoldable pub pack_questions : List ℕ → List ℕ → List Question
pack_questions file output = check_questions file ++ (ask 17 (output_holds file output) ∷ [])

-- start those, then 12;
unfoldable pub start_questions : List ℕ → List ℕ → List Question
start_questions file table = check_questions file ++ (ask 12 (table_holds (network_of file) table) ∷ [])

-- run as start, then 13;
unfoldable pub run_questions : List ℕ → List ℕ → ℕ → List Question
run_questions file table budget = start_questions file table ++ (ask 13 (budget_fits budget) ∷ [])

-- audit as start, then 14 to 16 and 20;
unfoldable pub table_questions : List ℕ → List ℕ → ℕ → List Question
table_questions file table share = start_questions file table ++ share_questions (network_of file) table share

-- page (A.1) as the audit, then 18;
unfoldable pub page_questions : List ℕ → List ℕ → ℕ → List ℕ → List Question
page_questions file table share page = table_questions file table share ++ (ask 18 (page_holds (network_of file) page) ∷ [])

-- pass (A.6) as the audit, and 12 also of the note;
unfoldable pub note_questions : List ℕ → List ℕ → List ℕ → List Question
note_questions file table note =
    check_questions file ++ (ask 12 (table_holds (network_of file) table && note_holds (network_of file) note) ∷ [])

unfoldable pub pass_questions : List ℕ → List ℕ → ℕ → List ℕ → List Question
pass_questions file table share note = note_questions file table note ++ share_questions (network_of file) table share

-- taking back (A.6) as pass, then 21 and 22.
unfoldable pub take_back_questions : List ℕ → List ℕ → ℕ → List ℕ → List Question
take_back_questions file table share note =
    pass_questions file table share note
    ++ (ask 21 (note_leads (network_of file) note) ∷ ask 22 (can_take_back (network_of file) (record { table = table; share = share }) note) ∷ [])

-- Several desks (A.8) put 24 first of all, then 25; the run of each desk puts its own.
unfoldable pub desks_questions : ℕ → ℕ → List Question
desks_questions desks allowance = ask 24 (desks_fit desks) ∷ ask 25 (allowance_fits allowance) ∷ []
