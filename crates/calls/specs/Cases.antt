-- Document 01, 'A town of two roads': cases P1 to P10 and the listing's run, and cases of document 02's requests, computed from the
-- definitions. One list of cases, one test, one lemma that the test holds of all.
use Rattle.std.specs.Prelude.{ℕ, ◌≡◌, Bool, true, false, ◌&&◌, cond, List, [], ◌∷◌, ◌++◌, take, drop, replicate, eqb}
use Rattle.study.specs.Header.{version}
use Rattle.study.specs.Sections.{links, closed_part}
use Rattle.study.specs.Fields.{mark_byte}
use Rattle.theory.specs.Network.{Network}
use Rattle.theory.specs.Flows.{total, time_at, times, over_at, over}
use Rattle.theory.specs.Routes.{routing, IsPath, loading}
use Rattle.theory.specs.Moves.{chosen}
use Rattle.theory.specs.Marks.{only_node, nodes_below, union, lowest_unvisited}
use Rattle.calls.specs.Study.{network_of}
use Rattle.calls.specs.declared.Outcome.TheVariants as outcome
use Rattle.calls.specs.declared.RunAnswer.{RunAnswer}
use Rattle.calls.specs.Page.{volume, line_of}
use Rattle.calls.specs.Calls.{ending_number, check_number, pack_number, pack_output, start_number, start_table, table_number, audit_answer}
use Rattle.calls.specs.Calls.{pass_number, pass_answer, pass_table, pass_note, take_back_number, take_back_answer, take_back_table, outcome_number, run_number, run_answer, run_table, page_number, page_slice}
use Rattle.calls.specs.Desks.{Desk, ends_after, turns_of, desk_turns, desks_number, desks_answer, desks_table}

-- n 2, m 2, p 1; links (tail, head, a, b, c): 0 1 10 10 2 and 0 1 15 0 1; destination 1; trips 2, 0. File 58 bytes.
unfoldable pub town : List ℕ
town =
    1 ∷ 0 ∷ 2 ∷ 0 ∷ 2 ∷ 0 ∷ 1 ∷ 0 ∷ []
    ++ (32 ∷ 0 ∷ 0 ∷ 0 ∷ 20 ∷ 0 ∷ 0 ∷ 0 ∷ 52 ∷ 0 ∷ 0 ∷ 0 ∷ 2 ∷ 0 ∷ 0 ∷ 0 ∷ 54 ∷ 0 ∷ 0 ∷ 0 ∷ 4 ∷ 0 ∷ 0 ∷ 0 ∷ [])
    ++ (0 ∷ 0 ∷ 1 ∷ 0 ∷ 10 ∷ 0 ∷ 10 ∷ 0 ∷ 2 ∷ 0 ∷ [])
    ++ (0 ∷ 0 ∷ 1 ∷ 0 ∷ 15 ∷ 0 ∷ 0 ∷ 0 ∷ 1 ∷ 0 ∷ [])
    ++ (1 ∷ 0 ∷ [])
    ++ (2 ∷ 0 ∷ 0 ∷ 0 ∷ [])

-- The same town with both roads the wrong way round: no road leads into the destination.
unfoldable pub stranded_town : List ℕ
stranded_town =
    1 ∷ 0 ∷ 2 ∷ 0 ∷ 2 ∷ 0 ∷ 1 ∷ 0 ∷ []
    ++ (32 ∷ 0 ∷ 0 ∷ 0 ∷ 20 ∷ 0 ∷ 0 ∷ 0 ∷ 52 ∷ 0 ∷ 0 ∷ 0 ∷ 2 ∷ 0 ∷ 0 ∷ 0 ∷ 54 ∷ 0 ∷ 0 ∷ 0 ∷ 4 ∷ 0 ∷ 0 ∷ 0 ∷ [])
    ++ (1 ∷ 0 ∷ 0 ∷ 0 ∷ 10 ∷ 0 ∷ 10 ∷ 0 ∷ 2 ∷ 0 ∷ [])
    ++ (1 ∷ 0 ∷ 0 ∷ 0 ∷ 15 ∷ 0 ∷ 0 ∷ 0 ∷ 1 ∷ 0 ∷ [])
    ++ (1 ∷ 0 ∷ [])
    ++ (2 ∷ 0 ∷ 0 ∷ 0 ∷ [])

-- One road of capacity 1 whose times are as long as any, and as many trips over it as a study may have. File 48 bytes.
unfoldable pub full_town : List ℕ
full_town =
    1 ∷ 0 ∷ 2 ∷ 0 ∷ 1 ∷ 0 ∷ 1 ∷ 0 ∷ []
    ++ (32 ∷ 0 ∷ 0 ∷ 0 ∷ 10 ∷ 0 ∷ 0 ∷ 0 ∷ 42 ∷ 0 ∷ 0 ∷ 0 ∷ 2 ∷ 0 ∷ 0 ∷ 0 ∷ 44 ∷ 0 ∷ 0 ∷ 0 ∷ 4 ∷ 0 ∷ 0 ∷ 0 ∷ [])
    ++ (0 ∷ 0 ∷ 1 ∷ 0 ∷ 255 ∷ 63 ∷ 255 ∷ 63 ∷ 1 ∷ 0 ∷ [])
    ++ (1 ∷ 0 ∷ [])
    ++ (255 ∷ 255 ∷ 0 ∷ 0 ∷ [])

-- A.4: the town with 8 trips, four times what road 0 has room for, and a road 1 of capacity 9. File 58 bytes.
unfoldable pub busy_town : List ℕ
busy_town =
    1 ∷ 0 ∷ 2 ∷ 0 ∷ 2 ∷ 0 ∷ 1 ∷ 0 ∷ []
    ++ (32 ∷ 0 ∷ 0 ∷ 0 ∷ 20 ∷ 0 ∷ 0 ∷ 0 ∷ 52 ∷ 0 ∷ 0 ∷ 0 ∷ 2 ∷ 0 ∷ 0 ∷ 0 ∷ 54 ∷ 0 ∷ 0 ∷ 0 ∷ 4 ∷ 0 ∷ 0 ∷ 0 ∷ [])
    ++ (0 ∷ 0 ∷ 1 ∷ 0 ∷ 10 ∷ 0 ∷ 10 ∷ 0 ∷ 2 ∷ 0 ∷ [])
    ++ (0 ∷ 0 ∷ 1 ∷ 0 ∷ 15 ∷ 0 ∷ 0 ∷ 0 ∷ 9 ∷ 0 ∷ [])
    ++ (1 ∷ 0 ∷ [])
    ++ (8 ∷ 0 ∷ 0 ∷ 0 ∷ [])

-- A.2: a small town with a zone, node 1, in the middle between node 0 and node 2, and a way round by node 3. Links: 0 1 5 20 2, 1 2 5 0 1,
-- 0 3 10 0 1 and 3 2 10 0 1; destination 2; trips 2 from node 0 and 1 from the zone, and as many from the destination to itself as is said
-- (none, or the study is refused 9); the zone's closed byte. File 94 bytes.
unfoldable pub zone_town : ℕ → ℕ → List ℕ
zone_town own closed =
    2 ∷ 0 ∷ 4 ∷ 0 ∷ 4 ∷ 0 ∷ 1 ∷ 0 ∷ []
    ++ (40 ∷ 0 ∷ 0 ∷ 0 ∷ 40 ∷ 0 ∷ 0 ∷ 0 ∷ 80 ∷ 0 ∷ 0 ∷ 0 ∷ 2 ∷ 0 ∷ 0 ∷ 0 ∷ 82 ∷ 0 ∷ 0 ∷ 0 ∷ 8 ∷ 0 ∷ 0 ∷ 0 ∷ 90 ∷ 0 ∷ 0 ∷ 0 ∷ 4 ∷ 0 ∷ 0 ∷ 0 ∷ [])
    ++ (0 ∷ 0 ∷ 1 ∷ 0 ∷ 5 ∷ 0 ∷ 20 ∷ 0 ∷ 2 ∷ 0 ∷ [])
    ++ (1 ∷ 0 ∷ 2 ∷ 0 ∷ 5 ∷ 0 ∷ 0 ∷ 0 ∷ 1 ∷ 0 ∷ [])
    ++ (0 ∷ 0 ∷ 3 ∷ 0 ∷ 10 ∷ 0 ∷ 0 ∷ 0 ∷ 1 ∷ 0 ∷ [])
    ++ (3 ∷ 0 ∷ 2 ∷ 0 ∷ 10 ∷ 0 ∷ 0 ∷ 0 ∷ 1 ∷ 0 ∷ [])
    ++ (2 ∷ 0 ∷ [])
    ++ (2 ∷ 0 ∷ 1 ∷ 0 ∷ own ∷ 0 ∷ 0 ∷ 0 ∷ [])
    ++ (0 ∷ closed ∷ 0 ∷ 0 ∷ [])

-- The zone as a destination too: links 0 1 5 0 1, 1 2 5 0 1 and 0 2 20 0 1; destinations 1 and 2; a trip from node 0 to each; node 1 closed.
unfoldable pub zone_served : List ℕ
zone_served =
    2 ∷ 0 ∷ 3 ∷ 0 ∷ 3 ∷ 0 ∷ 2 ∷ 0 ∷ []
    ++ (40 ∷ 0 ∷ 0 ∷ 0 ∷ 30 ∷ 0 ∷ 0 ∷ 0 ∷ 70 ∷ 0 ∷ 0 ∷ 0 ∷ 4 ∷ 0 ∷ 0 ∷ 0 ∷ 74 ∷ 0 ∷ 0 ∷ 0 ∷ 12 ∷ 0 ∷ 0 ∷ 0 ∷ 86 ∷ 0 ∷ 0 ∷ 0 ∷ 3 ∷ 0 ∷ 0 ∷ 0 ∷ [])
    ++ (0 ∷ 0 ∷ 1 ∷ 0 ∷ 5 ∷ 0 ∷ 0 ∷ 0 ∷ 1 ∷ 0 ∷ [])
    ++ (1 ∷ 0 ∷ 2 ∷ 0 ∷ 5 ∷ 0 ∷ 0 ∷ 0 ∷ 1 ∷ 0 ∷ [])
    ++ (0 ∷ 0 ∷ 2 ∷ 0 ∷ 20 ∷ 0 ∷ 0 ∷ 0 ∷ 1 ∷ 0 ∷ [])
    ++ (1 ∷ 0 ∷ 2 ∷ 0 ∷ [])
    ++ (1 ∷ 0 ∷ 0 ∷ 0 ∷ 0 ∷ 0 ∷ 1 ∷ 0 ∷ 0 ∷ 0 ∷ 0 ∷ 0 ∷ [])
    ++ (0 ∷ 1 ∷ 0 ∷ [])

-- A zone with no way round it: links 0 1 5 0 1 and 1 2 5 0 1, destination 2, a trip from node 0; the zone's closed byte.
unfoldable pub zone_only : ℕ → List ℕ
zone_only closed =
    2 ∷ 0 ∷ 3 ∷ 0 ∷ 2 ∷ 0 ∷ 1 ∷ 0 ∷ []
    ++ (40 ∷ 0 ∷ 0 ∷ 0 ∷ 20 ∷ 0 ∷ 0 ∷ 0 ∷ 60 ∷ 0 ∷ 0 ∷ 0 ∷ 2 ∷ 0 ∷ 0 ∷ 0 ∷ 62 ∷ 0 ∷ 0 ∷ 0 ∷ 6 ∷ 0 ∷ 0 ∷ 0 ∷ 68 ∷ 0 ∷ 0 ∷ 0 ∷ 3 ∷ 0 ∷ 0 ∷ 0 ∷ [])
    ++ (0 ∷ 0 ∷ 1 ∷ 0 ∷ 5 ∷ 0 ∷ 0 ∷ 0 ∷ 1 ∷ 0 ∷ [])
    ++ (1 ∷ 0 ∷ 2 ∷ 0 ∷ 5 ∷ 0 ∷ 0 ∷ 0 ∷ 1 ∷ 0 ∷ [])
    ++ (2 ∷ 0 ∷ [])
    ++ (1 ∷ 0 ∷ 0 ∷ 0 ∷ 0 ∷ 0 ∷ [])
    ++ (0 ∷ closed ∷ 0 ∷ [])

-- A.5: the town in version 3. Road 0 has the power whose two bytes are said, and road 1 has power 4. File 72 bytes.
unfoldable pub curved_town : ℕ → ℕ → List ℕ
curved_town low high =
    3 ∷ 0 ∷ 2 ∷ 0 ∷ 2 ∷ 0 ∷ 1 ∷ 0 ∷ []
    ++ (40 ∷ 0 ∷ 0 ∷ 0 ∷ 24 ∷ 0 ∷ 0 ∷ 0 ∷ 64 ∷ 0 ∷ 0 ∷ 0 ∷ 2 ∷ 0 ∷ 0 ∷ 0 ∷ 66 ∷ 0 ∷ 0 ∷ 0 ∷ 4 ∷ 0 ∷ 0 ∷ 0 ∷ 70 ∷ 0 ∷ 0 ∷ 0 ∷ 2 ∷ 0 ∷ 0 ∷ 0 ∷ [])
    ++ (0 ∷ 0 ∷ 1 ∷ 0 ∷ 10 ∷ 0 ∷ 10 ∷ 0 ∷ 2 ∷ 0 ∷ low ∷ high ∷ [])
    ++ (0 ∷ 0 ∷ 1 ∷ 0 ∷ 15 ∷ 0 ∷ 0 ∷ 0 ∷ 1 ∷ 0 ∷ 4 ∷ 0 ∷ [])
    ++ (1 ∷ 0 ∷ [])
    ++ (2 ∷ 0 ∷ 0 ∷ 0 ∷ [])
    ++ (0 ∷ 0 ∷ [])

-- A.6: three nodes in a row, with a road back: links 0 1 5 0 1, 1 0 5 0 1 and 1 2 5 0 1; destination 2; as many trips as is said from
-- node 0. File 70 bytes.
unfoldable pub ring_town : ℕ → List ℕ
ring_town count =
    1 ∷ 0 ∷ 3 ∷ 0 ∷ 3 ∷ 0 ∷ 1 ∷ 0 ∷ []
    ++ (32 ∷ 0 ∷ 0 ∷ 0 ∷ 30 ∷ 0 ∷ 0 ∷ 0 ∷ 62 ∷ 0 ∷ 0 ∷ 0 ∷ 2 ∷ 0 ∷ 0 ∷ 0 ∷ 64 ∷ 0 ∷ 0 ∷ 0 ∷ 6 ∷ 0 ∷ 0 ∷ 0 ∷ [])
    ++ (0 ∷ 0 ∷ 1 ∷ 0 ∷ 5 ∷ 0 ∷ 0 ∷ 0 ∷ 1 ∷ 0 ∷ [])
    ++ (1 ∷ 0 ∷ 0 ∷ 0 ∷ 5 ∷ 0 ∷ 0 ∷ 0 ∷ 1 ∷ 0 ∷ [])
    ++ (1 ∷ 0 ∷ 2 ∷ 0 ∷ 5 ∷ 0 ∷ 0 ∷ 0 ∷ 1 ∷ 0 ∷ [])
    ++ (2 ∷ 0 ∷ [])
    ++ (count ∷ 0 ∷ 0 ∷ 0 ∷ 0 ∷ 0 ∷ [])

-- A.7: the town in version 4, with power 4 on both roads. The cars' trips from node 0 are the number whose two bytes are said; then the lorries' trips
-- from node 0, those from the destination to itself, and the barred bytes of the two roads. File 94 bytes.
unfoldable pub lorry_town : ℕ → ℕ → ℕ → ℕ → ℕ → ℕ → List ℕ
lorry_town low high lorries own bar0 bar1 =
    4 ∷ 0 ∷ 2 ∷ 0 ∷ 2 ∷ 0 ∷ 1 ∷ 0 ∷ []
    ++ (56 ∷ 0 ∷ 0 ∷ 0 ∷ 24 ∷ 0 ∷ 0 ∷ 0 ∷ 80 ∷ 0 ∷ 0 ∷ 0 ∷ 2 ∷ 0 ∷ 0 ∷ 0 ∷ 82 ∷ 0 ∷ 0 ∷ 0 ∷ 4 ∷ 0 ∷ 0 ∷ 0 ∷ [])
    ++ (86 ∷ 0 ∷ 0 ∷ 0 ∷ 2 ∷ 0 ∷ 0 ∷ 0 ∷ 88 ∷ 0 ∷ 0 ∷ 0 ∷ 4 ∷ 0 ∷ 0 ∷ 0 ∷ 92 ∷ 0 ∷ 0 ∷ 0 ∷ 2 ∷ 0 ∷ 0 ∷ 0 ∷ [])
    ++ (0 ∷ 0 ∷ 1 ∷ 0 ∷ 10 ∷ 0 ∷ 10 ∷ 0 ∷ 2 ∷ 0 ∷ 4 ∷ 0 ∷ [])
    ++ (0 ∷ 0 ∷ 1 ∷ 0 ∷ 15 ∷ 0 ∷ 0 ∷ 0 ∷ 1 ∷ 0 ∷ 4 ∷ 0 ∷ [])
    ++ (1 ∷ 0 ∷ [])
    ++ (low ∷ high ∷ 0 ∷ 0 ∷ [])
    ++ (0 ∷ 0 ∷ [])
    ++ (lorries ∷ 0 ∷ own ∷ 0 ∷ [])
    ++ (bar0 ∷ bar1 ∷ [])

-- Two cars and a lorry, which is barred from road 0; and the same with nothing barred.
abbrev pub barred_town : List ℕ
barred_town = lorry_town 2 0 1 0 1 0

abbrev pub shared_town : List ℕ
shared_town = lorry_town 2 0 1 0 0 0

-- A case: what the definitions give, and what the paper says.
pub record Case : Type 0 where
  pub found : List ℕ
  pub stated : List ℕ

unfoldable pub case : List ℕ → List ℕ → Case
case found stated = record { found = found; stated = stated }

abbrev pub same : List ℕ → List ℕ → Bool
same [] [] = true
same [] (y ∷ ys) = false
same (x ∷ xs) [] = false
same (x ∷ xs) (y ∷ ys) = eqb x y && same xs ys

abbrev pub holds : List Case → Bool
holds [] = true
holds (c ∷ rest) = same c.found c.stated && holds rest

abbrev pub g : Network
g = network_of town

-- The time of link 0 with a flow, at a share.
abbrev pub time0 : ℕ → ℕ → List ℕ
time0 share flow = time_at g share (λ l. flow) 0 ∷ []

-- 1 where link 0 is over with that flow, and 0 where it is not.
abbrev pub over0 : ℕ → ℕ → ℕ
over0 share flow = cond (over_at g share (λ l. flow) 0) 1 0

-- Ending, tables judged, share and gap of a run, and the table that it leaves, which held 7, 7 before.
abbrev pub ran : ℕ → ℕ → List ℕ
ran budget excess =
    let a = run_answer town (7 ∷ 7 ∷ []) budget excess in
    ending_number a.ending ∷ a.judged ∷ a.share ∷ a.gap ∷ run_table town (7 ∷ 7 ∷ []) budget excess

-- The same of the town in version 3, with a power on road 0.
abbrev pub curved_ran : ℕ → List ℕ
curved_ran q =
    let a = run_answer (curved_town q 0) (7 ∷ 7 ∷ []) 10 0 in
    ending_number a.ending ∷ a.judged ∷ a.share ∷ a.gap ∷ run_table (curved_town q 0) (7 ∷ 7 ∷ []) 10 0

-- There, the times of road 0 at steps 0, 1, 63, 64, 65, 255 and 256: at share 64, whose steps are two parts of a trip.
abbrev pub curve : ℕ → List ℕ
curve q =
    let time : ℕ → ℕ = λ flow. time_at (network_of (curved_town q 0)) 64 (λ l. flow) 0 in
    time 0 ∷ time 2 ∷ time 126 ∷ time 128 ∷ time 130 ∷ time 510 ∷ time 512 ∷ []

-- A.6: a note for the town, and what a pass of the town leaves with it: its outcome, the new share, the table and the note.
abbrev pub blank : List ℕ
blank = 7 ∷ 7 ∷ 7 ∷ []

abbrev pub passed : List ℕ → ℕ → List ℕ → List ℕ
passed table share note =
    let a = pass_answer town table share note in
    outcome_number a.outcome ∷ a.share ∷ pass_table town table share note ++ pass_note town table share note

-- The number of a taking back from a table round the zone, with a note of j = 1 and these links.
abbrev pub noted : List ℕ → ℕ
noted links = take_back_number (zone_town 0 1) (0 ∷ 2 ∷ 4 ∷ 4 ∷ []) 2 (1 ∷ links)

-- What a taking back answers, and the table that it leaves.
abbrev pub back : List ℕ → List ℕ → ℕ → List ℕ → List ℕ
back file table share note =
    let a = take_back_answer file table share note in a.refusal ∷ a.share ∷ take_back_table file table share note

-- The gap and cost that an audit answers.
abbrev pub audited : List ℕ → List ℕ → ℕ → List ℕ
audited file table share = let a = audit_answer file table share in a.gap ∷ a.cost ∷ []

-- A.8: the town at desk 0, with budget 10 and excess 0, and at desk 1 with excess 5; a study that is refused at desk 2; and at desk 3 the town with budget 3
-- and a longer table.
abbrev pub queued_desk : ℕ → List ℕ → Desk
queued_desk budget table = record { file = town; table = table; budget = budget; excess = 0 }

unfoldable pub queued : List Desk
queued =
    queued_desk 10 (7 ∷ 7 ∷ [])
    ∷ record { file = town; table = 7 ∷ 7 ∷ []; budget = 10; excess = 5 }
    ∷ record { file = stranded_town; table = 7 ∷ 7 ∷ []; budget = 10; excess = 0 }
    ∷ queued_desk 3 (7 ∷ 7 ∷ 5 ∷ [])
    ∷ []

-- What a seat answers: refusal, ending, tables judged, share and gap; of all eight seats, one after the other; and with the call's own number and the turns.
abbrev pub seats_told : List RunAnswer → List ℕ
seats_told [] = []
seats_told (a ∷ rest) = a.refusal ∷ ending_number a.ending ∷ a.judged ∷ a.share ∷ a.gap ∷ seats_told rest

abbrev pub told : ℕ → ℕ → List ℕ
told count allowance = let a = desks_answer queued count allowance in a.refusal ∷ a.turns ∷ seats_told a.seats

-- The lines of the town's page at share 9: "  0   0   1     1.77     0.15" and "  1   0   1     0.22     0.15", and that of the full road:
-- "  0   0   1 65535.00 42104.31".
unfoldable pub town_lines : List ℕ
town_lines =
    32 ∷ 32 ∷ 48 ∷ 32 ∷ 32 ∷ 32 ∷ 48 ∷ 32 ∷ 32 ∷ 32 ∷ 49 ∷ 32 ∷ 32 ∷ 32 ∷ 32 ∷ 32 ∷ 49 ∷ 46 ∷ 55 ∷ 55 ∷ 32 ∷ 32 ∷ 32 ∷ 32 ∷ 32 ∷ 48 ∷ 46 ∷ 49 ∷ 53 ∷ 10 ∷ []
    ++ (32 ∷ 32 ∷ 49 ∷ 32 ∷ 32 ∷ 32 ∷ 48 ∷ 32 ∷ 32 ∷ 32 ∷ 49 ∷ 32 ∷ 32 ∷ 32 ∷ 32 ∷ 32 ∷ 48 ∷ 46 ∷ 50 ∷ 50 ∷ 32 ∷ 32 ∷ 32 ∷ 32 ∷ 32 ∷ 48 ∷ 46 ∷ 49 ∷ 53 ∷ 10 ∷ [])

unfoldable pub full_line : List ℕ
full_line = 32 ∷ 32 ∷ 48 ∷ 32 ∷ 32 ∷ 32 ∷ 48 ∷ 32 ∷ 32 ∷ 32 ∷ 49 ∷ 32 ∷ 54 ∷ 53 ∷ 53 ∷ 51 ∷ 53 ∷ 46 ∷ 48 ∷ 48 ∷ 32 ∷ 52 ∷ 50 ∷ 49 ∷ 48 ∷ 52 ∷ 46 ∷ 51 ∷ 49 ∷ 10 ∷ []

-- The set of some nodes, and the node that is found where some are reached and some visited.
abbrev pub set_of : List ℕ → List ℕ
set_of [] = 0 ∷ 0 ∷ []
set_of (j ∷ rest) = union (only_node j) (set_of rest)

abbrev pub found : List ℕ → List ℕ → ℕ
found reached visited = lowest_unvisited (set_of reached) (set_of visited)

-- The first and the last node of either word.
abbrev pub word_ends : List ℕ
word_ends = 0 ∷ 63 ∷ 64 ∷ 127 ∷ []

unfoldable pub cases : List Case
unfolding case
cases =
    -- P1 Link 0, share 1, flow 2: time 20. P2 Flow 8: 2,570. P3 Flow 9: 2,570. P4 Share 64, flow 511: 2,530.
    case (time0 1 2) (20 ∷ [])
    ∷ case (time0 1 8) (2570 ∷ [])
    ∷ case (time0 1 9) (2570 ∷ [])
    ∷ case (time0 64 511) (2530 ∷ [])
    -- P5 Start: flows 2, 0.
    ∷ case (start_table town (7 ∷ 7 ∷ [])) (2 ∷ 0 ∷ [])
    -- P6 That table: gap 10.
    ∷ case ((audit_answer town (2 ∷ 0 ∷ []) 1).gap ∷ []) (10 ∷ [])
    -- P7 Share 8, flows 16, 0: the pass takes j = 1.
    ∷ case (chosen g 8 (total g (16 ∷ 0 ∷ [])) (total g (loading g (times g 8 (16 ∷ 0 ∷ [])))) ∷ []) (1 ∷ [])
    -- P8 Share 9, flows 16, 2: times 15, 15, gap 0, cost 13,104.
    ∷ case (times g 9 (16 ∷ 2 ∷ [])) (15 ∷ 15 ∷ [])
    ∷ case (audited town (16 ∷ 2 ∷ []) 9) (0 ∷ 13104 ∷ [])
    -- P9 Budget 3, excess 0: spent, 3 judged, share 4, flows 8, 0, gap 40.
    ∷ case (ran 3 0) (3 ∷ 3 ∷ 4 ∷ 40 ∷ 8 ∷ 0 ∷ [])
    -- P10 Excess 5: reached, 1 judged. (Excess 4 reaches only at the fifth.)
    ∷ case (ran 10 5) (1 ∷ 1 ∷ 1 ∷ 10 ∷ 2 ∷ 0 ∷ [])
    ∷ case (ran 10 4) (1 ∷ 5 ∷ 9 ∷ 0 ∷ 16 ∷ 2 ∷ [])
    -- The listing of `assign`, budget 10, excess 0: reached, judged 5, share 9, gap 0, cost 13,104, flows 16, 2, times 15, 15 as in P8.
    ∷ case (ran 10 0) (1 ∷ 5 ∷ 9 ∷ 0 ∷ 16 ∷ 2 ∷ [])
    ∷ case ((run_answer town (7 ∷ 7 ∷ []) 10 0).cost ∷ []) (13104 ∷ [])
    -- Share 9 with flows 16, 1: 16; flows 18, 1: 16 as well, since 18 is the most question 15 allows; flows 19, 0: 15.
    ∷ case (table_number town (16 ∷ 1 ∷ []) 9 ∷ table_number town (18 ∷ 1 ∷ []) 9 ∷ table_number town (19 ∷ 0 ∷ []) 9 ∷ []) (16 ∷ 16 ∷ 15 ∷ [])
    -- Table of p·m − 1: 12. Budget 0: 13, 1,024 accepted, 1,025: 13. No link into the destination: 11.
    ∷ case (start_number town (7 ∷ []) ∷ check_number stranded_town ∷ []) (12 ∷ 11 ∷ [])
    ∷ case (run_number town (7 ∷ 7 ∷ []) 0 ∷ run_number town (7 ∷ 7 ∷ []) 1024 ∷ run_number town (7 ∷ 7 ∷ []) 1025 ∷ []) (13 ∷ 0 ∷ 13 ∷ [])
    -- A.1: the page of P8's table, with a byte after it; the largest volume and time. 18 comes after 16.
    ∷ case (page_slice town (16 ∷ 2 ∷ []) 9 (replicate 61 7)) (town_lines ++ (7 ∷ []))
    ∷ case (page_slice full_town (65535 ∷ []) 1 (replicate 30 7)) full_line
    ∷ case (page_number town (16 ∷ 2 ∷ []) 9 (replicate 59 7) ∷ page_number town (16 ∷ 1 ∷ []) 9 [] ∷ []) (18 ∷ 16 ∷ [])
    -- A.2: the zone open, and trips pass through it; closed, and they go round. Gap and cost of both.
    ∷ case (start_table (zone_town 0 0) (replicate 4 7)) (2 ∷ 3 ∷ 0 ∷ 0 ∷ [])
    ∷ case (start_table (zone_town 0 1) (replicate 4 7)) (0 ∷ 1 ∷ 2 ∷ 2 ∷ [])
    ∷ case (audited (zone_town 0 0) (2 ∷ 3 ∷ 0 ∷ 0 ∷ []) 1) (20 ∷ 2048 ∷ [])
    ∷ case (audited (zone_town 0 1) (0 ∷ 1 ∷ 2 ∷ 2 ∷ []) 1) (0 ∷ 2880 ∷ [])
    -- Flow through it is refused 20, after 16; flow to it is not, though the link's total is the same.
    ∷ case (table_number (zone_town 0 1) (2 ∷ 3 ∷ 0 ∷ 0 ∷ []) 1 ∷ table_number (zone_town 0 1) (2 ∷ 2 ∷ 0 ∷ 0 ∷ []) 1 ∷ []) (20 ∷ 16 ∷ [])
    ∷ case (start_table zone_served (replicate 6 7)) (1 ∷ 0 ∷ 0 ∷ 0 ∷ 0 ∷ 1 ∷ [])
    ∷ case (table_number zone_served (2 ∷ 0 ∷ 0 ∷ 0 ∷ 0 ∷ 2 ∷ []) 2 ∷ table_number zone_served (2 ∷ 0 ∷ 0 ∷ 1 ∷ 1 ∷ 1 ∷ []) 2 ∷ []) (0 ∷ 20 ∷ [])
    -- 20 comes before 18.
    ∷ case (page_number (zone_town 0 1) (2 ∷ 3 ∷ 0 ∷ 0 ∷ []) 1 [] ∷ page_number (zone_town 0 1) (0 ∷ 1 ∷ 2 ∷ 2 ∷ []) 1 [] ∷ []) (20 ∷ 18 ∷ [])
    -- A closed byte of 2 is refused 19, before 9. The zone with no way round it: 11 where it is closed.
    ∷ case (check_number (zone_town 0 2) ∷ check_number (zone_town 1 2) ∷ check_number (zone_town 1 1) ∷ []) (19 ∷ 19 ∷ 9 ∷ [])
    ∷ case (check_number (zone_only 0) ∷ check_number (zone_only 1) ∷ []) (0 ∷ 11 ∷ [])
    -- A version 2 file of 39 bytes is refused 4; so is one whose header is there, but not its sections. Version 5 is refused 2.
    ∷ case (check_number (take 39 (zone_town 0 1)) ∷ check_number (take 40 (zone_town 0 1)) ∷ check_number (5 ∷ drop 1 (zone_town 0 1)) ∷ []) (4 ∷ 4 ∷ 2 ∷ [])
    -- Pack keeps the version and wants its whole packed size.
    ∷ case (pack_output (zone_town 0 1) (replicate 95 7)) (zone_town 0 1 ++ (7 ∷ []))
    ∷ case (pack_number (zone_town 0 1) (replicate 93 7) ∷ pack_number (zone_town 0 1) (replicate 94 7) ∷ []) (17 ∷ 0 ∷ [])
    -- A.3: each of them as the only node that is reached; none where none is.
    ∷ case (found (0 ∷ []) [] ∷ found (63 ∷ []) [] ∷ found (64 ∷ []) [] ∷ found (127 ∷ []) [] ∷ found [] [] ∷ []) (0 ∷ 63 ∷ 64 ∷ 127 ∷ 128 ∷ [])
    -- All four reached, and visited one after the other; visited, but not reached.
    ∷ case (found word_ends [] ∷ found word_ends (0 ∷ []) ∷ found word_ends (63 ∷ 0 ∷ []) ∷ found word_ends (0 ∷ 63 ∷ 64 ∷ []) ∷ found word_ends word_ends ∷ []) (0 ∷ 63 ∷ 64 ∷ 127 ∷ 128 ∷ [])
    ∷ case (found (64 ∷ []) (0 ∷ 63 ∷ 127 ∷ []) ∷ found (127 ∷ []) (63 ∷ 64 ∷ []) ∷ found [] word_ends ∷ []) (64 ∷ 127 ∷ 128 ∷ [])
    -- All of 128 nodes reached, and all but the last visited.
    ∷ case (lowest_unvisited (nodes_below 128) (nodes_below 127) ∷ lowest_unvisited (nodes_below 128) (nodes_below 128) ∷ []) (127 ∷ 128 ∷ [])
    -- A.4: P2 and P3 count, P4 does not. One part below four times the capacity does not either, at share 64.
    ∷ case (over0 1 8 ∷ over0 1 9 ∷ over0 64 511 ∷ over0 64 512 ∷ []) (1 ∷ 1 ∷ 0 ∷ 1 ∷ [])
    -- Links over, in tables of the town: both, one of them, none; none on empty roads.
    ∷ case (over g 1 (8 ∷ 4 ∷ []) ∷ over g 1 (8 ∷ 3 ∷ []) ∷ over g 1 (7 ∷ 3 ∷ []) ∷ over g 1 (0 ∷ 0 ∷ []) ∷ []) (2 ∷ 1 ∷ 0 ∷ 0 ∷ [])
    -- A pass answers the count of the table that it judged, not of the one that it leaves.
    ∷ case ((pass_answer busy_town (8 ∷ 0 ∷ []) 1 blank).over ∷ (pass_answer busy_town (8 ∷ 0 ∷ []) 1 blank).share ∷ pass_table busy_town (8 ∷ 0 ∷ []) 1 blank) (1 ∷ 4 ∷ 8 ∷ 24 ∷ [])
    ∷ case ((audit_answer busy_town (8 ∷ 0 ∷ []) 1).over ∷ (audit_answer busy_town (8 ∷ 24 ∷ []) 4).over ∷ []) (1 ∷ 0 ∷ [])
    -- Runs: one that its budget ends at the first table; the listing has `over 0`.
    ∷ case ((run_answer busy_town (7 ∷ 7 ∷ []) 1 0).over ∷ (run_answer town (7 ∷ 7 ∷ []) 10 0).over ∷ []) (1 ∷ 0 ∷ [])
    -- A refusal has 0, though link 0 would count: 16 at flows 8, 1.
    ∷ case ((audit_answer busy_town (8 ∷ 1 ∷ []) 1).refusal ∷ (audit_answer busy_town (8 ∷ 1 ∷ []) 1).over ∷ []) (16 ∷ 0 ∷ [])
    -- A.5: times of road 0 with each power at steps 0, 1, 63, 64, 65, 255 and 256. Those of power 4 are P1's, P4's and P2's.
    ∷ case (curve 1) (10 ∷ 10 ∷ 19 ∷ 20 ∷ 20 ∷ 49 ∷ 50 ∷ [])
    ∷ case (curve 2) (10 ∷ 10 ∷ 19 ∷ 20 ∷ 20 ∷ 168 ∷ 170 ∷ [])
    ∷ case (curve 3) (10 ∷ 10 ∷ 19 ∷ 20 ∷ 20 ∷ 642 ∷ 650 ∷ [])
    ∷ case (curve 4) (10 ∷ 10 ∷ 19 ∷ 20 ∷ 20 ∷ 2530 ∷ 2570 ∷ [])
    -- P8's table with each power: gap and cost. Runs as the listing's; power 4 gives version 1's numbers.
    ∷ case (audited (curved_town 1 0) (16 ∷ 2 ∷ []) 9 ++ audited (curved_town 2 0) (16 ∷ 2 ∷ []) 9) (48 ∷ 16140 ∷ 32 ∷ 14342 ∷ [])
    ∷ case (audited (curved_town 3 0) (16 ∷ 2 ∷ []) 9 ++ audited (curved_town 4 0) (16 ∷ 2 ∷ []) 9) (16 ∷ 13552 ∷ 0 ∷ 13104 ∷ [])
    ∷ case (curved_ran 1 ++ curved_ran 2) (1 ∷ 2 ∷ 2 ∷ 0 ∷ 2 ∷ 2 ∷ 1 ∷ 6 ∷ 11 ∷ 0 ∷ 16 ∷ 6 ∷ [])
    ∷ case (curved_ran 3 ++ curved_ran 4) (1 ∷ 4 ∷ 5 ∷ 0 ∷ 8 ∷ 2 ∷ 1 ∷ 5 ∷ 9 ∷ 0 ∷ 16 ∷ 2 ∷ [])
    -- Powers 0, 5, 256 and 260 are refused 7. A version 2 file that is numbered 3 is refused 5, a version 3 file of 39 bytes 4.
    ∷ case (check_number (curved_town 0 0) ∷ check_number (curved_town 5 0) ∷ check_number (curved_town 0 1) ∷ check_number (curved_town 4 1) ∷ []) (7 ∷ 7 ∷ 7 ∷ 7 ∷ [])
    ∷ case (check_number (3 ∷ drop 1 (zone_town 0 1)) ∷ check_number (take 39 (curved_town 1 0)) ∷ check_number (curved_town 1 0) ∷ []) (5 ∷ 4 ∷ 0 ∷ [])
    -- Pack keeps the powers.
    ∷ case (pack_output (curved_town 2 0) (replicate 73 7)) (curved_town 2 0 ++ (7 ∷ []))
    -- A.6: P7's pass notes j = 1 and link 1 at node 0; taking back restores it. Later numbers of table and note are untouched.
    ∷ case (passed (16 ∷ 0 ∷ []) 8 blank) (1 ∷ 9 ∷ 16 ∷ 2 ∷ 1 ∷ 1 ∷ 65535 ∷ [])
    ∷ case (back town (16 ∷ 2 ∷ []) 9 (1 ∷ 1 ∷ 65535 ∷ [])) (0 ∷ 8 ∷ 16 ∷ 0 ∷ [])
    ∷ case (passed (16 ∷ 0 ∷ 5 ∷ []) 8 (7 ∷ 7 ∷ 7 ∷ 7 ∷ [])) (1 ∷ 9 ∷ 16 ∷ 2 ∷ 5 ∷ 1 ∷ 1 ∷ 65535 ∷ 7 ∷ [])
    ∷ case (back town (16 ∷ 2 ∷ 5 ∷ []) 9 (1 ∷ 1 ∷ 7 ∷ 7 ∷ [])) (0 ∷ 8 ∷ 16 ∷ 0 ∷ 5 ∷ [])
    -- A doubling notes j = 0 and no links, which taking back does not look at. 'Finest' leaves the note, and so does a refusal.
    ∷ case (passed (2 ∷ 0 ∷ []) 1 blank) (1 ∷ 2 ∷ 4 ∷ 0 ∷ 0 ∷ 65535 ∷ 65535 ∷ [])
    ∷ case (back town (4 ∷ 0 ∷ []) 2 (0 ∷ 65535 ∷ 65535 ∷ []) ++ back town (4 ∷ 0 ∷ []) 2 (0 ∷ 9 ∷ 9 ∷ [])) (0 ∷ 1 ∷ 2 ∷ 0 ∷ 0 ∷ 1 ∷ 2 ∷ 0 ∷ [])
    ∷ case (passed (1820 ∷ 228 ∷ []) 1024 blank ++ passed (16 ∷ 1 ∷ []) 9 blank) (2 ∷ 1024 ∷ 1820 ∷ 228 ∷ 7 ∷ 7 ∷ 7 ∷ 0 ∷ 0 ∷ 16 ∷ 1 ∷ 7 ∷ 7 ∷ 7 ∷ [])
    -- Question 12 also wants 1 + p·n numbers of the note, before 14.
    ∷ case (pass_number town (16 ∷ 0 ∷ []) 0 (7 ∷ 7 ∷ []) ∷ pass_number town (16 ∷ 0 ∷ []) 0 blank ∷ take_back_number town (16 ∷ 0 ∷ []) 0 (7 ∷ 7 ∷ []) ∷ []) (12 ∷ 14 ∷ 12 ∷ [])
    -- 21: at node 0 of the zone's town a link of another node, a forbidden link, no link; and a way home, whatever stands at nodes that it
    -- does not pass. 20 comes first.
    ∷ case (noted (1 ∷ 1 ∷ 7 ∷ 3 ∷ []) ∷ noted (0 ∷ 1 ∷ 7 ∷ 3 ∷ []) ∷ noted (4 ∷ 1 ∷ 7 ∷ 3 ∷ []) ∷ noted (2 ∷ 1 ∷ 7 ∷ 3 ∷ []) ∷ []) (21 ∷ 21 ∷ 21 ∷ 0 ∷ [])
    ∷ case (take_back_number (zone_town 0 1) (4 ∷ 6 ∷ 0 ∷ 0 ∷ []) 2 (1 ∷ 0 ∷ 1 ∷ 7 ∷ 3 ∷ []) ∷ []) (20 ∷ [])
    -- A cycle of two nodes, and the same cycle where no trips begin.
    ∷ case (take_back_number (ring_town 1) (2 ∷ 0 ∷ 2 ∷ []) 2 (1 ∷ 0 ∷ 1 ∷ 7 ∷ []) ∷ take_back_number (ring_town 1) (2 ∷ 0 ∷ 2 ∷ []) 2 (1 ∷ 0 ∷ 2 ∷ 7 ∷ []) ∷ take_back_number (ring_town 0) (0 ∷ 0 ∷ 0 ∷ []) 2 (1 ∷ 0 ∷ 1 ∷ 7 ∷ []) ∷ []) (21 ∷ 0 ∷ 0 ∷ [])
    -- 22: j = W and above 1,024, after 21; an entry smaller than its part; an odd entry; an odd share.
    ∷ case (take_back_number town (16 ∷ 2 ∷ []) 9 (9 ∷ 0 ∷ 7 ∷ []) ∷ take_back_number town (16 ∷ 2 ∷ []) 9 (2000 ∷ 0 ∷ 7 ∷ []) ∷ take_back_number town (16 ∷ 2 ∷ []) 9 (9 ∷ 2 ∷ 7 ∷ []) ∷ []) (22 ∷ 22 ∷ 21 ∷ [])
    ∷ case (back town (16 ∷ 2 ∷ []) 9 (2 ∷ 1 ∷ 7 ∷ [])) (22 ∷ 0 ∷ 16 ∷ 2 ∷ [])
    ∷ case (take_back_number town (3 ∷ 1 ∷ []) 2 (0 ∷ 7 ∷ 7 ∷ []) ∷ take_back_number town (4 ∷ 2 ∷ []) 3 (0 ∷ 7 ∷ 7 ∷ []) ∷ []) (22 ∷ 22 ∷ [])
    -- A.7: cars and lorries part where road 0 is barred; they do not where nothing is. Later numbers are untouched.
    ∷ case (start_table barred_town (replicate 5 7) ++ start_table shared_town (replicate 5 7)) (2 ∷ 0 ∷ 0 ∷ 1 ∷ 7 ∷ 2 ∷ 0 ∷ 1 ∷ 0 ∷ 7 ∷ [])
    -- S is the total of both: road 0 takes 20 with the cars alone, and 60 with the lorry. One gap for both classes, of each one's own distances.
    ∷ case (times (network_of barred_town) 1 (2 ∷ 0 ∷ 0 ∷ 1 ∷ []) ++ times (network_of shared_town) 1 (2 ∷ 0 ∷ 1 ∷ 0 ∷ [])) (20 ∷ 15 ∷ 60 ∷ 15 ∷ [])
    ∷ case ((audit_answer barred_town (2 ∷ 0 ∷ 0 ∷ 1 ∷ []) 1).gap ∷ (audit_answer shared_town (2 ∷ 0 ∷ 1 ∷ 0 ∷ []) 1).gap ∷ []) (10 ∷ 135 ∷ [])
    -- With no lorry trips and nothing barred, the numbers are those of version 3: the run of power 4, and the lorries' part all 0.
    ∷ case (let a = run_answer (lorry_town 2 0 0 0 0 0) (replicate 4 7) 10 0 in ending_number a.ending ∷ a.judged ∷ a.share ∷ a.gap ∷ run_table (lorry_town 2 0 0 0 0 0) (replicate 4 7) 10 0) (curved_ran 4 ++ (0 ∷ 0 ∷ []))
    -- Lorry trips at their own destination: 9. Both trip tables together 65,536: 10, and 65,535 accepted. A barred byte of 2: 23, before 9.
    ∷ case (check_number (lorry_town 2 0 1 1 0 0) ∷ check_number (lorry_town 255 255 1 0 0 0) ∷ check_number (lorry_town 254 255 1 0 0 0) ∷ []) (9 ∷ 10 ∷ 0 ∷ [])
    ∷ case (check_number (lorry_town 2 0 1 0 2 0) ∷ check_number (lorry_town 2 0 1 1 0 2) ∷ []) (23 ∷ 23 ∷ [])
    -- Both roads barred: 11 for the lorry alone, and accepted without it.
    ∷ case (check_number (lorry_town 2 0 1 0 1 1) ∷ check_number (lorry_town 2 0 0 0 1 1) ∷ check_number barred_town ∷ []) (11 ∷ 0 ∷ 0 ∷ [])
    -- A lorry on the barred road: 20; the cars may go by it. A table of 2·p·m − 1 and a note of 2·p·n numbers: 12.
    ∷ case (table_number barred_town (2 ∷ 0 ∷ 1 ∷ 0 ∷ []) 1 ∷ table_number barred_town (2 ∷ 0 ∷ 0 ∷ 1 ∷ []) 1 ∷ table_number shared_town (2 ∷ 0 ∷ 1 ∷ 0 ∷ []) 1 ∷ []) (20 ∷ 0 ∷ 0 ∷ [])
    ∷ case (start_number barred_town (replicate 3 7) ∷ pass_number barred_town (2 ∷ 0 ∷ 0 ∷ 1 ∷ []) 1 (replicate 4 7) ∷ pass_number barred_town (2 ∷ 0 ∷ 0 ∷ 1 ∷ []) 1 (replicate 5 7) ∷ []) (12 ∷ 12 ∷ 0 ∷ [])
    -- A pass notes the next links of both classes, cars first; taking back restores the table. A note that leads lorries by a barred road: 21.
    ∷ case (pass_table barred_town (16 ∷ 0 ∷ 0 ∷ 8 ∷ []) 8 (replicate 6 7) ++ pass_note barred_town (16 ∷ 0 ∷ 0 ∷ 8 ∷ []) 8 (replicate 6 7)) (16 ∷ 2 ∷ 0 ∷ 9 ∷ 1 ∷ 1 ∷ 65535 ∷ 1 ∷ 65535 ∷ 7 ∷ [])
    ∷ case (back barred_town (16 ∷ 2 ∷ 0 ∷ 9 ∷ []) 9 (1 ∷ 1 ∷ 65535 ∷ 1 ∷ 65535 ∷ [])) (0 ∷ 8 ∷ 16 ∷ 0 ∷ 0 ∷ 8 ∷ [])
    ∷ case (take_back_number barred_town (16 ∷ 2 ∷ 0 ∷ 9 ∷ []) 9 (1 ∷ 1 ∷ 7 ∷ 0 ∷ 7 ∷ []) ∷ take_back_number barred_town (16 ∷ 2 ∷ 0 ∷ 9 ∷ []) 9 (1 ∷ 0 ∷ 7 ∷ 1 ∷ 7 ∷ []) ∷ []) (21 ∷ 0 ∷ [])
    -- A version 4 file of 55 bytes is refused 4. Pack writes the new sections last.
    ∷ case (check_number (take 55 barred_town) ∷ check_number (take 56 barred_town) ∷ []) (4 ∷ 4 ∷ [])
    ∷ case (pack_output barred_town (replicate 95 7)) (barred_town ++ (7 ∷ []))
    -- A.8: two turns of four desks: one each to desk 0, which waits, and desk 1, which ends; desk 3 has none, and its table is as started.
    ∷ case (desk_turns queued 4 2) (1 ∷ 0 ∷ [])
    ∷ case (told 4 2) (0 ∷ 2 ∷ 0 ∷ 4 ∷ 1 ∷ 1 ∷ 10 ∷ 0 ∷ 1 ∷ 1 ∷ 1 ∷ 10 ∷ 11 ∷ 0 ∷ 0 ∷ 0 ∷ 0 ∷ 0 ∷ 4 ∷ 0 ∷ 1 ∷ 0 ∷ replicate 20 0)
    ∷ case (desks_table queued 4 2 0 ++ desks_table queued 4 2 1 ++ desks_table queued 4 2 2 ++ desks_table queued 4 2 3) (2 ∷ 0 ∷ 2 ∷ 0 ∷ 7 ∷ 7 ∷ 2 ∷ 0 ∷ 5 ∷ [])
    -- Six turns: two more to desk 0 and two to desk 3, by turns. Each waits with the table that a run of so large a budget judges last.
    ∷ case (desk_turns queued 4 6) (0 ∷ 3 ∷ 0 ∷ 3 ∷ 1 ∷ 0 ∷ [])
    ∷ case (take 17 (told 4 6)) (0 ∷ 6 ∷ 0 ∷ 4 ∷ 3 ∷ 4 ∷ 40 ∷ 0 ∷ 1 ∷ 1 ∷ 1 ∷ 10 ∷ 11 ∷ 0 ∷ 0 ∷ 0 ∷ 0 ∷ [])
    ∷ case (drop 17 (told 4 6)) (0 ∷ 4 ∷ 2 ∷ 2 ∷ 20 ∷ replicate 20 0)
    ∷ case (desks_table queued 4 6 0 ++ desks_table queued 4 6 3) (8 ∷ 0 ∷ 4 ∷ 0 ∷ 5 ∷ [])
    -- With nine turns and more each desk ends as its run by itself does.
    ∷ case (told 4 9) (0 ∷ 9 ∷ 0 ∷ 1 ∷ 5 ∷ 9 ∷ 0 ∷ 0 ∷ 1 ∷ 1 ∷ 1 ∷ 10 ∷ 11 ∷ 0 ∷ 0 ∷ 0 ∷ 0 ∷ 0 ∷ 3 ∷ 3 ∷ 4 ∷ 40 ∷ replicate 20 0)
    ∷ case (told 4 12) (told 4 9)
    ∷ case (desks_table queued 4 9 0 ++ desks_table queued 4 9 3) (16 ∷ 2 ∷ 8 ∷ 0 ∷ 5 ∷ [])
    -- A seat without a desk answers 0 throughout, and a table lent there stays as it was.
    ∷ case (drop 7 (told 1 9)) (replicate 35 0)
    ∷ case (desks_table queued 1 9 1 ++ desks_table queued 1 9 3) (7 ∷ 7 ∷ 7 ∷ 7 ∷ 5 ∷ [])
    -- 24: no desks, and nine, whatever the allowance; then 25: an allowance of 0, and of 8,193.
    ∷ case (told 0 0 ++ told 9 3) (24 ∷ replicate 41 0 ++ (24 ∷ replicate 41 0))
    ∷ case (told 4 0 ++ (desks_number 8 8193 ∷ desks_number 8 8192 ∷ [])) (25 ∷ replicate 41 0 ++ (25 ∷ 0 ∷ []))
    ∷ case (desks_table queued 0 9 0 ++ desks_table queued 4 0 3) (7 ∷ 7 ∷ 7 ∷ 7 ∷ 5 ∷ [])
    ∷ []

-- One lemma, by computation: the test holds of every case; and what the theorems ask of a study, a table, a share and a budget can be
-- met.
pub record Computed : Type 0 where
  pub every-case-holds : holds cases ≡ true
  pub check : check_number town ≡ 0
  pub start : start_number town (7 ∷ 7 ∷ []) ≡ 0
  pub table : table_number town (16 ∷ 2 ∷ []) 9 ≡ 0
  pub run : run_number town (7 ∷ 7 ∷ []) 10 ≡ 0
  pub stranded : check_number stranded_town ≡ 11
  pub roads : links town ≡ 2
  pub page : page_number town (16 ∷ 2 ∷ []) 9 (replicate 60 7) ≡ 0
  pub full : table_number full_town (65535 ∷ []) 1 ≡ 0
  pub full-volume : volume 1 (total (network_of full_town) (65535 ∷ []) 0) ≡ 6553500
  pub full-line : line_of (network_of full_town) 1 (65535 ∷ []) 0 ≡ full_line
  pub zone-closed : check_number (zone_only 1) ≡ 11
  pub zone-open : check_number (zone_only 0) ≡ 0
  pub zone-passed : table_number (zone_only 0) (1 ∷ 1 ∷ []) 1 ≡ 0
  pub first-version : version town ≡ 1
  pub zone-sizes : ((network_of (zone_town 0 1)).links ≡ 4) × ((network_of (zone_town 0 1)).commodities ≡ 1)
  pub zone-head : (network_of (zone_town 0 1)).head 0 ≡ 1
  pub zone-destination : (network_of (zone_town 0 1)).destination 0 ≡ 2
  pub zone-byte : mark_byte (closed_part (zone_town 0 1)) 1 ≡ 1
  pub zone-pack : pack_number (zone_town 0 1) (replicate 94 7) ≡ 0
  pub zone-way : IsPath (routing (network_of (zone_town 0 1)) (5 ∷ 5 ∷ 10 ∷ 10 ∷ []) 0) 0 (2 ∷ 3 ∷ [])
  pub zone-avoided : table_number (zone_town 0 1) (0 ∷ 1 ∷ 2 ∷ 2 ∷ []) 1 ≡ 0
  pub full-time : time_at (network_of full_town) 1 (total (network_of full_town) (65535 ∷ [])) 0 ≡ 4210431
  pub busy : table_number busy_town (8 ∷ 0 ∷ []) 1 ≡ 0
  pub busy-run : run_number busy_town (7 ∷ 7 ∷ []) 1 ≡ 0
  pub busy-roads : links busy_town ≡ 2
  pub busy-road : ((network_of busy_town).capacity 0 ≡ 2) × (total (network_of busy_town) (8 ∷ 0 ∷ []) 0 ≡ 8)
  pub empty-roads : (total g (0 ∷ 0 ∷ []) 0 ≡ 0) × (total g (0 ∷ 0 ∷ []) 1 ≡ 0)
  pub curved : check_number (curved_town 2 0) ≡ 0
  pub curved-table : table_number (curved_town 2 0) (16 ∷ 6 ∷ []) 11 ≡ 0
  pub curved-roads : (links (curved_town 2 0) ≡ 2) × (version (curved_town 2 0) ≡ 3)
  pub next-node : found word_ends (0 ∷ 63 ∷ []) ≡ 64
  pub next-none : found word_ends word_ends ≡ 128
  pub busy-passed : pass_number busy_town (8 ∷ 0 ∷ []) 1 blank ≡ 0
  pub town-sizes : (g.nodes ≡ 2) × (g.commodities ≡ 1)
  pub adds : (pass_answer town (16 ∷ 0 ∷ []) 8 blank).outcome ≡ outcome.Moved
  pub doubles : (pass_answer town (2 ∷ 0 ∷ []) 1 blank).outcome ≡ outcome.Moved
  pub none-chosen : chosen g 1 (total g (2 ∷ 0 ∷ [])) (total g (loading g (times g 1 (2 ∷ 0 ∷ [])))) ≡ 0
  pub rests : (pass_answer town (1820 ∷ 228 ∷ []) 1024 blank).outcome ≡ outcome.Finest
  pub taken_back_lem : take_back_number town (16 ∷ 2 ∷ []) 9 (1 ∷ 1 ∷ 7 ∷ []) ≡ 0
  pub lorries-shared : check_number shared_town ≡ 0
  pub lorries-barred : check_number barred_town ≡ 0
  pub lorries-stranded : check_number (lorry_town 2 0 1 0 1 1) ≡ 11
  pub cars-alone : check_number (lorry_town 2 0 0 0 1 1) ≡ 0
  pub lorry-table : table_number shared_town (2 ∷ 0 ∷ 0 ∷ 1 ∷ []) 1 ≡ 0
  pub other-table : table_number shared_town (1 ∷ 1 ∷ 1 ∷ 0 ∷ []) 1 ≡ 0
  pub queued-number : (desks_number 4 9 ≡ 0) × (desks_number 4 6 ≡ 0) × (desks_number 4 2 ≡ 0)
  pub queued-turns : desk_turns queued 4 9 ≡ 0 ∷ 0 ∷ 3 ∷ 0 ∷ 3 ∷ 0 ∷ 3 ∷ 1 ∷ 0 ∷ []
  pub queued-ends : (ends_after queued 4 0 ≡ 5) × (ends_after queued 4 3 ≡ 3)
  pub queued-waits : (turns_of 0 (desk_turns queued 4 6) ≡ 3) × (turns_of 3 (desk_turns queued 4 2) ≡ 0)
  pub queued-run : run_number town (7 ∷ 7 ∷ 5 ∷ []) 3 ≡ 0
  pub queued-refused : run_number stranded_town (7 ∷ 7 ∷ []) 10 ≡ 11
