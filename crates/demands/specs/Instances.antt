-- The hypotheses of the demands and of the requests' theorems can be met: the town of two roads, the busy town, the town with a zone, the
-- town with powers, the towns with a lorry, some marked nodes and a queue of four desks meet each of them.
use Rattle.std.specs.Prelude.{ℕ, zero, suc, ◌+◌, ◌*◌, ◌/◌, ◌^◌, ◌≤◌, ◌<◌, ◌↔◌, ◌≡◌, true, false, List, [], ◌∷◌, length, get_or, take, replicate}
use Rattle.std.proofs.Common.{arith, sym, ap, ◌∙◌}
use Rattle.study.specs.Header.{version}
use Rattle.study.specs.Sections.{links, destinations, barred_part}
use Rattle.study.specs.Fields.{mark_byte}
use Rattle.theory.specs.Network.{Network}
use Rattle.theory.specs.Flows.{entry, Carries, time_at, total, over_at, over}
use Rattle.theory.specs.Cost.{cost, gap}
use Rattle.theory.specs.Moves.{Shared, table_size}
use Rattle.theory.specs.Notes.{note_links, note_size, note_of, taken_back}
use Rattle.theory.specs.Study.{no_link}
use Rattle.theory.specs.Marks.{bit, marked, unvisited}
use Rattle.theory.specs.Laws.Conserving.{Carried}
use Rattle.theory.specs.Laws.Finite.{Lowest}
use Rattle.theory.specs.Laws.Paths.{Simple}
use Rattle.theory.specs.Laws.Totals.{SameFor}
use Rattle.calls.specs.Study.{network_of}
use Rattle.calls.specs.Sequence.{Call, after_start, after_calls}
use Rattle.calls.specs.Cases.{town, busy_town, curved_town, zone_town, barred_town, shared_town, blank, set_of, word_ends, queued}
use Rattle.calls.specs.Desks.{desk_at, turns_of, desk_turns, desks_answer, desks_table}
use Rattle.calls.proofs.Computed.{computed}
use Rattle.calls.specs.Page.{page_of}
use Rattle.calls.specs.Questions.{packed_size}
use Rattle.calls.specs.Calls.{table_number, pack_output, audit_answer, pass_answer, pass_table, pass_note, take_back_number, take_back_answer, take_back_table, run_answer, run_table, page_slice}
use Rattle.calls.specs.Laws.Questions.{Described, check-passed, table-both}
use Rattle.calls.specs.Laws.Reach.{passed-carries}
use Rattle.calls.specs.Laws.Networks.{sound}
use Rattle.calls.specs.Laws.Page.{LineFits, link-count}
use Rattle.demands.specs.Demands.{Certified, demand-3}
use Rattle.demands.specs.Results.{Fresh}
use Rattle.demands.specs.Pages.{OfLine}
use Rattle.demands.specs.Zones.{Closed, Avoids}
use Rattle.demands.specs.PastCurves.{CountsOver}
use Rattle.demands.specs.Powers.{free_of, rise_of, power_of, with_curves, curves-carry}
use Rattle.demands.specs.TakingBack.{routing_at, next_walk, TakesBackTo}
use Rattle.demands.specs.Lorries.{TwoClasses, KeepsOff, barred_at}
use Rattle.demands.specs.LorryTowns.{lorried}
use Rattle.demands.specs.Queues.{AsRun, AsWaiting, AsStarted, AsRefused, AsNothing, answer_of, turns_at}
use Rattle.demands.specs.Requests.{request-A1, request-A2, request-A3, request-A4, request-A5, request-A6, request-A7, request-A8}

-- A study that passes questions 1 to 11.
pub town-described : Described town
town-described = (check-passed town computed.check).described

-- A rival: the equilibrium table at share 9.
pub town-rival : Carries (network_of town) 9 (16 ∷ 2 ∷ [])
town-rival = passed-carries town (16 ∷ 2 ∷ []) 9 (table-both town (16 ∷ 2 ∷ []) 9 computed.table).1

-- An accepted start, followed by a list of calls of which some are refused, one for its note.
abbrev town_calls : List Call
town_calls = Call.pass 1 blank ∷ Call.audit 3 ∷ Call.pass 5 blank ∷ Call.pass 2 (7 ∷ 7 ∷ []) ∷ Call.pass 2 blank ∷ []

pub town-list : Certified town (after_calls town (after_start town (7 ∷ 7 ∷ [])) town_calls)
town-list = demand-3.list town (7 ∷ 7 ∷ []) computed.start town_calls

-- A table that the audit accepts.
pub town-table : Certified town (record { table = 16 ∷ 2 ∷ []; share = 9 })
town-table = demand-3.table town (16 ∷ 2 ∷ []) 9 computed.table

-- A link of that table, and a page of it that is not refused.
pub town-line : OfLine LineFits town (16 ∷ 2 ∷ []) 9 1
town-line = request-A1.fits town (16 ∷ 2 ∷ []) 9 computed.table 1 (omega (arith, computed.roads))

pub town-page : Fresh (30 * links town) (page_of (network_of town) 9 (16 ∷ 2 ∷ [])) (replicate 60 7) (page_slice town (16 ∷ 2 ∷ []) 9 (replicate 60 7))
town-page = request-A1.slice town (16 ∷ 2 ∷ []) 9 (replicate 60 7) computed.page

-- A version 1 file, and so no closed node in it.
pub town-open : (node : ℕ) → Closed town node → ⊥
town-open = request-A2.version-1 town computed.first-version

-- A path round the zone, and a table that the audit accepts, with a link into the zone and no flow on it to the destination beyond.
pub zone-path : Avoids (zone_town 0 1) 0 (2 ∷ 3 ∷ [])
zone-path = request-A2.path (zone_town 0 1) (5 ∷ 5 ∷ 10 ∷ 10 ∷ []) 0 0 (2 ∷ 3 ∷ []) computed.zone-way

pub zone-table : entry (network_of (zone_town 0 1)).links (0 ∷ 1 ∷ 2 ∷ 2 ∷ []) 0 0 ≡ 0
zone-table =
    request-A2.flow (zone_town 0 1) (0 ∷ 1 ∷ 2 ∷ 2 ∷ []) 1 computed.zone-avoided 0 0
    (omega (arith, computed.zone-sizes.1))
    (omega (arith, computed.zone-sizes.0))
    (rw computed.zone-head computed.zone-byte)
    (λ e. omega (arith, computed.zone-head, computed.zone-destination))

-- A version 2 file that pack does not refuse.
pub zone-packed : version (take (packed_size (zone_town 0 1)) (pack_output (zone_town 0 1) (replicate 94 7))) ≡ version (zone_town 0 1)
zone-packed = request-A2.pack (zone_town 0 1) (replicate 94 7) computed.zone-pack

-- Of four nodes reached, two visited: the next is found; and all four visited: none is.
pub next-found : Lowest 128 (unvisited (set_of word_ends) (set_of (0 ∷ 63 ∷ []))) 64
next-found = (request-A3.found (set_of word_ends) (set_of (0 ∷ 63 ∷ [])) 64).0 (computed.next-node, omega arith)

pub none_left : (j : ℕ) → j < 128 → unvisited (set_of word_ends) (set_of word_ends) j ≡ false
none_left = (request-A3.none (set_of word_ends) (set_of word_ends)).0 computed.next-none

-- A node of the second word.
pub second_word : marked (set_of word_ends) 64 ≡ bit (get_or (set_of word_ends) 1 0) 0
second_word = request-A3.word (set_of word_ends) 64 (omega arith)

-- A link of an accepted table with exactly four times its capacity is counted; so is it by audit, pass and run.
pub busy-counted : over_at (network_of busy_town) 1 (total (network_of busy_town) (8 ∷ 0 ∷ [])) 0 ≡ true
busy-counted = (request-A4.fourfold busy_town (8 ∷ 0 ∷ []) 1 computed.busy 0 (omega (arith, computed.busy-roads))).1 (omega (arith, computed.busy-road))

pub busy-over : 256 * ((network_of busy_town).capacity 0 * 1) ≤ 64 * total (network_of busy_town) (8 ∷ 0 ∷ []) 0
busy-over = (request-A4.counted busy_town (8 ∷ 0 ∷ []) 1 computed.busy 0 (omega (arith, computed.busy-roads))).0 busy-counted

pub busy-audit : CountsOver busy_town (8 ∷ 0 ∷ []) 1 (audit_answer busy_town (8 ∷ 0 ∷ []) 1).over
busy-audit = request-A4.audit busy_town (8 ∷ 0 ∷ []) 1 computed.busy

pub busy-pass : CountsOver busy_town (8 ∷ 0 ∷ []) 1 (pass_answer busy_town (8 ∷ 0 ∷ []) 1 blank).over
busy-pass = request-A4.pass busy_town (8 ∷ 0 ∷ []) 1 blank computed.busy-passed

pub busy-run :
    let answer = run_answer busy_town (7 ∷ 7 ∷ []) 1 0 in
    CountsOver busy_town (run_table busy_town (7 ∷ 7 ∷ []) 1 0) answer.share answer.over
busy-run = request-A4.run busy_town (7 ∷ 7 ∷ []) 1 0 computed.busy-run

-- The town with nobody on its roads.
pub town-empty : over (network_of town) 1 (0 ∷ 0 ∷ []) ≡ 0
town-empty = request-A4.empty town (0 ∷ 0 ∷ []) 1 (λ l h. none l (rw computed.roads at h))
  where
    none : (l : ℕ) → l < 2 → total (network_of town) (0 ∷ 0 ∷ []) l ≡ 0
    none zero h = computed.empty-roads.0
    none (suc zero) h = computed.empty-roads.1
    none (suc (suc l)) h = omega arith

-- A version 3 study: the power of road 0, its curve, and its time with more flow. Its table at share 11 is certified by demand 3 as it stands.
pub curved-range : (1 ≤ power_of (curved_town 2 0) 0) × (power_of (curved_town 2 0) 0 ≤ 4)
curved-range = request-A5.range (curved_town 2 0) computed.curved 0 (omega (arith, computed.curved-roads.0))

pub curved-curve : (r : ℕ)
    → (network_of (curved_town 2 0)).height 0 r ≡ free_of (curved_town 2 0) 0 + rise_of (curved_town 2 0) 0 * r ^ power_of (curved_town 2 0) 0 / 64 ^ power_of (curved_town 2 0) 0
curved-curve = request-A5.curve (curved_town 2 0) computed.curved 0 (omega (arith, computed.curved-roads.0))

pub curved-flow : time_at (network_of (curved_town 2 0)) 11 (λ l. 16) 0 ≤ time_at (network_of (curved_town 2 0)) 11 (λ l. 22) 0
curved-flow = request-A5.flow (curved_town 2 0) computed.curved 0 (omega (arith, computed.curved-roads.0)) 11 (λ l. 16) (λ l. 22) (omega arith) (omega arith)

pub curved-table : Certified (curved_town 2 0) (record { table = 16 ∷ 6 ∷ []; share = 11 })
curved-table = demand-3.table (curved_town 2 0) (16 ∷ 6 ∷ []) 11 computed.curved-table

-- A version 1 file.
pub town-fourth : (r : ℕ) → (network_of town).height 0 r ≡ free_of town 0 + rise_of town 0 * r ^ 4 / 16777216
town-fourth r = request-A5.fourth town (omega (arith, computed.first-version)) 0 r (omega (arith, computed.roads))

-- The town with curves of power 7, which no version has, and the same rival.
abbrev seventh : Network
seventh = with_curves (network_of town) (λ l. 10) (λ l. 10) (λ l. 7)

pub seventh-flow : time_at seventh 9 (λ l. 16) 0 ≤ time_at seventh 9 (λ l. 18) 0
seventh-flow =
    request-A5.flows (network_of town) (sound town town-described) (λ l. 10) (λ l. 10) (λ l. 7) (λ l h. omega arith) 0 (omega (arith, link-count town, computed.roads)) 9 (λ l. 16)
    (λ l. 18) (omega arith) (omega arith)

pub seventh-bound : 9 * cost seventh 1 (2 ∷ 0 ∷ []) ≤ 1 * cost seventh 9 (16 ∷ 2 ∷ []) + 64 * 9 * gap seventh 1 (2 ∷ 0 ∷ [])
seventh-bound =
    request-A5.bound (network_of town) (sound town town-described) (λ l. 10) (λ l. 10) (λ l. 7) (λ l h. omega arith) 1 (2 ∷ 0 ∷ []) (omega arith) 9 (16 ∷ 2 ∷ [])
    (curves-carry (network_of town) (λ l. 10) (λ l. 10) (λ l. 7) 9 (16 ∷ 2 ∷ []) town-rival)

-- A walk in the town at the times of P7's table, with a limit that it does not meet.
pub town-walk : length (next_walk town (16 ∷ 0 ∷ []) 8 0 0 9) < (network_of town).nodes
town-walk = request-A6.walk town computed.check (16 ∷ 0 ∷ []) 8 0 0 9 (omega (arith, computed.town-sizes)) (omega (arith, computed.town-sizes))

pub town-once : Simple (routing_at town (16 ∷ 0 ∷ []) 8 0) (next_walk town (16 ∷ 0 ∷ []) 8 0 0 9)
town-once = request-A6.once town computed.check (16 ∷ 0 ∷ []) 8 0 0 9 (omega (arith, computed.town-sizes)) (omega (arith, computed.town-sizes))

-- P7's pass, which adds with j = 1, and the pass of the start's table, which doubles: both are taken back.
pub town-added :
    TakesBackTo town (16 ∷ 0 ∷ []) 8 (pass_table town (16 ∷ 0 ∷ []) 8 blank) (pass_answer town (16 ∷ 0 ∷ []) 8 blank).share (pass_note town (16 ∷ 0 ∷ []) 8 blank)
town-added = request-A6.restores town (16 ∷ 0 ∷ []) 8 blank computed.adds

pub town-doubled :
    TakesBackTo town (2 ∷ 0 ∷ []) 1 (pass_table town (2 ∷ 0 ∷ []) 1 blank) (pass_answer town (2 ∷ 0 ∷ []) 1 blank).share (pass_note town (2 ∷ 0 ∷ []) 1 blank)
town-doubled = request-A6.restores town (2 ∷ 0 ∷ []) 1 blank computed.doubles

-- The note of P7's pass with another table and share.
pub town-leads : take_back_number town (2 ∷ 0 ∷ []) 1 (pass_note town (16 ∷ 0 ∷ []) 8 blank) ≡ 21 → ⊥
town-leads = request-A6.leads town (16 ∷ 0 ∷ []) 8 blank computed.adds (2 ∷ 0 ∷ []) 1

-- A taking back that is accepted, with a note that no pass left.
pub town-back : Carried (network_of town) (take_back_answer town (16 ∷ 2 ∷ []) 9 (1 ∷ 1 ∷ 7 ∷ [])).share (take_back_table town (16 ∷ 2 ∷ []) 9 (1 ∷ 1 ∷ 7 ∷ []))
town-back = request-A6.conserves town (16 ∷ 2 ∷ []) 9 (1 ∷ 1 ∷ 7 ∷ []) computed.taken_back_lem

pub town-back-table :
    let x : Shared = record { table = 16 ∷ 2 ∷ []; share = 9 } in
    Fresh (table_size (network_of town)) (taken_back (network_of town) x (1 ∷ 1 ∷ 7 ∷ [])).table (16 ∷ 2 ∷ []) (take_back_table town (16 ∷ 2 ∷ []) 9 (1 ∷ 1 ∷ 7 ∷ []))
town-back-table = request-A6.table town (16 ∷ 2 ∷ []) 9 (1 ∷ 1 ∷ 7 ∷ []) computed.taken_back_lem

-- The note of P7's pass; that of the start's table, whose j is 0; and one that 'finest' leaves as it was.
pub town-note :
    let x : Shared = record { table = 16 ∷ 0 ∷ []; share = 8 } in
    Fresh (note_size (network_of town)) (note_of (network_of town) x) blank (pass_note town (16 ∷ 0 ∷ []) 8 blank)
town-note = request-A6.note town (16 ∷ 0 ∷ []) 8 blank computed.adds

pub town-doubling : note_of (network_of town) (record { table = 2 ∷ 0 ∷ []; share = 1 }) ≡ 0 ∷ replicate (note_links (network_of town)) no_link
town-doubling = request-A6.doubling (network_of town) (record { table = 2 ∷ 0 ∷ []; share = 1 }) computed.none-chosen

pub town-still : pass_note town (1820 ∷ 228 ∷ []) 1024 blank ≡ blank
town-still = request-A6.still town (1820 ∷ 228 ∷ []) 1024 blank computed.rests

-- A town of version 4, and one of version 1.
pub barred-classes : TwoClasses barred_town
barred-classes = request-A7.classes barred_town computed.lorries-barred lorried.fourth

pub town-cars : (network_of town).commodities ≡ destinations town
town-cars = request-A7.cars town (omega (arith, computed.first-version))

-- The lorries' commodity and the barred road, a path of theirs, and a table with their flow on the other road.
pub barred-road : (barred_at barred_town 1 0 ≡ true) ↔ ((destinations barred_town ≤ 1) × (mark_byte (barred_part barred_town) 0 ≡ 1))
barred-road = request-A7.barred barred_town computed.lorries-barred 1 0 (omega (arith, lorried.sizes)) (omega (arith, lorried.sizes))

pub barred-path : KeepsOff barred_town (1 ∷ [])
barred-path =
    request-A7.path barred_town computed.lorries-barred (20 ∷ 15 ∷ []) 1 0 (1 ∷ []) (omega (arith, lorried.sizes)) (omega (arith, lorried.sizes))
    lorried.way

pub barred-flow : entry (network_of barred_town).links (2 ∷ 0 ∷ 0 ∷ 1 ∷ []) 1 0 ≡ 0
barred-flow =
    request-A7.flow barred_town (2 ∷ 0 ∷ 0 ∷ 1 ∷ []) 1 lorried.table 1 0 (omega (arith, lorried.sizes)) (omega (arith, lorried.sizes))
    (omega (arith, lorried.sizes)) lorried.byte

-- Two tables that the audit accepts, with the lorry on one road and on the other, and the same totals.
pub shared_same : SameFor (network_of shared_town) 1 (2 ∷ 0 ∷ 0 ∷ 1 ∷ []) (1 ∷ 1 ∷ 1 ∷ 0 ∷ []) 0
shared_same = request-A7.same shared_town (2 ∷ 0 ∷ 0 ∷ 1 ∷ []) (1 ∷ 1 ∷ 1 ∷ 0 ∷ []) 1 equal 0 (omega (arith, lorried.shared))
  where
    equal : (l : ℕ) → l < (network_of shared_town).links → total (network_of shared_town) (2 ∷ 0 ∷ 0 ∷ 1 ∷ []) l ≡ total (network_of shared_town) (1 ∷ 1 ∷ 1 ∷ 0 ∷ []) l
    equal zero h = lorried.first-totals
    equal (suc zero) h = lorried.second-totals
    equal (suc (suc l)) h = absurd (omega (arith, lorried.shared))

pub shared-accepted : (table_number shared_town (2 ∷ 0 ∷ 0 ∷ 1 ∷ []) 1 ≡ 0) × (table_number shared_town (1 ∷ 1 ∷ 1 ∷ 0 ∷ []) 1 ≡ 0)
shared-accepted = (computed.lorry-table, computed.other-table)

-- Desks in a queue, where nine turns are enough: the first desk, after its first turn, is among the next eight.
pub queued-served : 1 ≤ turns_of 0 (0 ∷ 0 ∷ 3 ∷ 0 ∷ 3 ∷ 0 ∷ 3 ∷ 1 ∷ [])
unfolding turns_of
queued-served = request-A8.within-eight queued 4 9 0 (omega arith) (0 ∷ 0 ∷ 3 ∷ 0 ∷ 3 ∷ 0 ∷ 3 ∷ 1 ∷ []) (0 ∷ []) computed.queued-turns (omega (arith, computed.queued-ends.0)) (omega arith)

pub queued-ended : AsRun (desk_at queued 0) (desk_at queued 0).budget (answer_of queued 4 9 0) (desks_table queued 4 9 0)
unfolding turns_of
queued-ended =
    request-A8.ended queued 4 9 computed.queued-number.0 0 (omega arith)
    (ap (turns_of 0) computed.queued-turns ∙ sym computed.queued-ends.0)

pub queued-total : (desks_answer queued 4 9).turns ≡ length (desk_turns queued 4 9)
queued-total = request-A8.total queued 4 9 computed.queued-number.0

-- With six turns the first desk waits after three; with two the last has none.
pub queued-waiting : AsWaiting (desk_at queued 0) (turns_at queued 4 6 0) (answer_of queued 4 6 0) (desks_table queued 4 6 0)
queued-waiting =
    request-A8.waits queued 4 6 computed.queued-number.1 0 (omega arith)
    (omega (arith, computed.queued-waits.0))
    (omega (arith, computed.queued-waits.0, computed.queued-ends.0))

pub queued-unserved : AsStarted (desk_at queued 3) (answer_of queued 4 2 3) (desks_table queued 4 2 3)
queued-unserved =
    request-A8.unserved queued 4 2 computed.queued-number.2 3 (omega arith) computed.queued-waits.1 (omega (arith, computed.queued-ends.1))

-- The desk whose run would be refused, a seat without a desk, and what a desk holds.
pub queued_refused : AsRefused (desk_at queued 2) 11 (turns_at queued 4 6 2) (answer_of queued 4 6 2) (desks_table queued 4 6 2)
unfolding queued
queued_refused = request-A8.refused queued 4 6 computed.queued-number.1 2 (omega arith) 10 computed.queued-refused

pub queued-nothing : AsNothing (desk_at queued 5) (answer_of queued 4 6 5) (desks_table queued 4 6 5)
queued-nothing = request-A8.nothing queued 4 6 computed.queued-number.1 5 (omega arith) (omega arith)

pub queued-counted : (answer_of queued 4 6 3).judged ≡ turns_at queued 4 6 3
queued-counted = request-A8.counted queued 4 6 computed.queued-number.1 3 (omega arith)

pub queued-carries : Carried (network_of (desk_at queued 3).file) (answer_of queued 4 6 3).share (desks_table queued 4 6 3)
unfolding queued
queued-carries = request-A8.carries queued 4 6 computed.queued-number.1 3 (omega arith) computed.queued-run
