-- The theorems that document 02's requests ask for, beside the demands and in the vocabulary of the same definitions. Each proof is a
-- citation. The demands themselves speak of all calls and all versions, and stand in `Demands`.
use Rattle.std.specs.Prelude.{ℕ, suc, ◌*◌, ◌+◌, ◌/◌, ◌%◌, ◌^◌, ◌≤◌, ◌<◌, ◌≡◌, true, false, List, ◌∷◌, ◌++◌, ◌↔◌, length, get_or, take, replicate}
use Rattle.study.specs.Header.{version}
use Rattle.study.specs.Sections.{links, destinations, barred_part}
use Rattle.study.specs.Fields.{mark_byte}
use Rattle.text.specs.Decimal.{decimal, hundredths}
use Rattle.theory.specs.Network.{Network, Sound}
use Rattle.theory.specs.Flows.{entry, Carries, step_time, time_at, total, over_at, over}
use Rattle.theory.specs.Cost.{cost, gap}
use Rattle.theory.specs.Routes.{routing, IsPath}
use Rattle.theory.specs.Moves.{Shared, table_size}
use Rattle.theory.specs.Notes.{note_links, note_size, note_of, taken_back}
use Rattle.theory.specs.Study.{no_link}
use Rattle.theory.specs.Marks.{bit, marked, unvisited, lowest_unvisited}
use Rattle.theory.specs.Laws.Conserving.{Carried}
use Rattle.theory.specs.Laws.Finite.{Lowest}
use Rattle.theory.specs.Laws.Moves.{chosen_of}
use Rattle.theory.specs.Laws.Paths.{Simple}
use Rattle.theory.specs.Laws.Times.{step_time-mono}
use Rattle.theory.specs.Laws.Totals.{SameFor}
use Rattle.calls.specs.Study.{network_of}
use Rattle.calls.specs.Questions.{packed_size}
use Rattle.calls.specs.Page.{line_of, page_of}
use Rattle.calls.specs.Calls.{check_number, pack_number, pack_output, table_number, audit_answer, run_number, run_answer, run_table, page_number, page_slice}
use Rattle.calls.specs.Calls.{pass_number, pass_answer, pass_table, pass_note, take_back_number, take_back_answer, take_back_table}
use Rattle.calls.specs.Desks.{Desk, desk_at, turns_to_end, ends_after, turns_of, desk_turns, desks_number, desks_answer, desks_table}
use Rattle.calls.specs.declared.Outcome.TheVariants as outcome
use Rattle.calls.specs.Laws.Page.{LineRange, LineFits}
use Rattle.calls.specs.Laws.Turns.{Taken}
use Rattle.demands.specs.Results.{Fresh}
use Rattle.demands.specs.Zones.{Closed, Barred, OfLorries, Avoids, OnlyClosed, permitted-exactly, version-1-open, path-avoids, flow-avoids, pack-version, only-closed}
use Rattle.demands.specs.NextNodes.{word_of, found-exactly, none-exactly}
use Rattle.demands.specs.PastCurves.{CountsOver, over-when, over-when-fourfold, audit-counts, pass-counts, run-counts, empty-counts}
use Rattle.demands.specs.Powers.{free_of, rise_of, power_of, power-range, curve-exactly, versions-fourth, time-rises, with_curves, curves-rise, curves-bound}
use Rattle.demands.specs.TakingBack.{routing_at, next_walk, TakesBackTo, walk-short, walk-simple, moved-leads, moved-restores, back-carried, back-fresh, note-fresh, finest-note, doubling-note}
use Rattle.demands.specs.Lorries.{TwoClasses, KeepsOff, OnlyBarred, barred_at, two-classes, cars-alone, barred-exactly, path-keeps-off, flow-keeps-off, cars-same, only-barred}
use Rattle.demands.specs.Queues.{AsRun, AsWaiting, AsStarted, AsRefused, AsNothing, answer_of, turns_at, served-within, turns-taken, total-turns, ended-as-run, waits-as-run, unserved-as-started, refused-alone, without-desk, counts-turns, desk-carried}
use Rattle.demands.specs.Pages.{Plain, Pointed, OfLine, Largest, decimal-plain, hundredths-pointed, full-road, numbers-range, numbers_fit, line-length, line-place, page-length, page-fresh}

-- A.1, volumes on paper. Whatever table the audit accepts, every number fits its columns (3, 3, 3, 8 and 8), so each line has exactly 30
-- bytes and the page 30m, the line of link l from byte 30·l on; no number has a needless leading zero; no volume is above 65535.00 and no
-- time above 42104.31, and a table that the audit accepts has both. A page that is not refused is written over the first 30m bytes of the
-- slice, and later bytes are untouched.
pub record RequestA1 : Type 0 where
  pub fits : (file table : List ℕ) (share : ℕ) → table_number file table share ≡ 0 → (l : ℕ) → l < links file → OfLine LineFits file table share l
  pub line : (file table : List ℕ) (share : ℕ) → table_number file table share ≡ 0 → (l : ℕ) → l < links file → length (line_of (network_of file) share table l) ≡ 30
  pub page : (file table : List ℕ) (share : ℕ) → table_number file table share ≡ 0 → length (page_of (network_of file) share table) ≡ 30 * links file
  pub place : (file table : List ℕ) (share : ℕ) → table_number file table share ≡ 0 → (l i : ℕ) → l < links file → i < 30
      → get_or (page_of (network_of file) share table) (l * 30 + i) 0 ≡ get_or (line_of (network_of file) share table l) i 0
  pub plain : (x : ℕ) → Plain (decimal x)
  pub pointed : (x : ℕ) → Pointed (hundredths x)
  pub range : (file table : List ℕ) (share : ℕ) → table_number file table share ≡ 0 → (l : ℕ) → l < links file → OfLine LineRange file table share l
  pub largest : Largest
  pub slice : (file table : List ℕ) (share : ℕ) (page : List ℕ) → page_number file table share page ≡ 0
      → Fresh (30 * links file) (page_of (network_of file) share table) page (page_slice file table share page)

pub request-A1 : RequestA1
request-A1 =
    record {
      fits = numbers_fit;
      line = line-length;
      page = page-length;
      place = line-place;
      plain = decimal-plain;
      pointed = hundredths-pointed;
      range = numbers-range;
      largest = full-road;
      slice = page-fresh;
    }

-- A.2, no driving through zones. The demands hold of every version as they stand, since the file decides the network. A link whose head is
-- closed may carry only flow to that head, of cars and of lorries alike (A.7: and one that lorries are barred from no flow of lorries), and
-- every other flow; version 1 has every node open. So no path leads through a closed node, and no table that the audit accepts has flow through
-- one. Pack keeps a file's version. A study is refused as unreachable only because a node is closed: open, a table through that node would carry
-- its trips.
pub record RequestA2 : Type 0 where
  pub permission : (file : List ℕ) (l : ℕ) → l < (network_of file).links → (k : ℕ)
      → ((network_of file).may_use k l ≡ true)
      ↔ ((OfLorries file k → Barred file l → ⊥) × (Closed file ((network_of file).head l) → (network_of file).head l ≡ (network_of file).destination k))
  pub version-1 : (file : List ℕ) → version file ≡ 1 → (node : ℕ) → Closed file node → ⊥
  pub path : (file times : List ℕ) (k j : ℕ) (path : List ℕ) → IsPath (routing (network_of file) times k) j path → Avoids file k path
  pub flow : (file table : List ℕ) (share : ℕ) → table_number file table share ≡ 0 → (k l : ℕ) → k < (network_of file).commodities → l < (network_of file).links
      → Closed file ((network_of file).head l) → ((network_of file).head l ≡ (network_of file).destination k → ⊥) → entry (network_of file).links table k l ≡ 0
  pub pack : (file output : List ℕ) → pack_number file output ≡ 0 → version (take (packed_size file) (pack_output file output)) ≡ version file
  pub only-closed : OnlyClosed

pub request-A2 : RequestA2
request-A2 =
    record {
      permission = permitted-exactly;
      version-1 = version-1-open;
      path = path-avoids;
      flow = flow-avoids;
      pack = pack-version;
      only-closed = only-closed;
    }

-- A.3, reached nodes, a word at a time. Marks stand sixty-four nodes to a word. The node found is the lowest-numbered one that is reached and
-- unvisited, and none is found exactly when there is none. The contract of the reach search stays as it was: question 11's answer.
pub record RequestA3 : Type 0 where
  pub word : (marks : List ℕ) (j : ℕ) → j < 128 → marked marks j ≡ bit (get_or marks (j / 64) 0) (j % 64)
  pub found : (reached visited : List ℕ) (j : ℕ) → ((lowest_unvisited reached visited ≡ j) × (j < 128)) ↔ Lowest 128 (unvisited reached visited) j
  pub none : (reached visited : List ℕ) → (lowest_unvisited reached visited ≡ 128) ↔ ((j : ℕ) → j < 128 → unvisited reached visited j ≡ false)

pub request-A3 : RequestA3
request-A3 = record { word = word_of; found = found-exactly; none = none-exactly }

-- A.4, links past the curve. A link is counted exactly when 64·S is at least 256·c·W, that is when its total is at least four times its
-- capacity. Audit and pass answer the count of the table that they judged, and a run that of its last judged table, which it leaves at the share
-- that it answers; the count is at most m. At empty roads it is 0. (That a refusal carries 0 is in demand 1, and that the count changes no cost
-- and no gap in demand 3, which stands as it was.)
pub record RequestA4 : Type 0 where
  pub counted : (file table : List ℕ) (share : ℕ) → table_number file table share ≡ 0 → (l : ℕ) → l < links file
      → (over_at (network_of file) share (total (network_of file) table) l ≡ true)
      ↔ (256 * ((network_of file).capacity l * share) ≤ 64 * total (network_of file) table l)
  pub fourfold : (file table : List ℕ) (share : ℕ) → table_number file table share ≡ 0 → (l : ℕ) → l < links file
      → (over_at (network_of file) share (total (network_of file) table) l ≡ true)
      ↔ (4 * ((network_of file).capacity l * share) ≤ total (network_of file) table l)
  pub audit : (file table : List ℕ) (share : ℕ) → table_number file table share ≡ 0 → CountsOver file table share (audit_answer file table share).over
  pub pass : (file table : List ℕ) (share : ℕ) (note : List ℕ) → pass_number file table share note ≡ 0
      → CountsOver file table share (pass_answer file table share note).over
  pub run : (file table : List ℕ) (budget excess : ℕ) → run_number file table budget ≡ 0
      → CountsOver file (run_table file table budget excess) (run_answer file table budget excess).share (run_answer file table budget excess).over
  pub empty : (file table : List ℕ) (share : ℕ) → ((l : ℕ) → l < links file → total (network_of file) table l ≡ 0) → over (network_of file) share table ≡ 0

pub request-A4 : RequestA4
request-A4 =
    record {
      counted = over-when;
      fourfold = over-when-fourfold;
      audit = audit-counts;
      pass = pass-counts;
      run = run-counts;
      empty = empty-counts;
    }

-- A.5, a power for each road. In an accepted study a link's power q is 1 to 4, and its time at step r is a + floor(b·r^q / 64^q); versions 1
-- and 2 have power 4, and document 01's times. A link's time does not fall as its flow grows. That holds of any power, and so does the bound: with
-- any curves of this form in place of its own, a network's times do not fall as flow grows, and its gap bounds every rival. The demands, A.1's
-- widths and A.4's count hold of version 3 as they stand.
pub record RequestA5 : Type 0 where
  pub range : (file : List ℕ) → check_number file ≡ 0 → (l : ℕ) → l < links file → (1 ≤ power_of file l) × (power_of file l ≤ 4)
  pub curve : (file : List ℕ) → check_number file ≡ 0 → (l : ℕ) → l < links file → (r : ℕ)
      → (network_of file).height l r ≡ free_of file l + rise_of file l * r ^ power_of file l / 64 ^ power_of file l
  pub fourth : (file : List ℕ) → version file < 3 → (l r : ℕ) → l < links file
      → (network_of file).height l r ≡ free_of file l + rise_of file l * r ^ 4 / 16777216
  pub flow : (file : List ℕ) → check_number file ≡ 0 → (l : ℕ) → l < links file → (share : ℕ) (flow more : ℕ → ℕ) → 1 ≤ share → flow l ≤ more l
      → time_at (network_of file) share flow l ≤ time_at (network_of file) share more l
  pub rising : (a b q : ℕ) {r s : ℕ} → r ≤ s → step_time a b q r ≤ step_time a b q s
  pub flows : (g : Network) → Sound g → (a b q : ℕ → ℕ) → ((l : ℕ) → l < g.links → 1 ≤ a l)
      → (l : ℕ) → l < g.links → (share : ℕ) (flow more : ℕ → ℕ) → 1 ≤ share → flow l ≤ more l
      → time_at (with_curves g a b q) share flow l ≤ time_at (with_curves g a b q) share more l
  pub bound : (g : Network) → Sound g → (a b q : ℕ → ℕ) → ((l : ℕ) → l < g.links → 1 ≤ a l)
      → (share : ℕ) (table : List ℕ) → 1 ≤ share → (other : ℕ) (rival : List ℕ) → Carries (with_curves g a b q) other rival
      → other * cost (with_curves g a b q) share table ≤ share * cost (with_curves g a b q) other rival + 64 * other * gap (with_curves g a b q) share table

pub request-A5 : RequestA5
request-A5 =
    record {
      range = power-range;
      curve = curve-exactly;
      fourth = versions-fourth;
      flow = time-rises;
      rising = step_time-mono;
      flows = curves-rise;
      bound = curves-bound;
    }

-- A.6, taking a loading back out. In an accepted study, at the times of any table, a walk along next links has fewer links than there are
-- nodes and meets no node twice, whatever node it begins at and whatever its limit. Taking back directly after a move, with the table, the new
-- share and the note as that pass left them, is accepted, and restores exactly the share and the table, later numbers included, that the pass
-- judged, whether it added or doubled. With whatever table and share, the note of a pass that moved is never refused 21. Whatever note it is
-- handed, an accepted taking back leaves a table that carries the trips at the share that it answers, and later numbers are untouched. A pass that
-- moves fills the first 1 + p·n numbers of the note, and later ones are untouched; 'finest' leaves the note unchanged; the note of a doubling
-- is 0 and 65,535 throughout. (A pass that answers 'moved' or 'finest' was accepted. That a refusal leaves table and note unchanged is in
-- demand 1.)
pub record RequestA6 : Type 0 where
  pub walk : (file : List ℕ) → check_number file ≡ 0 → (table : List ℕ) (share k j most : ℕ) → k < (network_of file).commodities → j < (network_of file).nodes
      → length (next_walk file table share k j most) < (network_of file).nodes
  pub once : (file : List ℕ) → check_number file ≡ 0 → (table : List ℕ) (share k j most : ℕ) → k < (network_of file).commodities → j < (network_of file).nodes
      → Simple (routing_at file table share k) (next_walk file table share k j most)
  pub restores : (file table : List ℕ) (share : ℕ) (note : List ℕ) → (pass_answer file table share note).outcome ≡ outcome.Moved
      → TakesBackTo file table share (pass_table file table share note) (pass_answer file table share note).share (pass_note file table share note)
  pub leads : (file table : List ℕ) (share : ℕ) (note : List ℕ) → (pass_answer file table share note).outcome ≡ outcome.Moved
      → (other : List ℕ) (w : ℕ) → take_back_number file other w (pass_note file table share note) ≡ 21 → ⊥
  pub conserves : (file table : List ℕ) (share : ℕ) (note : List ℕ) → take_back_number file table share note ≡ 0
      → Carried (network_of file) (take_back_answer file table share note).share (take_back_table file table share note)
  pub table : (file table : List ℕ) (share : ℕ) (note : List ℕ) → take_back_number file table share note ≡ 0
      → Fresh (table_size (network_of file)) (taken_back (network_of file) (record { table = table; share = share }) note).table table (take_back_table file table share note)
  pub note : (file table : List ℕ) (share : ℕ) (note : List ℕ) → (pass_answer file table share note).outcome ≡ outcome.Moved
      → Fresh (note_size (network_of file)) (note_of (network_of file) (record { table = table; share = share })) note (pass_note file table share note)
  pub still : (file table : List ℕ) (share : ℕ) (note : List ℕ) → (pass_answer file table share note).outcome ≡ outcome.Finest
      → pass_note file table share note ≡ note
  pub doubling : (g : Network) (x : Shared) → chosen_of g x ≡ 0 → note_of g x ≡ 0 ∷ replicate (note_links g) no_link

pub request-A6 : RequestA6
request-A6 =
    record {
      walk = walk-short;
      once = walk-simple;
      restores = moved-restores;
      leads = moved-leads;
      conserves = back-carried;
      table = back-fresh;
      note = note-fresh;
      still = finest-note;
      doubling = doubling-note;
    }

-- A.7, lorries on the same links. The demands and the requests above hold of version 4 as they stand, since the file decides the network. Version 4 has
-- twice the commodities of its cars, each destination for cars and then again for lorries, so its table has 2·p·m numbers and its note 1 + 2·p·n; earlier
-- versions have those of cars. A commodity of an accepted study is barred from a link exactly where it is of lorries and the link's byte is 1. Lorry paths
-- keep off barred links, and so does the lorry flow of every table that the audit accepts. Two tables of one study with equal totals and one share, however
-- their lorry flows differ, give cars the same times, next links and loading. A study is refused as unreachable only because a link is barred to lorries.
pub record RequestA7 : Type 0 where
  pub classes : (file : List ℕ) → check_number file ≡ 0 → version file ≡ 4 → TwoClasses file
  pub cars : (file : List ℕ) → version file < 4 → (network_of file).commodities ≡ destinations file
  pub barred : (file : List ℕ) → check_number file ≡ 0 → (k l : ℕ) → k < (network_of file).commodities → l < (network_of file).links
      → (barred_at file k l ≡ true) ↔ ((destinations file ≤ k) × (mark_byte (barred_part file) l ≡ 1))
  pub path : (file : List ℕ) → check_number file ≡ 0 → (times : List ℕ) (k j : ℕ) (path : List ℕ) → destinations file ≤ k → k < (network_of file).commodities
      → IsPath (routing (network_of file) times k) j path → KeepsOff file path
  pub flow : (file table : List ℕ) (share : ℕ) → table_number file table share ≡ 0 → (k l : ℕ) → destinations file ≤ k → k < (network_of file).commodities
      → l < (network_of file).links → mark_byte (barred_part file) l ≡ 1 → entry (network_of file).links table k l ≡ 0
  pub same : (file table other : List ℕ) (share : ℕ) → ((l : ℕ) → l < (network_of file).links → total (network_of file) table l ≡ total (network_of file) other l)
      → (k : ℕ) → k < destinations file → SameFor (network_of file) share table other k
  pub only-barred : OnlyBarred

pub request-A7 : RequestA7
request-A7 =
    record {
      classes = two-classes;
      cars = cars-alone;
      barred = barred-exactly;
      path = path-keeps-off;
      flow = flow-keeps-off;
      same = cars-same;
      only-barred = only-barred;
    }

-- A.8, several desks. A refusal of the whole call, 24 before 25, is in demand 1; otherwise each seat is as follows. The turns go round the seats, the
-- latest first in the list. An unfinished desk that has had so many of them has another within eight turns, whatever is queued at the other desks, unless the
-- turns end first. The turns of the seats add up to the total, which is at most the allowance, and below it only where every desk has ended. A desk that has
-- ended answers and holds what its run by itself does, with its budget. One that the allowance cuts off after k turns is waiting, and otherwise
-- answers and holds what a run of budget k does; with no turn its table is as started. A desk whose run would be refused takes no turn, reports its own number
-- and leaves its table; a seat without a desk answers 0 throughout and leaves its table. The tables judged of a desk are its turns, and what it holds
-- carries its study's trips at the share that it answers.
pub record RequestA8 : Type 0 where
  pub within-eight : (desks : List Desk) (count allowance seat : ℕ) → seat < 8 → (recent earlier : List ℕ) → desk_turns desks count allowance ≡ recent ++ earlier
      → turns_of seat earlier < ends_after desks count seat → 8 ≤ length recent → 1 ≤ turns_of seat recent
  pub turns : (desks : List Desk) (count allowance : ℕ) → Taken (ends_after desks count) allowance (desk_turns desks count allowance)
  pub total : (desks : List Desk) (count allowance : ℕ) → desks_number count allowance ≡ 0 → (desks_answer desks count allowance).turns ≡ length (desk_turns desks count allowance)
  pub ended : (desks : List Desk) (count allowance : ℕ) → desks_number count allowance ≡ 0 → (seat : ℕ) → seat < count
      → turns_at desks count allowance seat ≡ turns_to_end (desk_at desks seat)
      → AsRun (desk_at desks seat) (desk_at desks seat).budget (answer_of desks count allowance seat) (desks_table desks count allowance seat)
  pub waits : (desks : List Desk) (count allowance : ℕ) → desks_number count allowance ≡ 0 → (seat : ℕ) → seat < count
      → 1 ≤ turns_at desks count allowance seat → turns_at desks count allowance seat < turns_to_end (desk_at desks seat)
      → AsWaiting (desk_at desks seat) (turns_at desks count allowance seat) (answer_of desks count allowance seat) (desks_table desks count allowance seat)
  pub unserved : (desks : List Desk) (count allowance : ℕ) → desks_number count allowance ≡ 0 → (seat : ℕ) → seat < count
      → turns_at desks count allowance seat ≡ 0 → 0 < turns_to_end (desk_at desks seat)
      → AsStarted (desk_at desks seat) (answer_of desks count allowance seat) (desks_table desks count allowance seat)
  pub refused : (desks : List Desk) (count allowance : ℕ) → desks_number count allowance ≡ 0 → (seat : ℕ) → seat < count
      → (number : ℕ) → run_number (desk_at desks seat).file (desk_at desks seat).table (desk_at desks seat).budget ≡ suc number
      → AsRefused (desk_at desks seat) (suc number) (turns_at desks count allowance seat) (answer_of desks count allowance seat) (desks_table desks count allowance seat)
  pub nothing : (desks : List Desk) (count allowance : ℕ) → desks_number count allowance ≡ 0 → (seat : ℕ) → count ≤ seat → seat < 8
      → AsNothing (desk_at desks seat) (answer_of desks count allowance seat) (desks_table desks count allowance seat)
  pub counted : (desks : List Desk) (count allowance : ℕ) → desks_number count allowance ≡ 0 → (seat : ℕ) → seat < count
      → (answer_of desks count allowance seat).judged ≡ turns_at desks count allowance seat
  pub carries : (desks : List Desk) (count allowance : ℕ) → desks_number count allowance ≡ 0 → (seat : ℕ) → seat < count
      → run_number (desk_at desks seat).file (desk_at desks seat).table (desk_at desks seat).budget ≡ 0
      → Carried (network_of (desk_at desks seat).file) (answer_of desks count allowance seat).share (desks_table desks count allowance seat)

pub request-A8 : RequestA8
request-A8 =
    record {
      within-eight = served-within;
      turns = turns-taken;
      total = total-turns;
      ended = ended-as-run;
      waits = waits-as-run;
      unserved = unserved-as-started;
      refused = refused-alone;
      nothing = without-desk;
      counted = counts-turns;
      carries = desk-carried;
    }
