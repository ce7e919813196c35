-- The note that a pass fills is the definition's.
use Rattle.std.specs.Prelude.{ℕ, ◌+◌, ◌*◌, ◌-◌, ◌≤◌, ◌<◌, ◌≡◌, refl, cond, List, [], ◌∷◌, ◌++◌, map, length, get_or, take, replicate, eqb, ltb, leb}
use Rattle.std.proofs.Common.{arith, sym, ◌∙◌, take_at}
use Rattle.std.proofs.Math.Path.{ap, fun_ext}
use Rattle.std.proofs.Math.Option.{Option, none, some}
use Rattle.std.proofs.lemmas.List.{length-map}
use borrow.Author.Tests.{eq-eqb, ne_eqb, lt-ltb, le-ltb, le-leb, lt-leb}
use Rattle.theory.specs.Finite.{rows}
use Rattle.theory.specs.Network.{Network}
use Rattle.theory.specs.Moves.{Shared}
use Rattle.theory.specs.Notes.{note_links, next_marks, note_of}
use Rattle.theory.specs.Routes.{Routing, routing, next_links}
use Rattle.theory.specs.Study.{no_link, link_mark, network}
use Rattle.theory.specs.Flows.{times}
use Rattle.theory.specs.Laws.Finite.{rows-cong}
use Rattle.theory.specs.Laws.Moves.{Pass, chosen_of, pass}
use Rattle.theory.specs.Laws.Next.{length-next}
use Rattle.calls.specs.Calls.{overwritten, note_after}
use Rattle.search.specs.Search.{routing_from}
use Rattle.routes.specs.Table.{link_marks, AllNexts}
use Rattle.notes.specs.Written.{link_rows, Writable}
use Rattle.judging.specs.Study.{Study, link_count, commodity_count, network_in, Ready, move_of}
use Rattle.judging.specs.Noted.{note_by}
use Rattle.judging.specs.Laws.Classes.{few-commodities}
use Rattle.judging.specs.Laws.Loaded.{length-marks}

-- The first marks of a row are those of the nodes.
marks-front : (q : Routing) → take q.nodes (link_marks q) ≡ map link_mark (next_links q)
unfolding link_marks
marks-front q = take_at (map link_mark (next_links q)) (replicate (128 - q.nodes) no_link) q.nodes (length-map (next_links q) link_mark ∙ length-next q)

module _ {d : Study} {times : List ℕ} {nexts : List (List ℕ)} (ready : Ready d)
    (found : AllNexts d.nodes d.links d.commodities times nexts) where
  pub rows_are : link_rows d.nodes (commodity_count d) nexts ≡ next_marks (network_in d) times
  unfolding link_rows next_marks network routing_from
  rows_are = rows-cong (commodity_count d) _ _ (λ k h. ap (take d.nodes) (found.row k h) ∙ marks-front (routing (network_in d) times k))

  pub writable : Writable d.nodes (commodity_count d) nexts
  unfolding routing_from
  writable =
      record {
        few-nodes = ready.few-nodes;
        few-commodities = few-commodities ready;
        has-rows = found.size;
        long = λ k h. let q = routing_from d.nodes d.links times (get_or d.commodities k 0) in rw (found.row k h) (omega (arith, ready.few-nodes, length-marks q ready.few-nodes ready.few-links));
      }

-- What is written is the note, by j and what a doubling makes of the share.
module _ (d : Study) (times : List ℕ) (j doubled : ℕ) (note : List ℕ) where
  pub note-adds : {nexts : List (List ℕ)} {after : List ℕ} → Ready d → AllNexts d.nodes d.links d.commodities times nexts → 0 < j
      → after ≡ overwritten (j ∷ link_rows d.nodes (commodity_count d) nexts) note → after ≡ note_by (network_in d) times j doubled note
  unfolding note_by
  note-adds ready found some-j e = e ∙ rw (lt-ltb 0 j some-j, rows_are ready found)

  pub note-doubles : {after : List ℕ} → j ≤ 0 → doubled ≤ 1024 → after ≡ overwritten (0 ∷ replicate (commodity_count d * d.nodes) no_link) note
      → after ≡ note_by (network_in d) times j doubled note
  unfolding note_by network
  note-doubles no-j fits e = e ∙ rw (le-ltb 0 j no-j, le-leb doubled 1024 fits)

  pub note-rests : j ≤ 0 → 1024 < doubled → note ≡ note_by (network_in d) times j doubled note
  unfolding note_by
  note-rests no-j over = rw (le-ltb 0 j no-j, lt-leb doubled 1024 over)

-- Times that are the same give the same next links.
marks-at : (g : Network) (t u : List ℕ) → ((l : ℕ) → get_or t l 0 ≡ get_or u l 0) → next_marks g t ≡ next_marks g u
unfolding next_marks
marks-at g t u same =
    ap
    (λ time.
    rows g.commodities (λ k.
    map link_mark
    (next_links
    (record {
      nodes = g.nodes;
      links = g.links;
      tail = g.tail;
      head = g.head;
      usable = g.may_use k;
      destination = g.destination k;
      time = time;
    }))))
    (fun_ext same)

-- The note by the times of a judged table and the j that is chosen is that of the pass.
pub note-by : (g : Network) (table : List ℕ) (share : ℕ) (t : List ℕ) → ((l : ℕ) → get_or t l 0 ≡ get_or (times g share table) l 0) → (note : List ℕ) {j : ℕ}
    → j ≡ chosen_of g (record { table = table; share = share })
    → note_by g t j (2 * share) note ≡ note_after (note_of g (record { table = table; share = share })) note (move_of g table share)
unfolding note_by note_of
note-by g table share t same note {j} chose = rw (chose, marks-at g t (times g share table) same) (go (move_of g table share) (pass g x))
  where
    x : Shared
    x = record { table = table; share = share }

    go : (next : Option Shared) → Pass g x next → note_by g (times g share table) (chosen_of g x) (2 * share) note ≡ note_after (note_of g x) note next
    go next (Pass.adds some-j fits q) = rw (lt-ltb 0 (chosen_of g x) some-j, ne_eqb (chosen_of g x) 0 (λ e. omega arith))
    go next (Pass.doubles no-j fits) = rw (no-j, le-leb (2 * share) 1024 fits)
    go next (Pass.rests no-j over) = rw (no-j, lt-leb (2 * share) 1024 over)
