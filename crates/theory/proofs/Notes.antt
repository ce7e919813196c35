-- (A.6) The links of a pass's note, and that taking back directly after a move restores what the pass judged. They stand here and not beside the other laws
-- of notes, so that a wrong definition of the note is refused where they fall.
use Prim.Native.Nat.{ℕ, zero, suc, ◌+◌, ◌*◌, ◌-◌, ◌/◌, ◌%◌, ◌≤◌, ◌<◌}
use Rattle.std.proofs.Math.Nat.{mul-div_cancel_left}
use native.Mathlib.Omega.{arith}
use Rattle.std.specs.Prelude.{◌≡◌, Bool, not, ◌&&◌, ◌||◌, cond, List, [], ◌∷◌, map, ◌≢◌, replicate, leb, ltb}
use Rattle.std.proofs.Math.Path.{refl, sym, ap}
use Rattle.std.proofs.Common.{◌∙◌, ap₂}
use Rattle.std.proofs.Math.Bool.{true, false}
use Rattle.std.proofs.Math.Logic.{⊎_elim}
use Rattle.std.proofs.Math.Option.{Option, none, some, some-injective}
use Rattle.std.proofs.Math.ListN.{length, get_or, get_or-map}
use Rattle.std.proofs.lemmas.List.{length-replicate, length-map, get_or-replicate}
use Rattle.std.proofs.Math.Arith.{digits_lt}
use Rattle.std.proofs.Math.Dec.{eqb}
use Rattle.std.proofs.Math.Seq.{ext_get_or}
use borrow.Author.Tests.{eqb-true, eqb-false, eq-eqb, ne_eqb, leb-true, le-leb, ltb-true, lt-ltb}
use Rattle.theory.specs.Finite.{all, tabulate, rows}
use Rattle.theory.specs.Network.{Network, Sound, total_trips}
use Rattle.theory.specs.Flows.{total, times, Carries, Permitted, conserves, link_total}
use Rattle.theory.specs.Routes.{Routing, routing, IsPath, distance, is_some, next_links, walk, sent_along, loading_row, loading}
use Rattle.theory.specs.Moves.{Shared, table_size, chosen, added, doubled, move}
use Rattle.theory.specs.Study.{no_link, link_mark}
use Rattle.theory.specs.Notes.{note_links, note_size, next_marks, note_of, note_step, note_entry, leaves_by, noted_links, walk_end, leads_from, note_leads, note_loading, can_take_back, taken_back}
use Rattle.theory.specs.Laws.Cases.{on-option, on-equal, on_test, either, none-some, true-false}
use Rattle.theory.specs.Laws.Conserving.{or-false}
use Rattle.theory.specs.Laws.Finite.{order, all-elim, all-intro, and_left, and_right, both, length-tabulate, get_d_tabulate, tabulate-cong, rows-cong, length-rows, get_d_rows}
use Rattle.theory.specs.Laws.Loading.{loading-carries, loading-total, length-loading}
use Rattle.theory.specs.Laws.Moves.{Pass, loading_of, chosen_of, moved}
use Rattle.theory.specs.Laws.Next.{NextLink, length-next, next-link, next-destination, next-without-path}
use Rattle.theory.specs.Laws.Noted.{path-end, walk-limited, noted_at, counts, Counted, counted, noted-is, distance-leads, leads-distance, sent-noted}
use Rattle.theory.specs.Laws.Padded.{get_d_default}
use Rattle.theory.specs.Laws.Paths.{WellFormed, Simple, simple-none}
use Rattle.theory.specs.Laws.Routings.{Timed, Served, AllServed, routing-well-formed}
use Rattle.theory.specs.Laws.Tables.{carries-lessened, carries-halved}
use Rattle.theory.specs.Laws.Walks.{walk_from, walked, walk-stops, walk_same}
use Rattle.theory.specs.Laws.Notes.{Restores, note_step_lem, own-loading, own-leads}

-- Where a note's j is not 0, the links behind it are the next links.
pub note-entry : (g : Network) (x : Shared) → chosen_of g x ≢ 0 → (k j : ℕ) → k < g.commodities → j < g.nodes →
    note_entry g (note_of g x) k j ≡ link_mark (get_or (next_links (routing g (times g x.share x.table) k)) j none)
unfolding note_of next_marks link_mark
note-entry g x some-j k j p h =
    let t = times g x.share x.table in
    let q = routing g t k in
    ap (λ b. get_or (cond b (replicate (note_links g) no_link) (next_marks g t)) (k * g.nodes + j) 0) (ne_eqb (chosen_of g x) 0 some-j)
    ∙ get_d_rows g.commodities g.nodes (λ i. map link_mark (next_links (routing g t i)))
    (λ i h. length-map (next_links (routing g t i)) link_mark ∙ length-next (routing g t i)) 0 k j p h
    ∙ get_d_default (map link_mark (next_links q)) j 0 no_link (omega (arith, length-map (next_links q) link_mark, length-next q))
    ∙ get_or-map link_mark (next_links q) j none

-- Numbers after the first ones of table and note do not matter.
module _ (g : Network) (sound : Sound g) (few : g.links ≤ no_link) (x : Shared) (some-share : 1 ≤ x.share) (table note : List ℕ)
    (timed : Timed g (times g x.share x.table)) (served : AllServed g (times g x.share x.table))
    (same-note : (i : ℕ) → i < note_size g → get_or note i 0 ≡ get_or (note_of g x) i 0) where
  abbrev t : List ℕ
  t = times g x.share x.table

  abbrev j : ℕ
  j = chosen_of g x

  step_is : note_step note ≡ j
  step_is = same-note 0 (omega arith) ∙ note_step_lem g x

  marks-are : j ≢ 0 → (k i : ℕ) → k < g.commodities → i < g.nodes → note_entry g note k i ≡ link_mark (get_or (next_links (routing g t k)) i none)
  marks-are some-j k i p h =
      same-note (suc (k * g.nodes + i)) (omega (arith, digits_lt {q = k} {m = g.commodities} {r = i} {c = g.nodes} p h)) ∙ note-entry g x some-j k i p h

  restores-added : 1 ≤ j → ((i : ℕ) → i < table_size g → get_or table i 0 ≡ get_or x.table i 0 + j * get_or (loading_of g x) i 0) →
      Restores g x (record { table = table; share = x.share + j }) note
  unfolding can_take_back taken_back
  restores-added some-j is =
      let off : j ≢ 0 = λ e. omega arith in
      let none : eqb (note_step note) 0 ≡ false = rw step_is (ne_eqb j 0 off) in
      let y : note_loading g note ≡ loading_of g x = own-loading g sound few t timed note (marks-are off) in
      record {
        leads = own-leads g sound few t timed note (marks-are off) served;
        can = rw (none, can_take_back)
            (both (ltb (note_step note) (x.share + j)) _ (lt-ltb (note_step note) (x.share + j) (omega (arith, step_is)))
            (all-intro (table_size g) _ (λ i h. le-leb (note_step note * get_or (note_loading g note) i 0) (get_or table i 0) (rw (step_is, y) (omega (arith, is i h))))));
        share-is = rw (none, taken_back, step_is) (omega arith);
        table_is = rw (none, taken_back) (tabulate-cong (table_size g) _ _ (λ i h. rw (step_is, y) (omega (arith, is i h))));
      }

  restores-doubled : j ≡ 0 → ((i : ℕ) → i < table_size g → get_or table i 0 ≡ 2 * get_or x.table i 0) →
      Restores g x (record { table = table; share = 2 * x.share }) note
  unfolding can_take_back taken_back note_leads
  restores-doubled no-j is =
      let none : eqb (note_step note) 0 ≡ true = rw (step_is, no-j) in
      record {
        leads = rw (none, note_leads);
        can = rw (none, can_take_back)
            (both (eqb (2 * x.share % 2) 0) _ (eq-eqb (2 * x.share % 2) 0 (omega arith)) (all-intro (table_size g) _ (λ i h. eq-eqb (get_or table i 0 % 2) 0 (omega (arith, is i h)))));
        share-is = rw (none, taken_back) (omega arith);
        table_is = rw (none, taken_back) (tabulate-cong (table_size g) _ _ (λ i h. omega (arith, is i h)));
      }

  pub restores : (x' : Shared) → move g x ≡ some x' → ((i : ℕ) → i < table_size g → get_or table i 0 ≡ get_or x'.table i 0) →
      Restores g x (record { table = table; share = x'.share }) note
  unfolding added doubled
  restores x' e same = go x' (moved g x x' e) same
    where
      go : (x' : Shared) → Pass g x (some x') → ((i : ℕ) → i < table_size g → get_or table i 0 ≡ get_or x'.table i 0) →
          Restores g x (record { table = table; share = x'.share }) note
      go x' (Pass.adds some-j fits q) is = restores-added some-j (λ i h. is i h ∙ get_d_tabulate (table_size g) _ 0 i h)
      go x' (Pass.doubles no-j fits) is = restores-doubled no-j (λ i h. is i h ∙ get_d_tabulate (table_size g) _ 0 i h)
