-- The rows of next links that following a note writes: they are the note's on every walk from a node with trips, so the loading along them is the
-- note's.
use Prim.Native.Nat.{ℕ, zero, suc, ◌+◌, ◌*◌, ◌≤◌, ◌<◌}
use Rattle.std.proofs.Common.{arith, ◌∙◌, inl, inr, eq-eqb, ne_eqb}
use Rattle.std.specs.Prelude.{◌≡◌, Bool, true, false, ◌||◌, cond, ◌≢◌}
use Rattle.std.proofs.Math.Path.{refl, sym, ap, fun_ext}
use mathlib.Core.List.{List, [], ◌∷◌, map}
use Rattle.std.proofs.Math.Logic.{⊎_elim}
use Rattle.std.proofs.Math.Option.{Option, none, some}
use Rattle.std.proofs.Math.ListN.{length, get_or, get_or-map}
use Rattle.std.proofs.lemmas.List.{length-map}
use Rattle.std.proofs.Math.Dec.{eqb}
use Rattle.theory.specs.Finite.{all, tabulate, rows}
use Rattle.theory.specs.Network.{Network, total_trips}
use Rattle.theory.specs.Flows.{link_total}
use Rattle.theory.specs.Routes.{Routing, distance, is_some, walk, occurrences, sent_along}
use Rattle.theory.specs.Notes.{note_step, note_entry, noted_links, leads_from, note_leads, note_loading}
use Rattle.theory.specs.Study.{head, node_of, no_link, network}
use Rattle.theory.specs.Laws.Cases.{on-equal}
use Rattle.theory.specs.Laws.Finite.{all-cong, sum-cong, tabulate-cong, rows-cong, get_d_tabulate}
use Rattle.theory.specs.Laws.Noted.{noted_at, along_note, along-formed, noted-is, noted-walk}
use Rattle.theory.specs.Laws.Notes.{units, note_routing, noted-at, leads-some, note-total}
use Rattle.theory.specs.Laws.Padded.{get_d_default}
use Rattle.theory.specs.Laws.Walks.{walk-stops, walk-goes, walked}
use Rattle.loading.specs.Along.{link_of, walk_along, flow_along, Followable}
use Rattle.moves.specs.Loading.{row_along, loading_along, AllFollowable}
use Rattle.notes.specs.Followed.{toward, noted_from, by_note, Readable, Reached, Settled, row_leads, Followed, note_follows, AllReadable, AllFollowed}
use Rattle.notes.specs.Taken.{Takeable}
use Rattle.notes.specs.Laws.Followed.{row-readable}

-- What the walks along a settled row are.
module _ {n : ℕ} {links : List (List ℕ)} {commodity : ℕ} {note : List ℕ} {first : ℕ} (r : Readable n links commodity note first) {row : List ℕ}
    (t : Settled n links commodity note first (node_of commodity) row) where
  abbrev s : ℕ
  s = node_of commodity

  abbrev noted : ℕ → ℕ
  noted = noted_from note first

  link_at : (j : ℕ) → j < n → get_or (map link_of row) j none ≡ link_of (get_or row j 0)
  unfolding link_of
  link_at j h =
      let long : j < length row = omega (arith, t.size, r.few-nodes) in
      get_or-map link_of row j no_link ∙ ap link_of (get_d_default row j no_link 0 long)

  stops_at_lem : (j : ℕ) → j < n → get_or row j 0 ≡ no_link → get_or (map link_of row) j none ≡ none
  unfolding link_of
  stops_at_lem j h e = link_at j h ∙ rw (eq-eqb (get_or row j 0) no_link e)

  goes_at : (j : ℕ) → j < n → get_or row j 0 ≢ no_link → get_or (map link_of row) j none ≡ some (noted j)
  unfolding link_of
  goes_at j h some-link = link_at j h ∙ rw (ne_eqb (get_or row j 0) no_link some-link, (t.settled j h some-link).noted)

  destination-none : get_or row s 0 ≡ no_link
  destination-none = on-equal (get_or row s 0) no_link (λ e. e) (λ some-link. absurd ((t.settled s r.destination-node some-link).counted.away refl))

  -- A walk along the row from a node that it reaches is that along the note.
  module _ (next : List (Option ℕ)) (is-noted : (j : ℕ) → j < n → get_or next j none ≡ noted_at (toward n links commodity) noted j) where
    pub row-walk : (most j : ℕ) → j < n → Reached s s row j → walk_along links row most j ≡ walk (head links) next most j
    unfolding walk_along walk
    row-walk zero j h e = refl
    row-walk (suc most) j h e = ⊎_elim at-end (λ f. ⊎_elim at-end (goes (row-walk most)) f) e
      where
        at-end : j ≡ s → walk_along links row (suc most) j ≡ walk (head links) next (suc most) j
        at-end f =
            let none-noted : noted_at (toward n links commodity) noted j ≡ none = rw (eq-eqb j s f) in
            walk-stops (head links) (map link_of row) most j (stops_at_lem j h (ap (λ i. get_or row i 0) f ∙ destination-none))
            ∙ sym (walk-stops (head links) next most j (is-noted j h ∙ none-noted))

        goes : ((i : ℕ) → i < n → Reached s s row i → walk_along links row most i ≡ walk (head links) next most i)
            → get_or row j 0 ≢ no_link → walk_along links row (suc most) j ≡ walk (head links) next (suc most) j
        goes beyond some-link =
            let here = t.settled j h some-link in
            walk-goes (head links) (map link_of row) most j (noted j) (goes_at j h some-link)
            ∙ ap (λ rest. noted j ∷ rest) (beyond (head links (noted j)) (r.head-node (noted j) here.counted.below) here.onward)
            ∙ sym (walk-goes (head links) next most j (noted j) (is-noted j h ∙ noted-is (toward n links commodity) noted j (noted j) refl here.counted))

  -- So walks along it end.
  row_ends : (next : List (Option ℕ)) → ((j : ℕ) → j < n → get_or next j none ≡ noted_at (toward n links commodity) noted j)
      → (j : ℕ) → j < n → length (walk_along links row n j) < n
  unfolding walk_along
  row_ends next is-noted j h = on-equal (get_or row j 0) no_link (λ e. still n h e) goes
    where
      still : (most : ℕ) → j < most → get_or row j 0 ≡ no_link → length (walk (head links) (map link_of row) most j) < most
      still zero b e = absurd (omega arith)
      still (suc most) b e = rw (walk-stops (head links) (map link_of row) most j (stops_at_lem j h e)) (omega arith)

      goes : get_or row j 0 ≢ no_link → length (walk_along links row n j) < n
      goes some-link =
          let ahead = (t.settled j h some-link).leading in
          let q = toward n links commodity in
          let same =
          row-walk next is-noted n j h (inr (inr some-link))
          ∙ noted-walk q noted r.tail-node r.head-node r.destination-node next is-noted n j ahead.links-ahead h ahead.ahead in
          rw same (walked (by_note n links commodity note first) (along-formed q noted r.tail-node r.head-node r.destination-node) j ahead.links-ahead h ahead.ahead).short

  pub row-followable : (next : List (Option ℕ)) → ((j : ℕ) → j < n → get_or next j none ≡ noted_at (toward n links commodity) noted j) → Followable n links row
  row-followable next is-noted =
      record {
        few-nodes = r.few-nodes;
        few-links = r.few-links;
        size = t.size;
        head-node = r.head-node;
        next-link = λ j h some-link. let here = t.settled j h some-link in rw here.noted here.counted.below;
        ends = row_ends next is-noted;
      }

module _ {n : ℕ} {links : List (List ℕ)} {commodities trips table note : List ℕ} (w : Takeable n links commodities trips table note) where
  abbrev g : Network
  g = network n links commodities trips

  pub all-readable : AllReadable n links commodities trips note
  unfolding network
  all-readable =
      record {
        few-nodes = w.few-nodes;
        few-links = w.few-links;
        few-commodities = w.few-commodities;
        tail-node = w.sound.tail-node;
        head-node = w.sound.head-node;
        destination-node = w.sound.destination-node;
        has-trips = w.trips-long;
        has-links = w.note-holds;
      }

  place_is : (k : ℕ) → ◌≡◌ {A = ℕ → ℕ} (λ j. noted_from note (1 + k * n) j) (λ j. get_or note (suc (k * n + j)) 0)
  place_is k = fun_ext (λ j. let e : 1 + k * n + j ≡ suc (k * n + j) = omega arith in ap (λ i. get_or note i 0) e)

  -- The routing along the note of a commodity is the definition's,
  routing-is : (k : ℕ) → by_note n links (get_or commodities k 0) note (1 + k * n) ≡ note_routing g note k
  unfolding network
  routing-is k = ap (along_note (toward n links (get_or commodities k 0))) (place_is k)

  noted-is-at : (k j : ℕ) → j < n → get_or (noted_links g note k) j none ≡ noted_at (toward n links (get_or commodities k 0)) (noted_from note (1 + k * n)) j
  unfolding network
  noted-is-at k j h = noted-at g note k j h ∙ ap (λ noted. noted_at (toward n links (get_or commodities k 0)) noted j) (sym (place_is k))

  -- question 21 is answered as following the note does,
  pub leads-is : note_step note ≢ 0 → note_leads g note ≡ note_follows n links commodities trips note (length commodities)
  unfolding note_leads note_follows row_leads network
  leads-is some-step =
      rw (ne_eqb (note_step note) 0 some-step)
      (all-cong (length commodities) _ _ (λ k p. all-cong n _ _ (λ j h.
      ap (λ b. eqb (get_or trips (k * n + j) 0) 0 || b)
      (leads-some g note w.sound k j p h ∙ ap (λ q. is_some (distance q j)) (sym (routing-is k))))))

  module _ {nexts : List (List ℕ)} (followed : AllFollowed n links commodities trips note (length commodities) nexts) where
    -- and the loading along the rows that it writes is the note's,
    pub loading-is : loading_along n links (length commodities) trips nexts ≡ note_loading g note
    unfolding loading_along row_along flow_along note_loading sent_along network
    loading-is =
        rows-cong (length commodities) _ _ (λ k p. tabulate-cong (length links) _ _ (λ l b. sum-cong n _ _ (λ j h.
        on-equal (get_or trips (k * n + j) 0) 0
        (λ e. rw e (omega arith))
        (λ some-trips.
        let row = followed.row k p in
        ap (λ path. get_or trips (k * n + j) 0 * occurrences l path)
        (row-walk (row-readable all-readable p) row.settled (noted_links g note k) (noted-is-at k) n j h (row.reached j h some-trips)
        ∙ sym (get_d_tabulate n (walk (head links) (noted_links g note k) n) [] j h))))))

    -- with totals of at most T.
    pub followable-all : note_step note ≢ 0 → note_leads g note ≡ true → AllFollowable n links (length commodities) trips nexts
    unfolding network
    followable-all some-step leads =
        record {
          few-nodes = w.few-nodes;
          few-links = w.few-links;
          few-commodities = w.few-commodities;
          has-rows = followed.size;
          has-trips = w.trips-long;
          followable = λ k p. row-followable (row-readable all-readable p) (followed.row k p).settled (noted_links g note k) (noted-is-at k);
          small-totals = λ l b.
              let same = ap (λ y. link_total (length commodities) (length links) y l) loading-is in
              omega (arith, note-total g note w.sound some-step leads l b, w.few-trips);
        }
