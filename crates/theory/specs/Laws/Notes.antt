-- (A.6) What the note of a pass is, what its loading carries, and what taking back leaves.
use Prim.Native.Nat.{ℕ, zero, suc, ◌+◌, ◌*◌, ◌-◌, ◌/◌, ◌%◌, ◌≤◌, ◌<◌}
use Rattle.std.proofs.Math.Nat.{mul-div_cancel_left}
use native.Mathlib.Omega.{arith}
use Rattle.std.specs.Prelude.{◌≡◌, Bool, not, ◌&&◌, ◌||◌, cond, List, [], ◌∷◌, map, ◌≢◌, replicate, leb, ltb}
use Rattle.std.proofs.Math.Path.{refl, sym, ap}
use Rattle.std.proofs.Common.{◌∙◌, ap₂}
use Rattle.std.proofs.Math.Bool.{true, false}
use Rattle.std.proofs.Math.Logic.{⊎_elim}
use Rattle.std.proofs.Math.Option.{Option, none, some, some-injective}
use Rattle.std.proofs.Math.ListN.{length, get_or, get_or-map}
use Rattle.std.proofs.lemmas.List.{length-replicate, length-map, get_or-replicate}
use Rattle.std.proofs.Math.Arith.{digits_lt}
use Rattle.std.proofs.Math.Dec.{eqb}
use Rattle.std.proofs.Math.Seq.{ext_get_or}
use borrow.Author.Tests.{eqb-true, eqb-false, eq-eqb, ne_eqb, leb-true, le-leb, ltb-true, lt-ltb}
use Rattle.theory.specs.Finite.{all, tabulate, rows}
use Rattle.theory.specs.Network.{Network, Sound, total_trips}
use Rattle.theory.specs.Flows.{total, times, Carries, Permitted, conserves, link_total}
use Rattle.theory.specs.Routes.{Routing, routing, IsPath, distance, is_some, next_links, walk, sent_along, loading_row, loading}
use Rattle.theory.specs.Moves.{Shared, table_size, chosen, added, doubled, move}
use Rattle.theory.specs.Study.{no_link, link_mark}
use Rattle.theory.specs.Notes.{note_links, note_size, next_marks, note_of, note_step, note_entry, leaves_by, noted_links, walk_end, leads_from, note_leads, note_loading, can_take_back, taken_back}
use Rattle.theory.specs.Laws.Cases.{on-option, on-equal, on_test, either, none-some, true-false}
use Rattle.theory.specs.Laws.Conserving.{or-false}
use Rattle.theory.specs.Laws.Finite.{order, all-elim, all-intro, and_left, and_right, both, length-tabulate, get_d_tabulate, tabulate-cong, rows-cong, length-rows, get_d_rows}
use Rattle.theory.specs.Laws.Loading.{loading-carries, loading-total, length-loading}
use Rattle.theory.specs.Laws.Moves.{Pass, loading_of, chosen_of, moved}
use Rattle.theory.specs.Laws.Next.{NextLink, length-next, next-link, next-destination, next-without-path}
use Rattle.theory.specs.Laws.Noted.{path-end, walk-limited, noted_at, counts, Counted, counted, noted-is, distance-leads, leads-distance, sent-noted}
use Rattle.theory.specs.Laws.Padded.{get_d_default}
use Rattle.theory.specs.Laws.Paths.{WellFormed, Simple, simple-none}
use Rattle.theory.specs.Laws.Routings.{Timed, Served, AllServed, routing-well-formed}
use Rattle.theory.specs.Laws.Tables.{carries-lessened, carries-halved}
use Rattle.theory.specs.Laws.Walks.{walk_from, walked, walk-stops, walk_same}

-- Every link with time 1.
abbrev pub units : Network → List ℕ
units g = replicate g.links 1

pub units-timed : (g : Network) → Timed g (units g)
units-timed g l h = omega (arith, get_or-replicate {A = ℕ} g.links l 1 0 h)

-- The network in which each commodity may use only the links that a note has for it.
abbrev pub note_network : Network → List ℕ → Network
note_network g note =
    record {
      nodes = g.nodes;
      links = g.links;
      tail = g.tail;
      head = g.head;
      capacity = g.capacity;
      height = g.height;
      commodities = g.commodities;
      destination = g.destination;
      trips = g.trips;
      may_use = λ k l. g.may_use k l && (not (eqb (g.tail l) (g.destination k)) && eqb (note_entry g note k (g.tail l)) l);
    }

module _ (g : Network) (note : List ℕ) where
  -- The routing of a commodity there.
  abbrev pub note_routing : ℕ → Routing
  note_routing k = routing (note_network g note) (units g) k

  pub noted-at : (k j : ℕ) → j < g.nodes → get_or (noted_links g note k) j none ≡ noted_at (routing g (units g) k) (note_entry g note k) j
  unfolding noted_links leaves_by
  noted-at k j h = get_d_tabulate g.nodes _ none j h

  module _ (sound : Sound g) where
    note-sound : Sound (note_network g note)
    note-sound =
        record {
          tail-node = sound.tail-node;
          head-node = sound.head-node;
          some-capacity = sound.some-capacity;
          some-time = sound.some-time;
          rising = sound.rising;
          destination-node = sound.destination-node;
        }

    -- A note leads from a node exactly where the node has a distance there.
    pub leads-some : (k j : ℕ) → k < g.commodities → j < g.nodes → leads_from g k (noted_links g note k) j ≡ is_some (distance (note_routing k) j)
    unfolding leads_from
    leads-some k j p h =
        let q = routing g (units g) k in
        let noted = note_entry g note k in
        on-option (distance (note_routing k) j)
        (λ e.
        rw e (on_test (leads_from g k (noted_links g note k) j)
        (λ t. true-false (leads-distance q noted sound.tail-node sound.head-node (sound.destination-node k p) (noted_links g note k) (noted-at k) j h (eqb-true _ _ t)) (ap is_some e))
        (λ t. t)))
        (λ y e.
        rw e (eq-eqb _ _ (distance-leads q noted sound.tail-node sound.head-node (sound.destination-node k p) (noted_links g note k) (noted-at k) j y h e)))

    module _ (some-step : note_step note ≢ 0) (leads : note_leads g note ≡ true) where
      -- Where it leads from every node with trips, each of these has a distance,
      pub note-served : AllServed (note_network g note) (units g)
      unfolding note_leads
      note-served k p j h some-trips =
          let each = or-false (eqb (note_step note) 0) _ (ne_eqb (note_step note) 0 some-step) leads in
          let here = all-elim g.nodes _ (all-elim g.commodities _ each k p) j h in
          sym (leads-some k j p h) ∙ or-false (eqb (g.trips k j) 0) _ (ne_eqb (g.trips k j) 0 some-trips) here

      -- the note's loading is that of the network,
      pub note-loading : note_loading g note ≡ loading (note_network g note) (units g)
      unfolding note_loading loading
      note-loading =
          rows-cong g.commodities _ _ (λ k p.
          sent-noted (routing g (units g) k) (note_entry g note k) sound.tail-node sound.head-node (sound.destination-node k p) (noted_links g note k)
          (noted-at k) (g.trips k) (note-served k p))

      -- carries the trips at share 1,
      pub note-carries : Carries g 1 (note_loading g note)
      unfolding conserves
      note-carries =
          let c = loading-carries (note_network g note) note-sound (units g) (units-timed g) note-served in
          rw note-loading
          (record { conserving = c.conserving; permitted = λ k l p q barred. c.permitted k l p q (rw barred) })

      -- and has at most all trips on a link.
      pub note-total : (l : ℕ) → l < g.links → total g (note_loading g note) l ≤ total_trips g
      unfolding total_trips
      note-total l h = rw note-loading (loading-total (note_network g note) note-sound (units g) (units-timed g) note-served l h)

pub length-note-loading : (g : Network) (note : List ℕ) → length (note_loading g note) ≡ table_size g
unfolding note_loading sent_along
length-note-loading g note = length-rows g.commodities g.links _ (λ k h. length-tabulate g.links _)

-- The two things that taking back does.
pub data Back (g : Network) (x : Shared) (note : List ℕ) : Shared → Type 0 where
  lessens :
      note_step note ≢ 0 → note_step note < x.share → ((i : ℕ) → i < table_size g → note_step note * get_or (note_loading g note) i 0 ≤ get_or x.table i 0) →
      Back g x note
      (record {
        table = tabulate (table_size g) (λ i. get_or x.table i 0 - note_step note * get_or (note_loading g note) i 0);
        share = x.share - note_step note;
      })
  halves :
      note_step note ≡ 0 → x.share % 2 ≡ 0 → ((i : ℕ) → i < table_size g → get_or x.table i 0 % 2 ≡ 0) →
      Back g x note (record { table = tabulate (table_size g) (λ i. get_or x.table i 0 / 2); share = x.share / 2 })

-- What it does, where question 22 is answered yes, is one of them.
pub taking-back : (g : Network) (x : Shared) (note : List ℕ) → can_take_back g x note ≡ true → Back g x note (taken_back g x note)
unfolding can_take_back taken_back
taking-back g x note can = go (eqb (note_step note) 0) refl
  where
    go : (b : Bool) → eqb (note_step note) 0 ≡ b → Back g x note (taken_back g x note)
    go false e =
        let fits = rw (e, can_take_back) at can in
        rw (e, taken_back)
        (lessens (eqb-false (note_step note) 0 e)
        (ltb-true (note_step note) x.share (and_left (ltb (note_step note) x.share) _ fits))
        (λ i h. leb-true _ _ (all-elim (table_size g) _ (and_right (ltb (note_step note) x.share) _ fits) i h)))
    go true e =
        let evens = rw (e, can_take_back) at can in
        rw (e, taken_back)
        (halves (eqb-true (note_step note) 0 e)
        (eqb-true _ 0 (and_left (eqb (x.share % 2) 0) _ evens))
        (λ i h. eqb-true _ 0 (all-elim (table_size g) _ (and_right (eqb (x.share % 2) 0) _ evens) i h)))

-- What taking back leaves carries the trips at the share that it answers.
pub back-carries : (g : Network) → Sound g → (x : Shared) (note : List ℕ) → Carries g x.share x.table → note_leads g note ≡ true →
    can_take_back g x note ≡ true → Carries g (taken_back g x note).share (taken_back g x note).table
back-carries g sound x note c leads can = go (taken_back g x note) (taking-back g x note can)
  where
    go : (x' : Shared) → Back g x note x' → Carries g x'.share x'.table
    go x' (lessens some-step below part) =
        let e : x.share ≡ (x.share - note_step note) + note_step note = omega arith in
        carries-lessened g x.table (note_step note) (note_loading g note) _ part (λ i h. get_d_tabulate (table_size g) _ 0 i h) (x.share - note_step note) (rw e at c)
        (note-carries g note sound some-step leads)
    go x' (halves no_step evens each) =
        let e : x.share ≡ 2 * (x.share / 2) = omega arith in
        carries-halved g x.table _ each (λ i h. get_d_tabulate (table_size g) _ 0 i h) (x.share / 2) (rw e at c)

pub length_back : (g : Network) (x : Shared) (note : List ℕ) → length (taken_back g x note).table ≡ table_size g
unfolding taken_back
length_back g x note = on_test (eqb (note_step note) 0) (λ e. rw (e, taken_back) (length-tabulate (table_size g) _)) (λ e. rw (e, taken_back) (length-tabulate (table_size g) _))

-- A note that has the next links at the times of a list, as that of a pass which adds j·Y.
module _ (g : Network) (sound : Sound g) (few : g.links ≤ no_link) (t : List ℕ) (timed : Timed g t) (note : List ℕ)
    (marks : (k j : ℕ) → k < g.commodities → j < g.nodes → note_entry g note k j ≡ link_mark (get_or (next_links (routing g t k)) j none)) where
  formed : (k : ℕ) → k < g.commodities → WellFormed (routing g t k)
  formed = routing-well-formed g sound t timed

  -- A next link is one of its node's own outgoing links, and permitted.
  next-counted : (k j l : ℕ) → k < g.commodities → j < g.nodes → get_or (next_links (routing g t k)) j none ≡ some l → Counted (routing g (units g) k) j l
  next-counted k j l p h e =
      on-equal j (g.destination k)
      (λ f. none-some (ap (λ i. get_or (next_links (routing g t k)) i none) f ∙ next-destination (routing g t k) (formed k p)) e)
      (λ away.
      on-option (distance (routing g t k) j)
      (λ f. none-some (next-without-path (routing g t k) j h f) e)
      (λ y f.
      let n = next-link (routing g t k) (formed k p) j y h away f in
      let same : n.link ≡ l = some-injective n.link l (sym n.is-next ∙ e) in
      let c : Counted (routing g (units g) k) j n.link =
      record { below = n.through.below; leaves = n.through.leaves; usable = n.through.usable; away = away } in
      rw same at c))

  no-link-counts : (k j : ℕ) → counts (routing g (units g) k) j no_link ≡ false
  no-link-counts k j =
      on_test (counts (routing g (units g) k) j no_link)
      (λ e. absurd (omega (arith, (counted (routing g (units g) k) j no_link e).below)))
      (λ e. e)

  -- So the note's links are these next links,
  pub own-links : (k : ℕ) → k < g.commodities → noted_links g note k ≡ next_links (routing g t k)
  unfolding link_mark noted_links
  own-links k p =
      ext_get_or none (noted_links g note k) (next_links (routing g t k)) (long ∙ sym (length-next (routing g t k)))
      (λ j h. let b : j < g.nodes = omega (arith, long) in noted-at g note k j b ∙ at j b)
    where
      long : length (noted_links g note k) ≡ g.nodes
      long = length-tabulate g.nodes _

      at : (j : ℕ) → j < g.nodes → noted_at (routing g (units g) k) (note_entry g note k) j ≡ get_or (next_links (routing g t k)) j none
      at j b =
          on-option (get_or (next_links (routing g t k)) j none)
          (λ e. rw (marks k j p b, e, no-link-counts k j))
          (λ l e.
          noted-is (routing g (units g) k) (note_entry g note k) j l (marks k j p b ∙ ap link_mark e) (next-counted k j l p b e)
          ∙ sym e)

  -- its loading is the loading at these times,
  pub own-loading : note_loading g note ≡ loading g t
  unfolding note_loading loading loading_row
  own-loading =
      rows-cong g.commodities _ _ (λ k p. ap (λ next. sent_along g.nodes g.links g.head next (g.trips k)) (own-links k p))

  -- and it leads every node with trips to the destination.
  pub own-leads : AllServed g t → note_leads g note ≡ true
  unfolding note_leads leads_from
  own-leads served =
      or-true (eqb (note_step note) 0) _
      (all-intro g.commodities _ (λ k p. all-intro g.nodes _ (λ j h.
      on-equal (g.trips k j) 0
      (λ e. rw e)
      (λ some-trips.
      or-true (eqb (g.trips k j) 0) _
      (on-option (distance (routing g t k) j)
      (λ e. true-false (served k p j h some-trips) (ap is_some e))
      (λ y e.
      eq-eqb _ _
      (ap (λ next. walk_end g.head j (walk g.head next g.nodes j)) (own-links k p)
      ∙ path-end (routing g t k) j (walk_from (routing g t k) j) (walked (routing g t k) (formed k p) j y h e).is-path)))))))
    where
      or-true : (a b : Bool) → b ≡ true → (a || b) ≡ true
      or-true true b e = refl
      or-true false b e = e

-- The note of a pass: its size,
pub length-note : (g : Network) (x : Shared) → length (note_of g x) ≡ note_size g
unfolding note_of next_marks
length-note g x = ap suc (on_test (eqb (chosen_of g x) 0) (λ e. rw e (length-replicate (note_links g) no_link)) (λ e. rw e (links-long _)))
  where
    links-long : (t : List ℕ) → length (next_marks g t) ≡ note_links g
    links-long t = length-rows g.commodities g.nodes _ (λ k h. let q = routing g t k in length-map (next_links q) link_mark ∙ length-next q)

-- and its j.
pub note_step_lem : (g : Network) (x : Shared) → note_step (note_of g x) ≡ chosen_of g x
unfolding note_of
note_step_lem g x = refl

-- What taking back makes of a moved table and the note of its move: it is accepted, and restores what the pass judged.
pub record Restores (g : Network) (x moved : Shared) (note : List ℕ) : Type 0 where
  pub leads : note_leads g note ≡ true
  pub can : can_take_back g moved note ≡ true
  pub share-is : (taken_back g moved note).share ≡ x.share
  pub table_is : (taken_back g moved note).table ≡ tabulate (table_size g) (λ i. get_or x.table i 0)

-- A walk along next links meets no node twice, so it has at most n - 1 links, whatever its limit.
module _ (q : Routing) (w : WellFormed q) where
  pub next-walk-short : (most j : ℕ) → j < q.nodes → length (walk q.head (next_links q) most j) < q.nodes
  unfolding walk
  next-walk-short most j h =
      on-option (distance q j)
      (λ e. without most (next-without-path q j h e))
      (λ y e. let short = (walked q w j y h e).short in ⊎_elim
      (λ b. rw (walk_same q.head (next_links q) q.nodes most j short b) short)
      (λ b. omega (arith, walk-limited q.head (next_links q) most j))
      (order (length (walk_from q j)) most))
    where
      without : (most : ℕ) → get_or (next_links q) j none ≡ none → length (walk q.head (next_links q) most j) < q.nodes
      without zero e = omega arith
      without (suc most) e = rw (walk-stops q.head (next_links q) most j e) (omega arith)

  pub next-walk-simple : (j y : ℕ) → j < q.nodes → distance q j ≡ some y → Simple q (walk_from q j)
  next-walk-simple j y h e = (walked q w j y h e).simple
