-- Walks along a note, and the next links that they write.
use Rattle.std.specs.Prelude.{ℕ, suc, ◌+◌, ◌*◌, ◌≤◌, ◌<◌, ◌≡◌, Bool, not, ◌&&◌, ◌||◌, List, [], ◌∷◌, ◌⊎◌, ◌≢◌, length, get_or, set, replicate, ltb}
use Rattle.std.proofs.Common.{arith, sym, ◌∙◌, inl, inr, ⊎_elim, length-set, get_or-set_same, get_or-set_other, eqb-true, eq-eqb, ne_eqb, ltb-true, lt-ltb, le-ltb}
use Rattle.std.proofs.Math.Path.{refl, ap}
use Rattle.std.proofs.Math.Bool.{true, false}
use Rattle.std.proofs.Math.Option.{none, some, some-injective}
use Rattle.std.proofs.lemmas.List.{length-replicate, get_or-replicate}
use Rattle.std.proofs.Math.Dec.{eqb}
use Rattle.std.proofs.lemmas.Bool.{eqb-false}
use Rattle.theory.specs.Finite.{all}
use Rattle.theory.specs.Routes.{Routing, distance, is_some}
use Rattle.theory.specs.Study.{tail, head, closed, barred, node_of, of_lorries, barred_to, may_use, no_link}
use Rattle.theory.specs.Laws.Cases.{on-option, on-equal, on_test, either, true-false}
use Rattle.theory.specs.Laws.Distances.{distance-destination}
use Rattle.theory.specs.Laws.Finite.{and_left, and_right, both, all-suc, all-refuted, all-cong}
use Rattle.theory.specs.Laws.Noted.{Counted, along-formed, distance-short, noted-next, noted_back}
use Rattle.theory.specs.Laws.Parts.{part, part_at, row_within, row-most}
use Rattle.theory.specs.Laws.Paths.{WellFormed}
use Rattle.notes.specs.Followed.{toward, noted_from, by_note, Readable, Leading, Walking, Reached, SettledAt, Settled, is_settled, may_follow, Origins, PassedAt, Tracing, Traced, Kept, row_leads, Followed, note_follows, AllReadable, AllFollowed}

-- What the tests say.
pub settled-either : (row : List ℕ) (s j : ℕ) → is_settled row s j ≡ true → (j ≡ s) ⊎ (get_or row j 0 ≢ no_link)
settled-either row s j e =
    ⊎_elim (λ t. inl (eqb-true j s t)) (λ t. inr (λ f. true-false t (ap not (eq-eqb (get_or row j 0) no_link f)))) (either (eqb j s) (not (eqb (get_or row j 0) no_link)) e)

pub unsettled-both : (row : List ℕ) (s j : ℕ) → is_settled row s j ≡ false → (j ≢ s) × (get_or row j 0 ≡ no_link)
unsettled-both row s j e =
    on-equal j s
    (λ f. true-false (rw (eq-eqb j s f)) e)
    (λ away. (away, on-equal (get_or row j 0) no_link (λ f. f) (λ n. true-false (rw (ne_eqb j s away, ne_eqb (get_or row j 0) no_link n)) e)))

-- The test of link i, which is l.
module _ (links : List (List ℕ)) (commodity j : ℕ) {i l : ℕ} (same : i ≡ l) where
  pub past-links : length links ≤ i → false ≡ may_follow links commodity j l
  past-links h = rw (sym same, le-ltb i (length links) h)

  module _ (h : i < length links) where
    pub other-tail : {t : ℕ} → t ≡ tail links i → t ≢ j → false ≡ may_follow links commodity j l
    other-tail e away = rw (sym same, lt-ltb i (length links) h, ne_eqb (tail links i) j (λ f. away (e ∙ f)))

    pub own-link : {t : ℕ} → t ≡ tail links i → t ≡ j → may_follow links commodity j l ≡ may_use links commodity i
    own-link e f = rw (sym same, lt-ltb i (length links) h, eq-eqb (tail links i) j (sym e ∙ f))

-- A class of lorries is barred from a link that has the mark, and from no other.
module _ (links : List (List ℕ)) {lorries : Bool} (l : ℕ) (are : lorries ≡ true) where
  pub barred-off : eqb (barred links l) 1 ≡ true → barred_to links lorries l ≡ true
  unfolding barred_to
  barred-off mark = rw (are, mark)

  pub barred-on : eqb (barred links l) 1 ≡ false → barred_to links lorries l ≡ false
  unfolding barred_to
  barred-on unmarked = rw (are, unmarked)

-- A link that a commodity is not barred from may carry it where its head is open or the destination.
pub may-on :
    (links : List (List ℕ)) (commodity l : ℕ) → barred_to links (of_lorries commodity) l ≡ false →
    may_use links commodity l ≡ (not (eqb (closed links l) 1) || eqb (head links l) (node_of commodity))
unfolding may_use
may-on links commodity l on = rw on

-- One link's own row tells whether it may carry a commodity.
pub row-may-use : (links : List (List ℕ)) (commodity l : ℕ) → may_use (get_or links l [] ∷ []) commodity 0 ≡ may_use links commodity l
unfolding may_use barred_to
row-may-use links commodity l = refl

pub follow-counted : (n : ℕ) (links : List (List ℕ)) (commodity j l : ℕ) → j ≢ node_of commodity → may_follow links commodity j l ≡ true → Counted (toward n links commodity) j l
follow-counted n links commodity j l away e =
    let own = and_left (ltb l (length links) && eqb (tail links l) j) _ e in
    record {
      below = ltb-true l (length links) (and_left (ltb l (length links)) _ own);
      leaves = eqb-true (tail links l) j (and_right (ltb l (length links)) _ own);
      usable = and_right (ltb l (length links) && eqb (tail links l) j) _ e;
      away = away;
    }

pub counted-follow : (n : ℕ) (links : List (List ℕ)) (commodity j l : ℕ) → Counted (toward n links commodity) j l → may_follow links commodity j l ≡ true
counted-follow n links commodity j l c =
    both (ltb l (length links) && eqb (tail links l) j) _
    (both (ltb l (length links)) _ (lt-ltb l (length links) c.below) (eq-eqb (tail links l) j c.leaves))
    c.usable

module _ {n : ℕ} {links : List (List ℕ)} {commodity : ℕ} {note : List ℕ} {first : ℕ} (r : Readable n links commodity note first) where
  abbrev s : ℕ
  s = node_of commodity

  abbrev q : Routing
  q = by_note n links commodity note first

  abbrev noted : ℕ → ℕ
  noted = noted_from note first

  abbrev formed : WellFormed q
  formed = along-formed (toward n links commodity) noted r.tail-node r.head-node r.destination-node

  -- The note leads from a node: what it has there counts, and the note leads from the next node, by one link fewer.
  pub lead-next : {j : ℕ} → j ≢ s → (w : Leading n links commodity note first j)
      → Counted (toward n links commodity) j (noted j) × (rest : ℕ) × (distance q (head links (noted j)) ≡ some rest) × (w.links-ahead ≡ suc rest)
  lead-next {j} away w = noted-next (toward n links commodity) noted r.tail-node r.head-node r.destination-node j w.links-ahead w.node away w.ahead

  -- A walk begins where it begins,
  pub walking-none : {from : ℕ} → from < n → Walking n links commodity note first from from 0
  walking-none h = record { origin = h; node = h; few = omega arith; forth = λ z e. (z, e, omega arith); back = λ y e. ap is_some e }

  module _ {from j steps : ℕ} (w : Walking n links commodity note first from j steps) where
    leads-not : ((y : ℕ) → distance q j ≡ some y → ⊥) → is_some (distance q from) ≡ false
    leads-not stuck =
        on-option (distance q from)
        (λ e. ap is_some e)
        (λ z e. let (y, f, g) = w.forth z e in absurd (stuck y f))

    -- and goes on by a link that counts;
    pub walking_on : {l i h : ℕ} → l ≡ noted j → j ≢ s → may_follow links commodity j l ≡ true → steps ≢ n → i ≡ l → h ≡ head links i
        → Walking n links commodity note first from h (steps + 1)
    walking_on {l} is away may more same leads-to =
        rw (leads-to, same, is)
        (record {
          origin = w.origin;
          node = r.head-node (noted j) c.below;
          few = omega (arith, w.few, more);
          forth = λ z e.
              let (y, f, g) = w.forth z e in
              let (d, rest, at, less) = lead-next away (record { node = w.node; links-ahead = y; ahead = f }) in
              (rest, at, omega arith);
          back = λ y e.
              let (x, f) = noted_back (toward n links commodity) noted r.tail-node r.head-node r.destination-node j y c e in w.back x f;
        })
      where
        c : Counted (toward n links commodity) j (noted j)
        c = follow-counted n links commodity j (noted j) away (rw is at may)

    -- where what the note has does not count, or after n steps, it does not lead to the destination;
    pub walking-stuck : {l : ℕ} → l ≡ noted j → j ≢ s → may_follow links commodity j l ≡ false → is_some (distance q from) ≡ false
    walking-stuck {l} is away may =
        leads-not (λ y e.
        let (c, rest, at, less) = lead-next away (record { node = w.node; links-ahead = y; ahead = e }) in
        true-false (counted-follow n links commodity j (noted j) c) (rw is at may))

    pub walking-long : steps ≡ n → is_some (distance q from) ≡ false
    walking-long e =
        on-option (distance q from)
        (λ f. ap is_some f)
        (λ z f.
        let (y, g, sum) = w.forth z f in
        absurd (omega (arith, distance-short (toward n links commodity) noted r.tail-node r.head-node r.destination-node from z w.origin f)))

  -- No link is written at first.
  pub settled-none : Settled n links commodity note first s (replicate 128 no_link)
  settled-none =
      record {
        size = length-replicate 128 no_link;
        settled = λ j h some-link. absurd (some-link (get_or-replicate {A = ℕ} 128 j no_link 0 (omega (arith, r.few-nodes))));
      }

  pub origins-none : {origin : List ℕ} → length origin ≡ 128 → Origins n 0 (replicate 128 no_link) origin
  origins-none e = record { size = e; below = λ j h some-link. absurd (some-link (get_or-replicate {A = ℕ} 128 j no_link 0 (omega (arith, r.few-nodes)))) }

  pub origins-skip : {j : ℕ} {row origin : List ℕ} → Origins n j row origin → Origins n (j + 1) row origin
  origins-skip w = record { size = w.size; below = λ i h some-link. omega (arith, w.below i h some-link) }

  -- A way begins where it begins,
  pub tracing-none : {row origin : List ℕ} {from : ℕ} → Settled n links commodity note first s row → Origins n from row origin → from < n
      → Tracing n links commodity note first from row from 0 row origin
  tracing-none {from} t o h =
      record {
        walking = walking-none h;
        size = t.size;
        origins = record { size = o.size; below = λ j b some-link. omega (arith, o.below j b some-link) };
        earlier = λ j b some-link off.
            let here = t.settled j b some-link in
            record {
              noted = here.noted;
              counted = here.counted;
              leading = here.leading;
              onward = ⊎_elim inl (λ e. ⊎_elim inl (λ f. inr (inr f)) e) here.onward;
            };
        own = λ j b some-link same. absurd (omega (arith, o.below j b some-link));
        reached = inr (inl refl);
        kept = λ j some-link. some-link;
      }

  -- goes on by the note's link,
  module _ {from : ℕ} {row₀ row origin : List ℕ} {at steps : ℕ} (z : Tracing n links commodity note first from row₀ at steps row origin)
      (unsettled : is_settled row s at ≡ false) {l : ℕ} (is : l ≡ noted at) (may : may_follow links commodity at l ≡ true) where
    abbrev off : at ≢ s
    off = (unsettled-both row s at unsettled).0

    link-counted : Counted (toward n links commodity) at (noted at)
    link-counted = follow-counted n links commodity at (noted at) off (rw is at may)

    pub link-below : l < length links
    link-below = rw is link-counted.below

    is-link : l ≢ no_link
    is-link e = omega (arith, link-below, r.few-links)

    pub within : at < 128
    within = omega (arith, z.walking.node, r.few-nodes)

    now-there : get_or (set row at l) at 0 ≡ l
    now-there = get_or-set_same row at l 0 (omega (arith, z.size, within))

    now-origin : get_or (set origin at from) at 0 ≡ from
    now-origin = get_or-set_same origin at from 0 (omega (arith, z.origins.size, within))

    was : {j : ℕ} → j ≢ at → get_or (set row at l) j 0 ≢ no_link → get_or row j 0 ≢ no_link
    was {j} away some-link e = some-link (get_or-set_other row at j l 0 away ∙ e)

    written : (j : ℕ) → get_or row j 0 ≢ no_link → get_or (set row at l) j 0 ≢ no_link
    written j some-link e =
        on-equal j at
        (λ f. is-link (sym now-there ∙ ap (λ i. get_or (set row at l) i 0) (sym f) ∙ e))
        (λ away. some-link (sym (get_or-set_other row at j l 0 away) ∙ e))

    module _ {i h : ℕ} (same : i ≡ l) (leads-to : h ≡ head links i) (more : steps ≢ n) where
      head-is : h ≡ head links (noted at)
      head-is = leads-to ∙ ap (head links) (same ∙ is)

      reached-on : {j : ℕ} → Reached s at row j → Reached s h (set row at l) j
      reached-on {j} =
          ⊎_elim inl
          (λ e. inr (inr (⊎_elim (λ f g. is-link (sym now-there ∙ ap (λ i. get_or (set row at l) i 0) (sym f) ∙ g)) (λ some-link. written j some-link) e)))

      -- The note leads from where it stood exactly where it does from the next node, by one link fewer.
      ahead-on : (y : ℕ) → distance q at ≡ some y → (x : ℕ) × (distance q h ≡ some x) × (x < y)
      ahead-on y e =
          let (c, rest, ahead, less) = lead-next off (record { node = z.walking.node; links-ahead = y; ahead = e }) in
          (rest, ap (distance q) head-is ∙ ahead, omega arith)

      back_on : (x : ℕ) → distance q h ≡ some x → (y : ℕ) × (distance q at ≡ some y)
      back_on x e =
          noted_back (toward n links commodity) noted r.tail-node r.head-node r.destination-node at x link-counted (ap (distance q) (sym head-is) ∙ e)

      here : PassedAt n links commodity note first h (set row at l) at
      here = record { noted = now-there ∙ is; counted = link-counted; onward = inr (inl (sym head-is)); ahead = ahead-on; back = back_on }

      there : (j : ℕ) → j ≢ at → PassedAt n links commodity note first at row j → PassedAt n links commodity note first h (set row at l) j
      there j away before =
          record {
            noted = get_or-set_other row at j l 0 away ∙ before.noted;
            counted = before.counted;
            onward = reached-on before.onward;
            ahead = λ y e.
                let (x, f, less) = before.ahead y e in
                let (x', f', less') = ahead-on x f in
                (x', f', omega arith);
            back = λ x e. let (y, f) = back_on x e in before.back y f;
          }

      settled-there : (j : ℕ) → j ≢ at → SettledAt n links commodity note first at row j → SettledAt n links commodity note first h (set row at l) j
      settled-there j away before =
          record {
            noted = get_or-set_other row at j l 0 away ∙ before.noted;
            counted = before.counted;
            leading = before.leading;
            onward = reached-on before.onward;
          }

      pub tracing-on : Tracing n links commodity note first from row₀ h (steps + 1) (set row at l) (set origin at from)
      tracing-on =
          record {
            walking = walking_on z.walking is off may more same leads-to;
            size = length-set row at l ∙ z.size;
            origins =
                record {
                  size = length-set origin at from ∙ z.origins.size;
                  below = λ j b some-link.
                      on-equal j at
                      (λ e. omega (arith, ap (λ i. get_or (set origin at from) i 0) e, now-origin))
                      (λ away. omega (arith, get_or-set_other origin at j from 0 away, z.origins.below j b (was away some-link)));
                };
            earlier = λ j b some-link other.
                on-equal j at
                (λ e. absurd (other (ap (λ i. get_or (set origin at from) i 0) e ∙ now-origin)))
                (λ away. settled-there j away (z.earlier j b (was away some-link) (λ e. other (get_or-set_other origin at j from 0 away ∙ e))));
            own = λ j b some-link mine.
                on-equal j at
                (λ e. rw e here)
                (λ away. there j away (z.own j b (was away some-link) (sym (get_or-set_other origin at j from 0 away) ∙ mine)));
            reached = reached-on z.reached;
            kept = λ j some-link. written j (z.kept j some-link);
          }

  -- and ends at a settled node.
  module _ {from : ℕ} {row₀ row origin : List ℕ} {at steps : ℕ} (z : Tracing n links commodity note first from row₀ at steps row origin)
      (end : is_settled row s at ≡ true) where
    pub node-within : at < 128
    node-within = omega (arith, z.walking.node, r.few-nodes)

    reached-end : (j : ℕ) → Reached s at row j → Reached s s row j
    reached-end j =
        ⊎_elim inl
        (λ e. ⊎_elim (λ f. ⊎_elim (λ g. inl (f ∙ g)) (λ g. inr (inr (λ h. g (ap (λ i. get_or row i 0) (sym f) ∙ h)))) (settled-either row s at end)) (λ f. inr (inr f)) e)

    -- Where the note leads from there it leads from all that was passed.
    traced : (x : ℕ) → distance q at ≡ some x → Traced n links commodity note first from row₀ row origin
    traced x e =
        record {
          settled =
              record {
                size = z.size;
                settled = λ j h some-link. on-equal (get_or origin j 0) from (mine j h some-link) (earlier j h some-link);
              };
          origins = z.origins;
          reached = reached-end from z.reached;
          kept = z.kept;
        }
      where
        mine : (j : ℕ) → j < n → get_or row j 0 ≢ no_link → get_or origin j 0 ≡ from → SettledAt n links commodity note first s row j
        mine j h some-link same =
            let here = z.own j h some-link same in
            let (y, f) = here.back x e in
            record {
              noted = here.noted;
              counted = here.counted;
              leading = record { node = h; links-ahead = y; ahead = f };
              onward = reached-end (head links (noted j)) here.onward;
            }

        earlier : (j : ℕ) → j < n → get_or row j 0 ≢ no_link → get_or origin j 0 ≢ from → SettledAt n links commodity note first s row j
        earlier j h some-link other =
            let here = z.earlier j h some-link other in
            record { noted = here.noted; counted = here.counted; leading = here.leading; onward = reached-end (head links (noted j)) here.onward }

    -- It does from the destination,
    module _ (home : at ≡ s) where
      at_home : distance q at ≡ some 0
      at_home = ap (distance q) home ∙ distance-destination q formed

      pub home-leads : is_some (distance q from) ≡ true
      home-leads = z.walking.back 0 at_home

      pub home-traced : Traced n links commodity note first from row₀ row origin
      home-traced = traced 0 at_home

    module _ (off : at ≢ s) where
      some-there : get_or row at 0 ≢ no_link
      some-there = ⊎_elim (λ e. absurd (off e)) (λ f. f) (settled-either row s at end)

      -- and from a node of an earlier way,
      module _ (other : get_or origin at 0 ≢ from) where
        lead : Leading n links commodity note first at
        lead = (z.earlier at z.walking.node some-there other).leading

        pub earlier-leads : is_some (distance q from) ≡ true
        earlier-leads = z.walking.back lead.links-ahead lead.ahead

        pub earlier-traced : Traced n links commodity note first from row₀ row origin
        earlier-traced = traced lead.links-ahead lead.ahead

      -- but not from one of its own.
      pub round-leads : get_or origin at 0 ≡ from → is_some (distance q from) ≡ false
      round-leads same =
          leads-not z.walking (λ y e.
          let (x, f, less) = (z.own at z.walking.node some-there same).ahead y e in
          let again : x ≡ y = some-injective x y (sym f ∙ e) in
          omega arith)

  -- The nodes of a destination one after the other: none at first,
  module _ (trips : ℕ → ℕ) where
    pub row-none : row_leads n links commodity note first trips 0 ≡ true
    unfolding row_leads all
    row-none = refl

    pub followed-none : Followed n links commodity note first trips 0 (replicate 128 no_link)
    followed-none = record { settled = settled-none; reached = λ j h. absurd (omega arith) }

    unfoldable test : ℕ → Bool
    test j = eqb (trips j) 0 || is_some (distance q j)

    row_more : (j : ℕ) → row_leads n links commodity note first trips j ≡ true → test j ≡ true → row_leads n links commodity note first trips (j + 1) ≡ true
    unfolding row_leads test
    row_more j e f = rw (all-suc j test, e, f)

    -- then one more without trips,
    module _ (j : ℕ) (e : row_leads n links commodity note first trips j ≡ true) where
      pub row-skip : trips j ≡ 0 → row_leads n links commodity note first trips (j + 1) ≡ true
      unfolding test
      row-skip no-trips = row_more j e (rw (eq-eqb (trips j) 0 no-trips))

      -- or from which the note leads,
      pub row-lead : is_some (distance q j) ≡ true → row_leads n links commodity note first trips (j + 1) ≡ true
      unfolding test
      row-lead some-distance = row_more j e (or-true (eqb (trips j) 0) (is_some (distance q j)) some-distance)
        where
          or-true : (a b : Bool) → b ≡ true → (a || b) ≡ true
          or-true true b f = refl
          or-true false b f = f

    pub followed-skip : {j : ℕ} {row : List ℕ} → trips j ≡ 0 → Followed n links commodity note first trips j row → Followed n links commodity note first trips (j + 1) row
    followed-skip {j} no-trips w =
        record {
          settled = w.settled;
          reached = λ i h some-trips. on-equal i j (λ e. absurd (some-trips (ap trips e ∙ no-trips))) (λ away. w.reached i (omega (arith, away)) some-trips);
        }

    pub followed-lead : {j : ℕ} {row row' origin : List ℕ} → Followed n links commodity note first trips j row → Traced n links commodity note first j row row' origin
        → Followed n links commodity note first trips (j + 1) row'
    followed-lead {j} w t =
        record {
          settled = t.settled;
          reached = λ i h some-trips.
              on-equal i j (λ e. rw e t.reached) (λ away.
              ⊎_elim inl (λ e. inr (⊎_elim inl (λ f. inr (t.kept i f)) e)) (w.reached i (omega (arith, away)) some-trips));
        }

    -- or one from which it does not.
    pub row-refused : {j : ℕ} → j < n → trips j ≢ 0 → is_some (distance q j) ≡ false → row_leads n links commodity note first trips n ≡ false
    unfolding row_leads
    row-refused {j} h some-trips e =
        all-refuted n (λ j. eqb (trips j) 0 || is_some (distance q j)) j h (rw (ne_eqb (trips j) 0 some-trips, e))

-- The commodities one after the other: none at first,
module _ {n : ℕ} {links : List (List ℕ)} {commodities trips note : List ℕ} (all-readable : AllReadable n links commodities trips note) where
  pub note-none : note_follows n links commodities trips note 0 ≡ true
  unfolding note_follows all
  note-none = refl

  pub rows_none : {rows : List (List ℕ)} → length commodities ≤ length rows → AllFollowed n links commodities trips note 0 rows
  rows_none long = record { size = long; row = λ q h. absurd (omega arith) }

  -- then one more, whose links and trips are parts of all,
  module _ {k : ℕ} (h : k < length commodities) where
    abbrev c : ℕ
    c = get_or commodities k 0

    pub trips-within : (k * n + n ≤ length trips) × (k * n + n ≤ 8192)
    trips-within = (
      omega (arith, row_within n h, all-readable.has-trips),
      row-most 64 128 h all-readable.few-commodities all-readable.few-nodes,
    )

    pub row-readable : Readable n links c note (1 + k * n)
    row-readable =
        record {
          few-nodes = all-readable.few-nodes;
          few-links = all-readable.few-links;
          tail-node = all-readable.tail-node;
          head-node = all-readable.head-node;
          destination-node = all-readable.destination-node k h;
          has-links = omega (arith, row_within n h, all-readable.has-links);
          few-numbers = omega (arith, trips-within, below);
        }
      where
        below : 1 ≤ n
        below = omega (arith, all-readable.destination-node k h)

    abbrev own : ℕ → ℕ
    own j = get_or (part trips (k * n) n) j 0

    abbrev whole : ℕ → ℕ
    whole j = get_or trips (k * n + j) 0

    row_is : row_leads n links c note (1 + k * n) own n ≡ row_leads n links c note (1 + k * n) whole n
    unfolding row_leads
    row_is =
        all-cong n _ _ (λ j b. ap (λ x. eqb x 0 || is_some (distance (by_note n links c note (1 + k * n)) j)) (part_at trips (k * n) n j b))

    pub note-more : note_follows n links commodities trips note k ≡ true → row_leads n links c note (1 + k * n) own n ≡ true
        → note_follows n links commodities trips note (k + 1) ≡ true
    unfolding note_follows
    note-more e f = all-suc k _ ∙ both _ _ e (sym row_is ∙ f)

    pub rows_more : {rows : List (List ℕ)} {row : List ℕ} → AllFollowed n links commodities trips note k rows → Followed n links c note (1 + k * n) own n row
        → AllFollowed n links commodities trips note (k + 1) (set rows k row)
    rows_more {rows} {row} w f =
        record {
          size = omega (arith, length-set rows k row, w.size);
          row = λ q b.
              on-equal q k
              (λ e. rw (e, get_or-set_same rows k row [] (omega (arith, w.size))) here)
              (λ away. rw (get_or-set_other rows k q row [] away) (w.row q (omega (arith, away))));
        }
      where
        here : Followed n links c note (1 + k * n) whole n row
        here =
            record { settled = f.settled; reached = λ j b some-trips. f.reached j b (λ e. some-trips (sym (part_at trips (k * n) n j b) ∙ e)) }

    -- or one to which the note does not lead.
    pub note-refused : row_leads n links c note (1 + k * n) own n ≡ false → note_follows n links commodities trips note (length commodities) ≡ false
    unfolding note_follows
    note-refused e = all-refuted (length commodities) _ k h (sym row_is ∙ e)
