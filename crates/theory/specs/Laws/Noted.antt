-- (A.6) The links of a note for one destination, as a routing of their own in which every link takes time 1: its next links are the note's on
-- every walk that ends at the destination.
use Prim.Native.Nat.{ℕ, zero, suc, ◌+◌, ◌*◌, ◌≤◌, ◌<◌}
use Rattle.std.proofs.Common.{arith, ◌∙◌}
use Rattle.std.specs.Prelude.{◌≡◌, Bool, true, false, not, ◌&&◌, cond, ◌≢◌, length, replicate, eqb, ltb}
use Rattle.std.proofs.Math.Path.{refl, sym, ap}
use mathlib.Core.List.{List, [], ◌∷◌}
use Rattle.std.proofs.Math.Option.{Option, none, some, some-injective}
use Rattle.std.proofs.Math.ListN.{get_or}
use Rattle.std.proofs.lemmas.List.{get_or-replicate}
use borrow.Author.Tests.{eqb-true, eqb-false, eq-eqb, ne_eqb, ltb-true, lt-ltb, not-true}
use Rattle.theory.specs.Finite.{sum, tabulate}
use Rattle.theory.specs.Routes.{Routing, IsPath, path_time, distance, is_some, next_links, walk, occurrences, sent_along, loading_row}
use Rattle.theory.specs.Notes.{walk_end}
use Rattle.theory.specs.Laws.Cases.{on-option, on-equal, on_test, none-some, true-false}
use Rattle.theory.specs.Laws.Finite.{and_left, and_right, both, sum-cong, tabulate-cong, get_d_tabulate}
use Rattle.theory.specs.Laws.Paths.{WellFormed}
use Rattle.theory.specs.Laws.Distances.{path-distance, distance-over-link}
use Rattle.theory.specs.Laws.Next.{NextLink, next-link, next-destination}
use Rattle.theory.specs.Laws.Walks.{walk_from, walked, walk-stops, walk-goes}
use Rattle.theory.specs.Laws.Routings.{Served}

-- A path ends at the destination.
pub path-end : (q : Routing) (j : ℕ) (path : List ℕ) → IsPath q j path → walk_end q.head j path ≡ q.destination
path-end q j [] p = p
path-end q j (l ∷ path) p = path-end q (q.head l) path p.3

-- A walk has no more links than its limit.
pub walk-limited : (head : ℕ → ℕ) (next : List (Option ℕ)) (most j : ℕ) → length (walk head next most j) ≤ most
unfolding walk
walk-limited head next zero j = omega arith
walk-limited head next (suc most) j =
    on-option (get_or next j none)
    (λ e. rw (walk-stops head next most j e) (omega arith))
    (λ l e. rw (walk-goes head next most j l e) (omega (arith, walk-limited head next most (head l))))

-- What a note has at a node counts as the node's next link where it is one of its own outgoing links, and permitted, and the node is not the
-- destination.
abbrev pub counts : Routing → ℕ → ℕ → Bool
counts q j l = not (eqb j q.destination) && (ltb l q.links && eqb (q.tail l) j && q.usable l)

abbrev pub noted_at : Routing → (ℕ → ℕ) → ℕ → Option ℕ
noted_at q noted j = cond (counts q j (noted j)) (some (noted j)) none

-- The routing along those links.
abbrev pub along_note : Routing → (ℕ → ℕ) → Routing
along_note q noted =
    record {
      nodes = q.nodes;
      links = q.links;
      tail = q.tail;
      head = q.head;
      usable = λ l. q.usable l && (not (eqb (q.tail l) q.destination) && eqb (noted (q.tail l)) l);
      destination = q.destination;
      time = λ l. get_or (replicate q.links 1) l 0;
    }

-- What it says of a link that it counts.
pub record Counted (q : Routing) (j l : ℕ) : Type 0 where
  pub below : l < q.links
  pub leaves : q.tail l ≡ j
  pub usable : q.usable l ≡ true
  pub away : j ≢ q.destination

pub counted : (q : Routing) (j l : ℕ) → counts q j l ≡ true → Counted q j l
counted q j l e =
    let rest = and_right (not (eqb j q.destination)) _ e in
    let own = and_left (ltb l q.links && eqb (q.tail l) j) _ rest in
    record {
      below = ltb-true l q.links (and_left (ltb l q.links) _ own);
      leaves = eqb-true (q.tail l) j (and_right (ltb l q.links) _ own);
      usable = and_right (ltb l q.links && eqb (q.tail l) j) _ rest;
      away = eqb-false j q.destination (not-true (eqb j q.destination) (and_left (not (eqb j q.destination)) _ e));
    }

pub counting : (q : Routing) (j l : ℕ) → Counted q j l → counts q j l ≡ true
counting q j l c =
    both (not (eqb j q.destination)) _ (rw (ne_eqb j q.destination c.away))
    (both (ltb l q.links && eqb (q.tail l) j) _ (both (ltb l q.links) _ (lt-ltb l q.links c.below) (eq-eqb (q.tail l) j c.leaves)) c.usable)

module _ (q : Routing) (noted : ℕ → ℕ) where
  abbrev along : Routing
  along = along_note q noted

  noted-some : (j l : ℕ) → noted_at q noted j ≡ some l → (noted j ≡ l) × Counted q j l
  noted-some j l e =
      on_test (counts q j (noted j))
      (λ t. let same : noted j ≡ l = some-injective (noted j) l (rw t at e) in (same, rw same at (counted q j (noted j) t)))
      (λ t. none-some {o = noted_at q noted j} (rw t) e)

  pub noted-is : (j l : ℕ) → noted j ≡ l → Counted q j l → noted_at q noted j ≡ some l
  noted-is j l e c = rw (e, counting q j l c)

  -- A link is usable along the note exactly where it is the next link of its tail by the note.
  pub usable-noted : (l : ℕ) → l < q.links → along.usable l ≡ true → noted_at q noted (q.tail l) ≡ some l
  usable-noted l h u =
      let rest = and_right (q.usable l) _ u in
      let off = and_left (not (eqb (q.tail l) q.destination)) _ rest in
      noted-is (q.tail l) l (eqb-true (noted (q.tail l)) l (and_right (not (eqb (q.tail l) q.destination)) _ rest))
      (record {
        below = h;
        leaves = refl;
        usable = and_left (q.usable l) _ u;
        away = eqb-false (q.tail l) q.destination (not-true (eqb (q.tail l) q.destination) off);
      })

  pub noted-usable : (j l : ℕ) → noted j ≡ l → Counted q j l → along.usable l ≡ true
  noted-usable j l e c =
      both (q.usable l) _ c.usable
      (both (not (eqb (q.tail l) q.destination)) _ (rw (c.leaves, ne_eqb j q.destination c.away)) (rw c.leaves (eq-eqb (noted j) l e)))

  unit-time : (l : ℕ) → l < q.links → along.time l ≡ 1
  unit-time l h = get_or-replicate q.links l 1 0 h

  module _ (tail-node : (l : ℕ) → l < q.links → q.tail l < q.nodes) (head-node : (l : ℕ) → l < q.links → q.head l < q.nodes)
      (destination-node : q.destination < q.nodes) where
    pub along-formed : WellFormed along
    along-formed =
        record {
          tail-node = tail-node;
          head-node = head-node;
          destination-node = destination-node;
          some-time = λ l h. omega (arith, unit-time l h);
        }

    -- A node with a distance has as many links ahead of it, fewer than there are nodes;
    pub distance-short : (j y : ℕ) → j < q.nodes → distance along j ≡ some y → y < q.nodes
    distance-short j y h e =
        let w = walked along along-formed j y h e in
        omega (arith, w.time, w.short, unit-path j (walk_from along j) w.is-path)
      where
        unit-path : (j : ℕ) (path : List ℕ) → IsPath along j path → path_time along path ≡ length path
        unit-path j [] p = refl
        unit-path j (l ∷ path) p = omega (arith, unit-time l p.0, unit-path (q.head l) path p.3)

    -- but for the destination its own, by the note, is the first of them,
    pub noted-next : (j y : ℕ) → j < q.nodes → j ≢ q.destination → distance along j ≡ some y
        → Counted q j (noted j) × (rest : ℕ) × (distance along (q.head (noted j)) ≡ some rest) × (y ≡ suc rest)
    noted-next j y h away e =
        let n = next-link along along-formed j y h away e in
        let t = n.through in
        let (same, c) = noted-some j n.link (ap (noted_at q noted) (sym t.leaves) ∙ usable-noted n.link t.below t.usable) in
        (rw same c, t.rest, rw same t.at_head, omega (arith, t.adds-up, unit-time n.link t.below))

    -- and a node whose own link, by the note, leads to one with a distance has one too.
    pub noted_back : (j x : ℕ) → Counted q j (noted j) → distance along (q.head (noted j)) ≡ some x → (y : ℕ) × (distance along j ≡ some y)
    noted_back j x c e =
        let (y, f, m) = distance-over-link along along-formed (noted j) x c.below (noted-usable j (noted j) refl c) e in
        (y, ap (distance along) (sym c.leaves) ∙ f)

    -- Next links that are the note's.
    module _ (next : List (Option ℕ)) (is-noted : (j : ℕ) → j < q.nodes → get_or next j none ≡ noted_at q noted j) where
      -- A walk from a node with a distance is that along the next links of the routing,
      pub noted-walk : (most j y : ℕ) → j < q.nodes → distance along j ≡ some y → walk q.head next most j ≡ walk q.head (next_links along) most j
      unfolding walk
      noted-walk zero j y h e = refl
      noted-walk (suc most) j y h e = on-equal j q.destination here (λ away. elsewhere (next-link along along-formed j y h away e) (noted-walk most))
        where
          here : j ≡ q.destination → walk q.head next (suc most) j ≡ walk q.head (next_links along) (suc most) j
          here f =
              let stop : noted_at q noted j ≡ none = rw (f, eq-eqb q.destination q.destination refl) in
              walk-stops q.head next most j (is-noted j h ∙ stop)
              ∙ sym (walk-stops q.head (next_links along) most j (ap (λ i. get_or (next_links along) i none) f ∙ next-destination along along-formed))

          elsewhere : NextLink along j y
              → ((i x : ℕ) → i < q.nodes → distance along i ≡ some x → walk q.head next most i ≡ walk q.head (next_links along) most i)
              → walk q.head next (suc most) j ≡ walk q.head (next_links along) (suc most) j
          elsewhere n beyond =
              let l = n.link in
              let t = n.through in
              let same : noted_at q noted j ≡ some l = ap (noted_at q noted) (sym t.leaves) ∙ usable-noted l t.below t.usable in
              walk-goes q.head next most j l (is-noted j h ∙ same)
              ∙ ap (λ rest. l ∷ rest) (beyond (q.head l) t.rest (head-node l t.below) t.at_head)
              ∙ sym (walk-goes q.head (next_links along) most j l n.is-next)

      -- and ends at the destination;
      pub distance-leads : (j y : ℕ) → j < q.nodes → distance along j ≡ some y → walk_end q.head j (walk q.head next q.nodes j) ≡ q.destination
      distance-leads j y h e =
          ap (walk_end q.head j) (noted-walk q.nodes j y h e) ∙ path-end along j (walk_from along j) (walked along along-formed j y h e).is-path

      -- a walk that ends there is a path, so its node has a distance.
      leading-path : (most j : ℕ) → j < q.nodes → walk_end q.head j (walk q.head next most j) ≡ q.destination → IsPath along j (walk q.head next most j)
      unfolding walk
      leading-path zero j h e = e
      leading-path (suc most) j h e =
          on-option (get_or next j none)
          (λ f. rw (walk-stops q.head next most j f) (rw (walk-stops q.head next most j f) at e))
          (λ l f.
          let (same, c) = noted-some j l (sym (is-noted j h) ∙ f) in
          let beyond = rw (walk-goes q.head next most j l f) at e in
          rw (walk-goes q.head next most j l f)
          (c.below, noted-usable j l same c, c.leaves, leading-path most (q.head l) (head-node l c.below) beyond))

      pub leads-distance : (j : ℕ) → j < q.nodes → walk_end q.head j (walk q.head next q.nodes j) ≡ q.destination → is_some (distance along j) ≡ true
      leads-distance j h e =
          let (x, f, m) = path-distance along along-formed j (walk q.head next q.nodes j) (leading-path q.nodes j h e) in
          ap is_some f

      -- Where every node with trips has one, what is sent along the note is the loading of the routing.
      pub sent-noted : (trips : ℕ → ℕ) → Served along trips → sent_along q.nodes q.links q.head next trips ≡ loading_row along trips
      unfolding sent_along loading_row
      sent-noted trips served =
          tabulate-cong q.links _ _ (λ l b. sum-cong q.nodes _ _ (λ j h.
          on-equal (trips j) 0
          (λ e. rw e (omega arith))
          (λ some-trips.
          on-option (distance along j)
          (λ e. true-false (served j h some-trips) (ap is_some e))
          (λ y e.
          ap (λ path. trips j * occurrences l path)
          (get_d_tabulate q.nodes (walk q.head next q.nodes) [] j h
          ∙ noted-walk q.nodes j y h e
          ∙ sym (get_d_tabulate q.nodes (walk_from along) [] j h))))))
