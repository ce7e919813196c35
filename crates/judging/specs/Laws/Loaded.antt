-- Where the next links are the definition's, what is sent along them is the loading.
use Rattle.std.specs.Prelude.{ℕ, zero, suc, ◌*◌, ◌≤◌, ◌<◌, ◌≡◌, refl, List, [], map, length, get_or}
use Rattle.std.proofs.Common.{arith, ◌∙◌}
use Rattle.std.proofs.Math.Path.{sym, ap}
use Rattle.std.proofs.Math.Logic.{⊎_elim}
use Rattle.std.proofs.Math.Option.{Option, none, some}
use Rattle.std.proofs.Math.ListN.{length-map, get_or-map, get_or-eq_default}
use borrow.Author.Tests.{ne_eqb}
use Rattle.theory.specs.Routes.{Routing, distances, distance, fits_next, next_links, walk, occurrences}
use Rattle.theory.specs.Laws.Cases.{on-option}
use Rattle.theory.specs.Laws.Finite.{order, sum-cong, first_some}
use Rattle.theory.specs.Laws.Next.{length-next, next-first, next-without-path}
use Rattle.theory.specs.Laws.Walks.{walk_from, walked, walk-stops}
use Rattle.theory.specs.Laws.Loading.{loaded as flow}
use Rattle.theory.specs.Study.{head, no_link, link_mark}
use Rattle.search.specs.Search.{routing_from}
use Rattle.search.specs.Given.{Searchable}
use Rattle.loading.specs.Along.{link_of, walk_along, flow_along, Followable}
use Rattle.theory.specs.Laws.Padded.{get_d_default, length-padded}
use Rattle.search.specs.Laws.Found.{well-formed}
use Rattle.routes.specs.Table.{link_marks}
use Rattle.routes.specs.Laws.Next.{link-marks-at}

-- Walks go by what the next links are, place by place.
walk-cong : (head : ℕ → ℕ) (a b : List (Option ℕ)) → ((j : ℕ) → get_or a j none ≡ get_or b j none) → (most j : ℕ) → walk head a most j ≡ walk head b most j
unfolding walk
walk-cong head a b same zero j = refl
walk-cong head a b same (suc most) j =
    on-option (get_or b j none)
    (λ e. rw (walk, same j, e))
    (λ l e. rw (walk, same j, e, walk-cong head a b same most (head l)))

-- A walk from a node without a next link has no link, under any limit.
walk_none : (head : ℕ → ℕ) (next : List (Option ℕ)) (most j : ℕ) → get_or next j none ≡ none → walk head next most j ≡ []
unfolding walk
walk_none head next zero j e = refl
walk_none head next (suc most) j e = walk-stops head next most j e

-- A mark of a next link stands for the link.
module _ (q : Routing) (few-nodes : q.nodes ≤ 128) (few-links : q.links ≤ 512) where
  pub length-marks : length (link_marks q) ≡ 128
  unfolding link_marks link_mark
  length-marks = length-padded link_mark (next_links q) q.nodes (length-next q) few-nodes

  next-below : (j l : ℕ) → j < q.nodes → get_or (next_links q) j none ≡ some l → l < q.links
  next-below j l h e = (first_some q.links (fits_next q (distances q) j) l (sym (next-first q j h) ∙ e)).below

  link-of : (j : ℕ) → j < 128 → link_of (get_or (link_marks q) j 0) ≡ get_or (next_links q) j none
  unfolding link_of link_mark
  link-of j h =
      ⊎_elim
      (λ b.
      on-option (get_or (next_links q) j none)
      (λ e. rw (link-marks-at q few-nodes j h, e))
      (λ l e. rw (link-marks-at q few-nodes j h, e, ne_eqb l no_link (λ f. omega (arith, next-below j l b e)))))
      (λ b. rw (link-marks-at q few-nodes j h, get_or-eq_default (next_links q) none {n = j} (omega (arith, length-next q))))
      (order j q.nodes)

  links-of : (j : ℕ) → get_or (map link_of (link_marks q)) j none ≡ get_or (next_links q) j none
  unfolding link_of
  links-of j =
      ⊎_elim
      (λ b.
      get_or-map link_of (link_marks q) j no_link
      ∙ ap link_of (get_d_default (link_marks q) j no_link 0 (omega (arith, length-marks)))
      ∙ link-of j b)
      (λ b.
      get_or-eq_default (map link_of (link_marks q)) none (omega (arith, length-map (link_marks q) link_of, length-marks))
      ∙ sym (get_or-eq_default (next_links q) none (omega (arith, length-next q))))
      (order j 128)

module _ {n : ℕ} {links : List (List ℕ)} {times : List ℕ} {s : ℕ} (g : Searchable n links times s)
    {next : List ℕ} (next≡ : next ≡ link_marks (routing_from n links times s)) where
  walk-along : (j : ℕ) → walk_along links next n j ≡ walk_from (routing_from n links times s) j
  unfolding routing_from walk_along
  walk-along j =
      rw next≡
      (walk-cong (head links) (map link_of (link_marks (routing_from n links times s))) (next_links (routing_from n links times s))
      (links-of (routing_from n links times s) g.roads.few-nodes g.roads.few-links) n j)

  -- A node without a path has no walk,
  walk-without : (j : ℕ) → j < n → distance (routing_from n links times s) j ≡ none → walk_along links next n j ≡ []
  unfolding routing_from
  walk-without j h e =
      walk-along j
      ∙ walk_none (head links) (next_links (routing_from n links times s)) n j
      (next-without-path (routing_from n links times s) j h e)

  -- and any other ends at the destination.
  walk_ends : (j : ℕ) → j < n → length (walk_along links next n j) < n
  unfolding routing_from
  walk_ends j h =
      on-option (distance (routing_from n links times s) j)
      (λ e. rw (walk-without j h e) (omega arith))
      (λ y e. rw (walk-along j) (walked (routing_from n links times s) (well-formed g) j y h e).short)

  pub followable : Followable n links next
  unfolding routing_from link_mark
  followable =
      rw next≡
      (record {
        few-nodes = g.roads.few-nodes;
        few-links = g.roads.few-links;
        size = length-marks (routing_from n links times s) g.roads.few-nodes g.roads.few-links;
        head-node = g.roads.head-node;
        next-link = λ j h some-link.
            let at = link-marks-at (routing_from n links times s) g.roads.few-nodes j (omega (arith, g.roads.few-nodes)) in
            on-option (get_or (next_links (routing_from n links times s)) j none)
            (λ e. absurd (some-link (at ∙ ap link_mark e)))
            (λ l e. rw (at, e) (next-below (routing_from n links times s) g.roads.few-nodes g.roads.few-links j l h e));
        ends = λ j h. rw next≡ at (walk_ends j h);
      })

  -- What the trips of all nodes send over a link is the loading there.
  pub flow-along : (trips : ℕ → ℕ) (l : ℕ) → flow_along n links next trips n l ≡ flow (routing_from n links times s) trips l
  unfolding routing_from flow_along flow
  flow-along trips l = sum-cong n _ _ (λ j h. ap (λ path. trips j * occurrences l path) (walk-along j))
