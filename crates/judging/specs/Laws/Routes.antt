-- The loading that the code's next links give is the definition's.
use Rattle.std.specs.Prelude.{ℕ, zero, suc, ◌+◌, ◌*◌, ◌≤◌, ◌<◌, ◌≡◌, refl, List, [], length, replicate}
use Rattle.std.proofs.Common.{arith, ◌∙◌}
use Rattle.std.proofs.Math.Path.{sym, ap, fun_ext}
use Rattle.std.proofs.Math.Logic.{⊎_elim}
use Rattle.std.proofs.Math.ListN.{get_or, get_or-map, get_or-eq_default}
use Rattle.std.proofs.lemmas.List.{length-replicate, get_or-replicate}
use Rattle.std.proofs.Math.Seq.{ext_get_or}
use Rattle.theory.specs.Finite.{tabulate, rows}
use Rattle.theory.specs.Network.{Network}
use Rattle.theory.specs.Flows.{link_total}
use Rattle.theory.specs.Routes.{Routing, routing, walk, loading_row, loading}
use Rattle.theory.specs.Laws.Finite.{order, sum-zero, length-tabulate, get_d_tabulate, rows-cong}
use Rattle.theory.specs.Laws.Routings.{Timed, AllServed, served-at-times}
use Rattle.theory.specs.Laws.Loading.{loaded, length-row, loading-total, row_loaded}
use Rattle.theory.specs.Study.{no_link, network}
use Rattle.calls.specs.Laws.Reach.{unit-timed}
use Rattle.travel.specs.Ranges.{TimesFit}
use Rattle.search.specs.Search.{routing_from}
use Rattle.search.specs.Given.{Roads, Searchable}
use Rattle.loading.specs.Along.{link_of, walk_along, flow_along, Followable}
use Rattle.routes.specs.Table.{link_marks, no_links}
use Rattle.theory.specs.Laws.Padded.{get_d_default}
use Rattle.judging.specs.Laws.Loaded.{followable, flow-along}
use Rattle.judging.specs.Study.{Study, link_count, commodity_count, network_in, Ready}
use Rattle.moves.specs.Loading.{row_along, loading_along, AllFollowable}
use Rattle.judging.specs.Classes.{ClassNexts}
use Rattle.judging.specs.Laws.Study.{commodity-node, roads, searchable-to}
use Rattle.judging.specs.Laws.Classes.{few-commodities, commodity-row}

-- One destination: what its trips send along the next links over a link is the loading there.
flow-is :
    {n : ℕ} {links : List (List ℕ)} {times : List ℕ} {s : ℕ} → Searchable n links times s → {next : List ℕ} →
    next ≡ link_marks (routing_from n links times s) → (trips : ℕ → ℕ) (l : ℕ) → l < length links →
    flow_along n links next trips n l ≡ get_or (loading_row (routing_from n links times s) trips) l 0
unfolding routing_from
flow-is {n} {links} {times} {s} w e trips l h =
    flow-along w e trips l ∙ sym (row_loaded (routing_from n links times s) trips l h)

-- Where nobody goes there is no loading, along any next links,
none-along : (n : ℕ) (links : List (List ℕ)) (next : List ℕ) (trips : ℕ → ℕ) (l : ℕ) → ((j : ℕ) → j < n → trips j ≡ 0) → flow_along n links next trips n l ≡ 0
unfolding flow_along
none-along n links next trips l none = sum-zero n _ (λ j h. rw (none j h) (omega arith))

-- nor by the definition.
none-loaded : (q : Routing) (trips : ℕ → ℕ) (l : ℕ) → l < q.links → ((j : ℕ) → j < q.nodes → trips j ≡ 0) → get_or (loading_row q trips) l 0 ≡ 0
unfolding loaded
none-loaded q trips l h none = row_loaded q trips l h ∙ sum-zero q.nodes _ (λ j b. rw (none j b) (omega arith))

-- A row without next links can be followed: no walk leaves its node.
no-link : (j : ℕ) → get_or no_links j no_link ≡ no_link
unfolding no_links
no-link j =
    ⊎_elim (λ h. get_or-replicate {A = ℕ} 128 j no_link no_link h)
    (λ h. get_or-eq_default {A = ℕ} (replicate 128 no_link) no_link {n = j} (omega (arith, length-replicate {A = ℕ} 128 no_link)))
    (order j 128)

length-no-links : length no_links ≡ 128
unfolding no_links
length-no-links = length-replicate {A = ℕ} 128 no_link

no_walk : (links : List (List ℕ)) (most j : ℕ) → walk_along links no_links most j ≡ []
unfolding walk_along walk link_of
no_walk links zero j = refl
no_walk links (suc most) j = rw (get_or-map link_of no_links j no_link, no-link j, walk)

followable-none : {n : ℕ} {links : List (List ℕ)} {times : List ℕ} → Roads n links times → 0 < n → {row : List ℕ} → row ≡ no_links → Followable n links row
followable-none {links} g some-node e =
    rw e
    (record {
      few-nodes = g.few-nodes;
      few-links = g.few-links;
      size = length-no-links;
      head-node = g.head-node;
      next-link = λ j b some-link.
          absurd (some-link (get_d_default no_links j 0 no_link (omega (arith, g.few-nodes, length-no-links)) ∙ no-link j));
      ends = λ j b. rw (no_walk links) (omega arith);
    })

-- A loading goes by the times of the links, number by number.
loading-at : (g : Network) (t u : List ℕ) → ((l : ℕ) → get_or t l 0 ≡ get_or u l 0) → loading g t ≡ loading g u
unfolding loading
loading-at g t u same =
    ap
    (λ time.
    rows g.commodities (λ k.
    loading_row
    (record {
      nodes = g.nodes;
      links = g.links;
      tail = g.tail;
      head = g.head;
      usable = g.may_use k;
      destination = g.destination k;
      time = time;
    })
    (g.trips k)))
    (fun_ext same)

-- Times that fit stand in an array, which are those of a list: the array goes on past it with 0.
pub record TimesIn (d : Study) (times exact : List ℕ) : Type 0 where
  pub fit : TimesFit (link_count d) times
  pub same : (l : ℕ) → get_or times l 0 ≡ get_or exact l 0

-- They are those of the array itself.
pub times-own : {d : Study} {times : List ℕ} → TimesFit (link_count d) times → TimesIn d times times
times-own fit = record { fit = fit; same = λ l. refl }

module _ {d : Study} (ready : Ready d) {times exact : List ℕ} (t : TimesIn d times exact) where
  pub timed : Timed (network_in d) exact
  unfolding network
  timed l h = omega (arith, t.fit.some-time l h, t.same l)

  pub served : AllServed (network_in d) exact
  unfolding network
  served = served-at-times (network_in d) ready.sound (replicate (link_count d) 1) exact (unit-timed (network_in d)) timed ready.served

  module _ {nexts : List (List ℕ)} (found : ClassNexts d times nexts) where
    row_is : (k l : ℕ) → k < commodity_count d → l < link_count d →
        row_along d.nodes d.links d.trips nexts k l
        ≡ get_or (loading_row (routing (network_in d) times k) ((network_in d).trips k)) l 0
    unfolding row_along network routing_from
    row_is k l h b =
        ⊎_elim
        (λ e. flow-is (searchable-to ready t.fit k h) e (λ j. get_or d.trips (k * d.nodes + j) 0) l b)
        (λ none.
        none-along d.nodes d.links (get_or nexts k []) (λ j. get_or d.trips (k * d.nodes + j) 0) l none.1
        ∙ sym (none-loaded (routing (network_in d) times k) ((network_in d).trips k) l b none.1))
        (commodity-row ready found k h)

    -- The loading along these next links is the definition's,
    pub loading-is : loading_along d.nodes d.links (commodity_count d) d.trips nexts ≡ loading (network_in d) exact
    unfolding loading_along loading network
    loading-is =
        rows-cong (commodity_count d) _ _ (λ k h.
        let row = loading_row (routing (network_in d) times k) ((network_in d).trips k) in
        let along = row_along d.nodes d.links d.trips nexts k in
        ext_get_or 0 (tabulate (link_count d) along) row
        (length-tabulate (link_count d) along ∙ sym (length-row (routing (network_in d) times k) ((network_in d).trips k)))
        (λ l b.
        let inside : l < link_count d = omega (arith, length-tabulate (link_count d) along) in
        get_d_tabulate (link_count d) along 0 l inside ∙ row_is k l h inside))
        ∙ loading-at (network_in d) times exact t.same

    -- with totals of at most T,
    pub load-most : (l : ℕ) → l < link_count d →
        link_total (commodity_count d) (link_count d) (loading_along d.nodes d.links (commodity_count d) d.trips nexts) l ≤ 65535
    unfolding network
    load-most l h =
        let e = ap (λ y. link_total (commodity_count d) (link_count d) y l) loading-is in
        omega (arith, loading-total (network_in d) ready.sound exact timed served l h, ready.few-trips)

    -- and can be followed.
    pub followable-all : AllFollowable d.nodes d.links (commodity_count d) d.trips nexts
    followable-all =
        record {
          few-nodes = ready.few-nodes;
          few-links = ready.few-links;
          few-commodities = few-commodities ready;
          has-rows = found.size;
          has-trips = ready.trips-long;
          followable = λ k h.
              ⊎_elim
              (λ e. followable (searchable-to ready t.fit k h) e)
              (λ none. followable-none (roads ready t.fit) (omega (arith, commodity-node ready k h)) none.0)
              (commodity-row ready found k h);
          small-totals = load-most;
        }

    -- A next link of a node is a link.
    pub next-links : (k j : ℕ) → k < commodity_count d → j < d.nodes → (get_or (get_or nexts k []) j 0 ≡ no_link → ⊥) →
        get_or (get_or nexts k []) j 0 < link_count d
    next-links k j h = (followable-all.followable k h).next-link j
