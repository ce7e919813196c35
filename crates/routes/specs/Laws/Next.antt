-- The first fitting link with an open head, along the chain of a node's links.
use Rattle.std.specs.Prelude.{◌≡◌, ℕ, ◌+◌, ◌-◌, ◌<◌, ◌≤◌, true, false, not, ◌&&◌, List, [], ◌++◌, length, get_or, replicate, ◌==◌, ◌≢◌, slice_index, slice_index_or}
use Rattle.std.proofs.Common.{arith, ◌∙◌, eq-eqb, ne_eqb}
use Rattle.std.proofs.Math.Path.{sym, ap}
use Rattle.std.proofs.Math.Option.{Option, none, some}
use Rattle.theory.specs.Finite.{first}
use Rattle.theory.specs.Routes.{Routing, distances, distance, fits_next, next_links}
use Rattle.theory.specs.Study.{tail, head, closed, of_lorries, barred_to, may_use, no_link, link_mark}
use Rattle.theory.specs.Laws.Cases.{on-equal, on_test, on-option, true-false}
use Rattle.theory.specs.Laws.Finite.{some_first, none_first}
use Rattle.theory.specs.Laws.Paths.{WellFormed}
use Rattle.theory.specs.Laws.Permission.{may-open, not-barred}
use Rattle.theory.specs.Laws.Distances.{distance-over-link}
use Rattle.theory.specs.Laws.Next.{fits-through, through-fits, length-next}
use Rattle.theory.specs.Laws.Padded.{padded-at}
use Rattle.theory.specs.Laws.Filled.{Filled, filled_is, map-tabulate}
use Rattle.search.specs.Search.{routing_from, unreached, mark, marks}
use Rattle.search.specs.Given.{Searchable, class_of}
use Rattle.search.specs.Chains.{chain_of}
use Rattle.search.specs.Lanes.{EachSearchable, Found}
use Rattle.search.specs.Laws.Chains.{place-open, place-of-open, chain-goes}
use Rattle.search.specs.Laws.Found.{well-formed, marks-at}
use Rattle.search.specs.Laws.Lanes.{lane-at, row-most, own-chain}
use Rattle.routes.specs.Next.{fitting, first_fitting, first_open, Unfit}
use Rattle.routes.specs.Table.{link_marks}

-- The test on marks is the definition's test on distances.
module _ (q : Routing) (w : WellFormed q) (few : q.nodes ≤ 128) (j : ℕ) (h : j < q.nodes) where
  mark-at : (i : ℕ) (o : Option ℕ) → i < q.nodes → distance q i ≡ o → slice_index (marks q) i ≡ mark o
  mark-at i o b e = marks-at q few i (omega arith) ∙ ap mark e

  -- A link that fits gives the node its mark,
  fits-equal : (l : ℕ) → l < q.links → fits_next q (distances q) j l ≡ true
      → (q.tail l ≡ j) × (q.time l + slice_index (marks q) (q.head l) ≡ slice_index (marks q) j)
  unfolding mark
  fits-equal l b e =
      let (y, own, t) = fits-through q (distances q) j l b e in
      (t.leaves, omega (arith, mark-at j (some y) h own, mark-at (q.head l) (some t.rest) (w.head-node l b) t.at_head, t.adds-up))

  -- and a link out of the node that gives it its mark fits. A link whose head is unreached gives more than any mark.
  equal-fits : (l : ℕ) → l < q.links → q.usable l ≡ true → q.tail l ≡ j → slice_index (marks q) j ≤ unreached
      → q.time l + slice_index (marks q) (q.head l) ≡ slice_index (marks q) j → fits_next q (distances q) j l ≡ true
  unfolding mark
  equal-fits l b u leaves fits same =
      on-option (distance q (q.head l))
      (λ e. absurd (omega (arith, mark-at (q.head l) none (w.head-node l b) e, w.some-time l b)))
      (λ x e.
      let (y, f, y≤) = distance-over-link q w l x b u e in
      let own : distance q j ≡ some y = rw leaves at f in
      let adds-up : y ≡ q.time l + x = omega (arith, mark-at j (some y) h own, mark-at (q.head l) (some x) (w.head-node l b) e) in
      through-fits q (distances q) j y l own (record { below = b; usable = u; leaves = leaves; rest = x; at_head = e; adds-up = adds-up }))

  unequal-unfit : (l : ℕ) → l < q.links → (q.time l + slice_index (marks q) (q.head l) ≢ slice_index (marks q) j) → fits_next q (distances q) j l ≡ false
  unequal-unfit l b differ = on_test (fits_next q (distances q) j l) (λ e. absurd (differ (fits-equal l b e).1)) (λ e. e)

  elsewhere-unfit : (l : ℕ) → l < q.links → (q.tail l ≢ j) → fits_next q (distances q) j l ≡ false
  elsewhere-unfit l b away = on_test (fits_next q (distances q) j l) (λ e. absurd (away (fits-equal l b e).0)) (λ e. e)

-- The marks of the table to destination k of a group are those of the distances.
module _ {nodes : ℕ} {links : List (List ℕ)} {times group : List ℕ} (g : EachSearchable nodes links times group) {table : List (List ℕ)}
    (found : Found nodes links times group table) {k : ℕ} (b : k < 8) where
  mark-is : (i : ℕ) → i < nodes → slice_index (slice_index_or table i []) k ≡ slice_index (marks (routing_from nodes links times (slice_index group k))) i
  mark-is i c = sym (lane-at k table i (omega (arith, (g.each k b).roads.few-nodes))) ∙ ap (λ d. slice_index d i) (found.least k b)

  mark-most : (i : ℕ) → i < nodes → slice_index (slice_index_or table i []) k ≤ unreached
  mark-most i c = row-most table found.marked (omega (arith, (g.each k b).roads.few-nodes)) k b

  -- What a link gives is a number of 32 bits.
  pub gives : {i a : ℕ} → i < length links → a ≡ head links i → slice_index (slice_index_or table a []) k + slice_index times i < 4294967296
  gives {i} {a} c a≡ =
      let roads = (g.each k b).roads in omega (arith, mark-most a (omega (arith, roads.head-node i c)), roads.short-time i c)

-- Which links fit as the next link of node j, to destination k of a group.
module _ {nodes : ℕ} {links : List (List ℕ)} {times group : List ℕ} (g : EachSearchable nodes links times group) {table : List (List ℕ)}
    (found : Found nodes links times group table) {j : ℕ} (h : j < nodes) {k : ℕ} (b : k < 8) where
  -- A link that does not give the node its mark does not fit,
  pub unfit : (l : ℕ) → l < length links → (slice_index (slice_index_or table (head links l) []) k + slice_index times l ≢ slice_index (slice_index_or table j []) k)
      → fitting nodes links times (slice_index group k) j l ≡ false
  unfolding routing_from
  unfit l c differ =
      unequal-unfit (routing_from nodes links times (slice_index group k)) (well-formed (g.each k b)) (g.each k b).roads.few-nodes j h l c
      (λ same. differ (omega (arith, mark-is g found b j h, mark-is g found b (head links l) ((g.each k b).roads.head-node l c), same)))

  -- nor does one out of another node.
  pub elsewhere : (l : ℕ) → l < length links → (tail links l ≢ j) → fitting nodes links times (slice_index group k) j l ≡ false
  unfolding routing_from
  elsewhere l c away = elsewhere-unfit (routing_from nodes links times (slice_index group k)) (well-formed (g.each k b)) (g.each k b).roads.few-nodes j h l c away

  -- A link that the commodity is barred from does not fit either.
  barred-unfit : (l : ℕ) → l < length links → barred_to links (of_lorries (slice_index group k)) l ≡ true → fitting nodes links times (slice_index group k) j l ≡ false
  unfolding routing_from
  barred-unfit l c off =
      on_test (fitting nodes links times (slice_index group k) j l)
      (λ e.
      let (y, own, t) = fits-through (routing_from nodes links times (slice_index group k)) (distances (routing_from nodes links times (slice_index group k))) j l c e in
      true-false off (not-barred links (slice_index group k) l t.usable))
      (λ e. e)

  -- A link out of the node that may be used and gives the node its mark fits.
  pub fit : (l : ℕ) → l < length links → may_use links (slice_index group k) l ≡ true → tail links l ≡ j
      → slice_index (slice_index_or table (head links l) []) k + slice_index times l ≡ slice_index (slice_index_or table j []) k → fitting nodes links times (slice_index group k) j l ≡ true
  unfolding routing_from
  fit l c may leaves same =
      equal-fits (routing_from nodes links times (slice_index group k)) (well-formed (g.each k b)) (g.each k b).roads.few-nodes j h l c may leaves
      (omega (arith, mark-is g found b j h, mark-most g found b j h))
      (omega (arith, mark-is g found b j h, mark-is g found b (head links l) ((g.each k b).roads.head-node l c)))

  -- No lower link with an open head fits.
  lower : {l : ℕ} → Unfit nodes links times (slice_index group k) j l → (i : ℕ) → i < length links → i < l
      → (not (closed links i == 1) && fitting nodes links times (slice_index group k) j i) ≡ false
  lower at i c d =
      on-equal (closed links i) 1
      (λ shut. rw (eq-eqb (closed links i) 1 shut))
      (λ is_open. rw (ne_eqb (closed links i) 1 is_open)
      (on_test (barred_to links (of_lorries (slice_index group k)) i)
      (barred-unfit i c)
      (λ on. on-equal (tail links i) j (λ e. at.passed i c d (place-open (of_lorries (slice_index group k)) links 0 i on is_open ∙ e)) (elsewhere i c))))

  -- The search along the chain of node j
  module _ {l : ℕ} (at : Unfit nodes links times (slice_index group k) j l) where
    -- ends past the last link,
    pub next-none : l ≡ no_link → l ≡ first_open nodes links times (slice_index group k) j
    unfolding link_mark
    next-none e =
        e ∙ ap link_mark (sym (none_first (length links) _ (λ i c. lower at i c (omega (arith, (g.each k b).roads.few-links)))))

    module _ (some-link : l ≡ no_link → ⊥) {i : ℕ} (i≡ : i ≡ l) where
      below : i < length links
      below = omega (arith, (at.on_chain some-link).0)

      -- is otherwise at a link of the network,
      pub next-at : (i < length links) × (i < 512) × (head links i < 128)
      next-at =
          let roads = (g.each k b).roads in (below, omega (arith, below, roads.few-links), omega (arith, roads.head-node i below, roads.few-nodes))

      module _ {a : ℕ} (a≡ : a ≡ head links i) where
        -- ends at one that gives the node its mark,
        pub next_here : get_or (slice_index_or table a []) k 0 + slice_index times i ≡ slice_index (slice_index_or table j []) k → l ≡ first_open nodes links times (slice_index group k) j
        unfolding link_mark
        next_here same =
            let roads = (g.each k b).roads in
            let (on, is_open, leaves) =
            place-of-open (of_lorries (slice_index group k)) links 0 i (omega (arith, roads.few-nodes)) (rw (← i≡) at (at.on_chain some-link).1) in
            let fits = fit i below (may-open links (slice_index group k) i on is_open) leaves (rw (← a≡) same) in
            sym i≡
            ∙ ap link_mark
            (sym (some_first (length links) _ i
            (record { below = below; fits = rw (ne_eqb (closed links i) 1 is_open) fits; lower = λ x c. lower at x (omega (arith, below)) (omega arith) })))

        -- and goes on from any other to a higher one.
        pub next-goes : {out : List ℕ} → out ≡ chain_of (class_of group) links 0 → (slice_index (slice_index_or table a []) k + slice_index times i ≢ slice_index (slice_index_or table j []) k)
            → {l' : ℕ} → l' ≡ slice_index out (384 + i) → (l < l') × Unfit nodes links times (slice_index group k) j l'
        next-goes chain differ e =
            let other = unfit i below (λ same. differ (rw a≡ same)) in
            chain-goes (g.each k b).roads.few-links (own-chain g 0 chain k b) at some-link (rw i≡ at other) i≡ e

-- The marks of the next links, node by node.
pub link-marks-at : (q : Routing) → q.nodes ≤ 128 → (j : ℕ) → j < 128 → slice_index (link_marks q) j ≡ link_mark (slice_index_or (next_links q) j none)
unfolding link_marks link_mark
link-marks-at q few j h = padded-at link_mark (next_links q) q.nodes (length-next q) few j h

-- They are found node by node.
pub link-marks-filled : {nodes : ℕ} {links : List (List ℕ)} {times : List ℕ} {s : ℕ} → Searchable nodes links times s → {row : List ℕ}
    → Filled (first_fitting nodes links times s) no_link 128 nodes row → row ≡ link_marks (routing_from nodes links times s)
unfolding link_marks next_links routing_from
link-marks-filled {nodes} {links} {times} {s} g w =
    filled_is g.roads.few-nodes w
    ∙ ap (λ front. front ++ replicate (128 - nodes) no_link)
    (sym (map-tabulate link_mark nodes (λ j. first (length links) (fitting nodes links times s j))))
