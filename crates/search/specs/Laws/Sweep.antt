-- A least-time search by scans: what it sets out with, what one link changes, and what a scan and a sweep of scans do.
use Prim.Native.Nat.{ℕ, zero, suc, ◌+◌, ◌*◌, ◌%◌, ◌≤◌, ◌<◌, min}
use Rattle.std.proofs.Common.{le_refl, sym, ◌∙◌, inl, inr, length-set, get_or-set_same, get_or-set_other, lt-ltb, le-ltb}
use native.Mathlib.Omega.{arith}
use Rattle.std.specs.Prelude.{◌≡◌, refl, true, false, List, length, set}
use Rattle.std.proofs.Math.Path.{ap}
use Rattle.std.proofs.Math.Logic.{⊎_elim}
use Rattle.std.proofs.Math.ListN.{get_or, length-replicate, get_or-replicate}
use Rattle.std.proofs.lemmas.List.{set-get_or}
use Rattle.theory.specs.Finite.{sum}
use Rattle.theory.specs.Laws.Cases.{on-equal}
use Rattle.theory.specs.Laws.Finite.{below_suc, order, sum-cong}
use Rattle.theory.specs.Study.{tail, head, closed, node_of, of_lorries, barred_to, may_use, no_link}
use Rattle.theory.specs.Laws.Permission.{may-open, may-own, may-closed, not-barred}
use Rattle.search.specs.Search.{unreached}
use Rattle.search.specs.Given.{Searchable, longest}
use Rattle.search.specs.Chains.{end_of, chain_of}
use Rattle.search.specs.Marks.{all_unreached, total, reach, reached, relaxed, Attained, Searching, Hands, Scanning, Scanned, Entered, Scans}
use Rattle.search.specs.Laws.Chains.{place-open, place-closed, place-of-open, place-of-closed, place-node, chain-begins, chain-goes, chain-map}

-- A sum over a list of which one element is another.
module _ (f : ℕ → ℕ) (d : List ℕ) (t v : ℕ) (inside : t < length d) where
  sum-set : (n : ℕ) → t < n → sum n (λ i. f (get_or (set d t v) i 0)) + f (get_or d t 0) ≡ sum n (λ i. f (get_or d i 0)) + f v
  unfolding sum
  sum-set zero h = absurd (omega arith)
  sum-set (suc n) h = ⊎_elim (λ p. below p (sum-set n p)) here (below_suc n t h)
    where
      below : t < n → sum n (λ i. f (get_or (set d t v) i 0)) + f (get_or d t 0) ≡ sum n (λ i. f (get_or d i 0)) + f v
          → sum n (λ i. f (get_or (set d t v) i 0)) + f (get_or (set d t v) n 0) + f (get_or d t 0) ≡ sum n (λ i. f (get_or d i 0)) + f (get_or d n 0) + f v
      below p rest = omega (arith, rest, ap f (get_or-set_other d t n v 0 (λ e. omega (arith, p, e))))

      here : t ≡ n → sum n (λ i. f (get_or (set d t v) i 0)) + f (get_or (set d t v) n 0) + f (get_or d t 0) ≡ sum n (λ i. f (get_or d i 0)) + f (get_or d n 0) + f v
      here e =
          let others = sum-cong n (λ i. f (get_or (set d t v) i 0)) (λ i. f (get_or d i 0))
          (λ i p. ap f (get_or-set_other d t i v 0 (λ q. omega (arith, p, q, e)))) in
          let at-t : f (get_or (set d t v) n 0) ≡ f v = ap f (ap (λ i. get_or (set d t v) i 0) (sym e) ∙ get_or-set_same d t v 0 inside) in
          omega (arith, others, at-t, ap (λ i. f (get_or d i 0)) e)

-- One link: it lowers its tail's mark, or leaves all marks as they are.
module _ (d : List ℕ) (t ahead time : ℕ) where
  relaxed-lower : time + ahead < get_or d t 0 → set d t (time + ahead) ≡ relaxed d t ahead time
  unfolding relaxed
  relaxed-lower h = rw (lt-ltb (time + ahead) (get_or d t 0) h)

  relaxed-same : get_or d t 0 ≤ time + ahead → d ≡ relaxed d t ahead time
  unfolding relaxed
  relaxed-same h = rw (le-ltb (time + ahead) (get_or d t 0) h)

  -- The tail's mark is then the lesser of the two.
  pub relaxed-least : (v : ℕ) → v ≡ min (ahead + time) (get_or d t 0) → set d t v ≡ relaxed d t ahead time
  relaxed-least v v≡ = ⊎_elim lower same (order (time + ahead) (get_or d t 0))
    where
      lower : time + ahead < get_or d t 0 → set d t v ≡ relaxed d t ahead time
      lower h = ap (set d t) (omega arith) ∙ relaxed-lower h

      same : get_or d t 0 ≤ time + ahead → set d t v ≡ relaxed d t ahead time
      same h = ap (set d t) (omega arith) ∙ set-get_or d t 0 ∙ relaxed-same h

module _ {nodes : ℕ} {links : List (List ℕ)} {times : List ℕ} {s : ℕ} (g : Searchable nodes links times s) where
  -- A search sets out with all nodes marked unreached but the destination, which is at 0.
  length-unreached : length all_unreached ≡ 128
  unfolding all_unreached
  length-unreached = length-replicate 128 unreached

  at-unreached : (j : ℕ) → j < 128 → get_or all_unreached j 0 ≡ unreached
  unfolding all_unreached
  at-unreached j h = get_or-replicate 128 j unreached 0 h

  inside : node_of s < length all_unreached
  inside = omega (arith, length-unreached)

  at-destination : get_or (set all_unreached (node_of s) 0) (node_of s) 0 ≡ 0
  at-destination = get_or-set_same all_unreached (node_of s) 0 0 inside

  elsewhere : (j : ℕ) → j < 128 → (j ≡ node_of s → ⊥) → get_or (set all_unreached (node_of s) 0) j 0 ≡ unreached
  elsewhere j h away = get_or-set_other all_unreached (node_of s) j 0 0 away ∙ at-unreached j h

  one-reached : 1 ≤ reached (set all_unreached (node_of s) 0)
  unfolding reached
  one-reached =
      let a = sum-set reach all_unreached (node_of s) 0 inside 128 (omega arith) in
      let b : reach (get_or all_unreached (node_of s) 0) ≡ 0 = ap reach (at-unreached (node_of s) (omega arith)) in
      omega arith

  pub sets-out : Searching nodes links times s (set all_unreached (node_of s) 0)
  sets-out =
      record {
        size = length-set all_unreached (node_of s) 0 ∙ length-unreached;
        destination = at-destination;
        marked = λ j h. on-equal j (node_of s) (λ e. rw e (omega (arith, at-destination))) (λ away. omega (arith, elsewhere j h away));
        outside = λ j h k. elsewhere j k (λ e. omega arith);
        attained = λ j h away r. absurd (omega (arith, elsewhere j (omega arith) away));
        bounded = λ j h r.
            on-equal j (node_of s) (λ e. rw e (omega (arith, at-destination, one-reached))) (λ away. absurd (omega (arith, elsewhere j h away)));
      }

  -- A link l from t to k with time x that gives its tail less than its mark.
  module _ {d : List ℕ} (w : Searching nodes links times s d) {l t k x : ℕ} (h : l < length links) (may : may_use links s l ≡ true)
      (t≡ : tail links l ≡ t) (k≡ : head links l ≡ k) (x≡ : get_or times l 0 ≡ x) (less : x + get_or d k 0 < get_or d t 0)
      {d' : List ℕ} (d≡ : d' ≡ set d t (x + get_or d k 0)) where
    t-node : t < nodes
    t-node = omega (arith, g.roads.tail-node l h)

    k-node : k < nodes
    k-node = omega (arith, g.roads.head-node l h)

    tail-mark : get_or d t 0 ≤ unreached
    tail-mark = w.marked t (omega (arith, t-node))

    at_tail : get_or d' t 0 ≡ x + get_or d k 0
    at_tail = rw d≡ (get_or-set_same d t (x + get_or d k 0) 0 (omega (arith, t-node, w.size)))

    off_tail : (j : ℕ) → (j ≡ t → ⊥) → get_or d' j 0 ≡ get_or d j 0
    off_tail j away = rw d≡ (get_or-set_other d t j (x + get_or d k 0) 0 away)

    -- No mark rises,
    lower-no-more : (j : ℕ) → get_or d' j 0 ≤ get_or d j 0
    lower-no-more j = on-equal j t (λ e. rw e (omega (arith, at_tail))) (λ away. omega (arith, off_tail j away))

    -- and the tail is one more node that is reached, unless it was before.
    reached_then : reached d' + reach (get_or d t 0) ≡ reached d + 1
    unfolding reached
    reached_then =
        let a = sum-set reach d t (x + get_or d k 0) (omega (arith, t-node, w.size)) 128 (omega (arith, t-node)) in
        let b : reach (x + get_or d k 0) ≡ 1 = omega (arith, tail-mark) in
        omega (arith, ap reached d≡)

    attained-then : (j : ℕ) → j < nodes → (j ≡ node_of s → ⊥) → get_or d' j 0 < unreached → Attained nodes links times s d' j
    attained-then j b away r = on-equal j t here there
      where
        here : j ≡ t → Attained nodes links times s d' j
        here e =
            record {
              link = l;
              below = h;
              usable = may;
              leaves = t≡ ∙ sym e;
              head-reached = rw k≡ (omega (arith, lower-no-more k, tail-mark));
              at_least = rw (k≡, x≡, e) (omega (arith, lower-no-more k, at_tail));
            }

        there : (j ≡ t → ⊥) → Attained nodes links times s d' j
        there off =
            let a = w.attained j b away (omega (arith, off_tail j off)) in
            record {
              link = a.link;
              below = a.below;
              usable = a.usable;
              leaves = a.leaves;
              head-reached = omega (arith, lower-no-more (head links a.link), a.head-reached);
              at_least = omega (arith, lower-no-more (head links a.link), a.at_least, off_tail j off);
            }

    bounded-then : (j : ℕ) → j < 128 → get_or d' j 0 < unreached → get_or d' j 0 + longest ≤ longest * reached d'
    bounded-then j b r = on-equal j t here there
      where
        here : j ≡ t → get_or d' j 0 + longest ≤ longest * reached d'
        here e =
            ⊎_elim
            (λ (first : get_or d t 0 ≡ unreached).
            let head-bound = w.bounded k (omega (arith, k-node)) (omega (arith, tail-mark)) in
            rw e (omega (arith, at_tail, reached_then, g.roads.short-time l h)))
            (λ (again : get_or d t 0 < unreached). rw e (omega (arith, at_tail, reached_then, w.bounded t (omega (arith, t-node)) again)))
            (⊎_elim (λ p. inr p) (λ p. inl (omega (arith, p, tail-mark))) (order (get_or d t 0) unreached))

        there : (j ≡ t → ⊥) → get_or d' j 0 + longest ≤ longest * reached d'
        there off = omega (arith, off_tail j off, reached_then, w.bounded j b (omega (arith, off_tail j off)))

    lower-searching : Searching nodes links times s d'
    lower-searching =
        record {
          size = ap length d≡ ∙ length-set d t (x + get_or d k 0) ∙ w.size;
          destination = omega (arith, lower-no-more (node_of s), w.destination);
          marked = λ j b. omega (arith, lower-no-more j, w.marked j b);
          outside = λ j b c. off_tail j (λ e. omega (arith, e, t-node)) ∙ w.outside j b c;
          attained = attained-then;
          bounded = bounded-then;
        }

  -- What a relaxed link makes of the marks of a search, whose end hands on `ahead`.
  record Relaxing (d : List ℕ) (l place ahead : ℕ) (d' : List ℕ) : Type 0 where
    searching : Searching nodes links times s d'
    no_more : (j : ℕ) → get_or d' j 0 ≤ get_or d j 0
    kept : Hands nodes links times s place ahead d'
    settled : get_or d' (tail links l) 0 ≤ get_or times l 0 + ahead

  module _ {d : List ℕ} (w : Searching nodes links times s d) (l : ℕ) (h : l < length links) where
    -- A link that gives its tail no less than its mark changes nothing.
    relaxing-same : {place ahead : ℕ} → Hands nodes links times s place ahead d → get_or d (tail links l) 0 ≤ get_or times l 0 + ahead
        → Relaxing d l place ahead (relaxed d (tail links l) ahead (get_or times l 0))
    relaxing-same {ahead = ahead} hands settled =
        rw (← relaxed-same d (tail links l) ahead (get_or times l 0) settled)
        (record { searching = w; no_more = λ j. le_refl (get_or d j 0); kept = hands; settled = settled })

    relaxing-lower : {place k : ℕ} → ((a : ℕ) → a < length links → end_of (of_lorries s) links 1 a ≡ place → may_use links s a ≡ true) → may_use links s l ≡ true
        → head links l ≡ k → k ≡ place % 128 → get_or times l 0 + get_or d k 0 < get_or d (tail links l) 0
        → Relaxing d l place (get_or d k 0) (relaxed d (tail links l) (get_or d k 0) (get_or times l 0))
    relaxing-lower {place} {k} usable may k≡ node less =
        let d≡ = sym (relaxed-lower d (tail links l) (get_or d k 0) (get_or times l 0) less) in
        let away : k ≡ tail links l → ⊥ = λ e. let same-mark = ap (λ i. get_or d i 0) e in omega arith in
        let kept = off_tail w h may refl k≡ refl less d≡ k away in
        record {
          searching = lower-searching w h may refl k≡ refl less d≡;
          no_more = lower-no-more w h may refl k≡ refl less d≡;
          kept = record { on = inr (usable, sym kept ∙ rw node) };
          settled = omega (arith, at_tail w h may refl k≡ refl less d≡);
        }

    relaxing : {place ahead : ℕ} → end_of (of_lorries s) links 1 l ≡ place → Hands nodes links times s place ahead d
        → Relaxing d l place ahead (relaxed d (tail links l) ahead (get_or times l 0))
    relaxing {place} {ahead} e hands = ⊎_elim none given hands.on
      where
        tail-most : get_or d (tail links l) 0 ≤ unreached
        tail-most = w.marked (tail links l) (omega (arith, g.roads.tail-node l h, g.roads.few-nodes))

        none : ahead ≡ unreached → Relaxing d l place ahead (relaxed d (tail links l) ahead (get_or times l 0))
        none a≡ = relaxing-same hands (omega (arith, tail-most))

        given : ((a : ℕ) → a < length links → end_of (of_lorries s) links 1 a ≡ place → may_use links s a ≡ true) × (ahead ≡ get_or d (place % 128) 0)
            → Relaxing d l place ahead (relaxed d (tail links l) ahead (get_or times l 0))
        given (usable, a≡) =
            let node = place-node (of_lorries s) links 1 l (omega (arith, g.roads.head-node l h, g.roads.few-nodes)) e in
            ⊎_elim
            (λ less. rw a≡ (relaxing-lower usable (usable l h e) node refl (omega (arith, less, a≡))))
            (relaxing-same hands)
            (order (get_or times l 0 + ahead) (get_or d (tail links l) 0))

  -- A scan of a place begins with no link relaxed,
  module _ {into : List ℕ} (chain : into ≡ chain_of (of_lorries s) links 1) {place ahead : ℕ} {d₀ : List ℕ} where
    pub scan_begins : {l : ℕ} → Searching nodes links times s d₀ → Hands nodes links times s place ahead d₀ → place < 384 → l ≡ get_or into place 0
        → Scanning nodes links times s place ahead d₀ d₀ l
    scan_begins w hands h e =
        record { searching = w; no_more = λ j. le_refl (get_or d₀ j 0); kept = hands; settled = chain-begins g.roads.few-links chain h e }

    module _ {d : List ℕ} {l : ℕ} (at : Scanning nodes links times s place ahead d₀ d l) where
      module _ (some-link : l ≡ no_link → ⊥) {i : ℕ} (i≡ : i ≡ l) where
        -- is at a link of the network, or past the last,
        pub scan-at : (i < length links) × (tail links i < 128)
        scan-at =
            let (below, enters) = at.settled.on_chain some-link in
            let i-below : i < length links = omega arith in
            (i-below, omega (arith, g.roads.tail-node i i-below, g.roads.few-nodes))

        -- and goes on to a higher one.
        pub scan-goes : {t : ℕ} {d' : List ℕ} {l' : ℕ} → t ≡ tail links i → d' ≡ relaxed d t ahead (get_or times i 0)
            → l' ≡ get_or into (384 + i) 0 → (l < l') × Scanning nodes links times s place ahead d₀ d' l'
        scan-goes {d' = d'} t≡ d≡ l≡ =
            let (below, enters) = at.settled.on_chain some-link in
            let r : Relaxing d l place ahead d' = rw (d≡, t≡, i≡) (relaxing at.searching l below enters at.kept) in
            let passed =
            chain-map {Q = λ a. get_or d' (tail links a) 0 ≤ get_or times a 0 + ahead} at.settled
            (λ a b c. omega (arith, r.no_more (tail links a))) in
            let (higher, there) = chain-goes g.roads.few-links chain passed some-link r.settled i≡ l≡ in (
              higher,
              record {
                searching = r.searching;
                no_more = λ j. omega (arith, r.no_more j, at.no_more j);
                kept = r.kept;
                settled = there;
              },
            )

  -- An open node hands its mark on,
  pub hands-open : {d : List ℕ} {k ahead : ℕ} → k < nodes → ahead ≡ get_or d k 0 → Hands nodes links times s k ahead d
  hands-open {d} {k} h e =
      let below : k < 128 = omega (arith, g.roads.few-nodes) in
      let node : k ≡ k % 128 = omega arith in
      record {
        on = inr (
          λ l b p. let (on, is_open, at) = place-of-open (of_lorries s) links 1 l below p in may-open links s l on is_open,
          e ∙ ap (λ j. get_or d j 0) node,
        );
      }

  -- and a closed one only if it is the destination.
  pub hands-own : {d : List ℕ} → Searching nodes links times s d → Hands nodes links times s (128 + node_of s) 0 d
  hands-own {d} w =
      let below : node_of s < 128 = omega (arith, g.destination-node, g.roads.few-nodes) in
      let node : node_of s ≡ (128 + node_of s) % 128 = omega arith in
      record {
        on = inr (
          λ l b p.
              let inside : head links l < 128 = omega (arith, g.roads.head-node l b, g.roads.few-nodes) in
              let (on, shut, at) = place-of-closed (of_lorries s) links 1 l below inside p in
              may-own links s l on at,
          sym w.destination ∙ ap (λ j. get_or d j 0) node,
        );
      }

  -- After a scan of the links into the destination as a closed node no such link gives its tail less than its mark,
  pub scanned-entered : {d₀ d : List ℕ} → Scanned nodes links times s (128 + node_of s) 0 d₀ d → Entered nodes links times s d
  scanned-entered r l b on shut e = omega (arith, r.settled l b (place-closed (of_lorries s) links 1 l on shut ∙ ap (λ j. 128 + j) e))

  -- which holds of lower marks too.
  pub entered-lower : (d d' : List ℕ) → Entered nodes links times s d → ((j : ℕ) → get_or d' j 0 ≤ get_or d j 0) → Entered nodes links times s d'
  entered-lower d d' w no_more l b on shut e = omega (arith, w l b on shut e, no_more (tail links l))

  -- Before the first sweep no node is scanned.
  pub scans-none : {d p : List ℕ} → Searching nodes links times s d → Entered nodes links times s d → length p ≡ 128
      → ((j : ℕ) → j < 128 → unreached ≤ get_or p j 0) → Scans nodes links times s d p
  scans-none w entered size least =
      record {
        searching = w;
        entered = entered;
        size = size;
        above = λ j h. omega (arith, w.marked j h, least j h);
        settled = λ l h on is_open.
            omega (
              arith,
              w.marked (tail links l) (omega (arith, g.roads.tail-node l h, g.roads.few-nodes)),
              least (head links l) (omega (arith, g.roads.head-node l h, g.roads.few-nodes)),
            );
      }

  module _ {d p : List ℕ} (w : Scans nodes links times s d p) {k : ℕ} (h : k < nodes) where
    inside-scans : k < length p
    inside-scans = omega (arith, w.size, g.roads.few-nodes)

    -- A scan of node k, whose mark may have fallen since its last scan.
    pub scans-more : {d' : List ℕ} → Scanned nodes links times s k (get_or d k 0) d d' → Scans nodes links times s d' (set p k (get_or d k 0))
    scans-more {d'} r =
        record {
          searching = r.searching;
          entered = entered-lower d d' w.entered r.no_more;
          size = length-set p k (get_or d k 0) ∙ w.size;
          above = above_then;
          settled = settled-then;
        }
      where
        here : get_or (set p k (get_or d k 0)) k 0 ≡ get_or d k 0
        here = get_or-set_same p k (get_or d k 0) 0 inside-scans

        off : (j : ℕ) → (j ≡ k → ⊥) → get_or (set p k (get_or d k 0)) j 0 ≡ get_or p j 0
        off j away = get_or-set_other p k j (get_or d k 0) 0 away

        above_then : (j : ℕ) → j < 128 → get_or d' j 0 ≤ get_or (set p k (get_or d k 0)) j 0
        above_then j b =
            on-equal j k (λ e. rw e (omega (arith, here, r.no_more k)))
            (λ away. omega (arith, off j away, r.no_more j, w.above j b))

        settled-then : (l : ℕ) → l < length links → barred_to links (of_lorries s) l ≡ false → (closed links l ≡ 1 → ⊥)
            → get_or d' (tail links l) 0 ≤ get_or times l 0 + get_or (set p k (get_or d k 0)) (head links l) 0
        settled-then l b on is_open =
            on-equal (head links l) k
            (λ e. rw e (omega (arith, here, r.settled l b (place-open (of_lorries s) links 1 l on is_open ∙ e))))
            (λ away. omega (arith, off (head links l) away, r.no_more (tail links l), w.settled l b on is_open))

    -- The sum of the marks at the last scans does not rise by it, and falls where the node's mark had fallen.
    pub scans-total : total (set p k (get_or d k 0)) + get_or p k 0 ≡ total p + get_or d k 0
    unfolding total
    scans-total = sum-set (λ y. y) p k (get_or d k 0) inside-scans 128 (omega (arith, g.roads.few-nodes))

  -- Where no node's mark has fallen since its last scan, no link that may be used gives its tail less than its mark.
  pub scans-settled : {d p : List ℕ} → Scans nodes links times s d p → ((j : ℕ) → j < nodes → get_or p j 0 ≤ get_or d j 0)
      → (l : ℕ) → l < length links → may_use links s l ≡ true → get_or d (tail links l) 0 ≤ get_or times l 0 + get_or d (head links l) 0
  scans-settled w quiet l h may =
      let on = not-barred links s l may in
      on-equal (closed links l) 1
      (λ shut. omega (arith, w.entered l h on shut (may-closed links s l shut may)))
      (λ is_open. omega (arith, w.settled l h on is_open, quiet (head links l) (omega (arith, g.roads.head-node l h))))
