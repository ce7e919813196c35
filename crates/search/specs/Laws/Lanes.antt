-- Lanes of a table of marks: what a row that is stored does to each lane.
use Rattle.std.specs.Prelude.{ℕ, zero, suc, ◌+◌, ◌≤◌, ◌<◌, min, ◌≡◌, refl, Bool, true, false, List, [], length, get_or, replicate}
use Rattle.std.proofs.Common.{le_refl, arith, sym, ◌∙◌, inl, ⊎_elim, length-set, get_or-set_same, get_or-set_other, ext_get_or, below_more}
use Rattle.std.proofs.Math.Path.{ap}
use Rattle.std.proofs.Math.ListN.{set}
use Rattle.std.proofs.lemmas.List.{length-replicate, get_or-replicate, set-get_or}
use Rattle.theory.specs.Finite.{sum}
use Rattle.theory.specs.Laws.Cases.{on-equal, true-false}
use Rattle.theory.specs.Laws.Finite.{order, below_suc, sum_mono, length-tabulate, get_d_tabulate}
use Rattle.theory.specs.Study.{tail, node_of, of_lorries, no_link}
use Rattle.search.specs.Search.{unreached}
use Rattle.search.specs.Given.{longest, class_of}
use Rattle.search.specs.Chains.{chain_of}
use Rattle.search.specs.Rows.{Worked}
use Rattle.search.specs.Marks.{all_unreached, total, Hands, Entered}
use Rattle.search.specs.Lanes.{lane, all_rows_unreached, totals, Shaped, Marked, RowMarked, EachRelaxed, SomeFallen, EachSearchable, EachSearching, EachHands, EachScanning, EachScanned, EachEntered, EachScans, Rescanned, Swept, SetOut, Found}
use Rattle.search.specs.Laws.Sweep.{relaxed-least, sets-out, scan_begins, scan-at, scan-goes, hands-open, hands-own, scanned-entered, entered-lower, scans-none, scans-more, scans-total, scans-settled}
use Rattle.search.specs.Laws.Found.{search-found}

pub length-lane : (i : ℕ) (table : List (List ℕ)) → length (lane i table) ≡ 128
unfolding lane
length-lane i table = length-tabulate 128 (λ j. get_or (get_or table j []) i 0)

pub lane-at : (i : ℕ) (table : List (List ℕ)) (j : ℕ) → j < 128 → get_or (lane i table) j 0 ≡ get_or (get_or table j []) i 0
unfolding lane
lane-at i table j h = get_d_tabulate 128 (λ j. get_or (get_or table j []) i 0) 0 j h

-- A row that is stored stores one mark in each lane.
pub lane-set : (i : ℕ) (table : List (List ℕ)) (j : ℕ) (row : List ℕ) → length table ≡ 128 → lane i (set table j row) ≡ set (lane i table) j (get_or row i 0)
lane-set i table j row size =
    ext_get_or 0 (lane i (set table j row)) (set (lane i table) j (get_or row i 0))
    (length-lane i (set table j row) ∙ sym (length-set (lane i table) j (get_or row i 0) ∙ length-lane i table))
    (λ a h. at a (omega (arith, length-lane i (set table j row))))
  where
    at : (a : ℕ) → a < 128 → get_or (lane i (set table j row)) a 0 ≡ get_or (set (lane i table) j (get_or row i 0)) a 0
    at a h =
        lane-at i (set table j row) a h
        ∙ on-equal a j
        (λ e. rw e (ap (λ r. get_or r i 0) (get_or-set_same table j row [] (omega arith))
        ∙ sym (get_or-set_same (lane i table) j (get_or row i 0) 0 (omega (arith, length-lane i table)))))
        (λ away. ap (λ r. get_or r i 0) (get_or-set_other table j a row [] away)
        ∙ sym (lane-at i table a h)
        ∙ sym (get_or-set_other (lane i table) j a (get_or row i 0) 0 away))

-- A lane in which all nodes are unreached.
lane-unreached : (i : ℕ) (table : List (List ℕ)) → ((j : ℕ) → j < 128 → get_or (lane i table) j 0 ≡ unreached) → lane i table ≡ all_unreached
unfolding all_unreached
lane-unreached i table each =
    ext_get_or 0 (lane i table) (replicate 128 unreached) (length-lane i table ∙ sym (length-replicate 128 unreached))
    (λ j b. let h : j < 128 = omega (arith, length-lane i table) in each j h ∙ sym (get_or-replicate 128 j unreached 0 h))

unreached-shaped : Shaped all_rows_unreached
unfolding all_rows_unreached
unreached-shaped =
    record {
      size = length-replicate 128 (replicate 8 unreached);
      rows = λ j h. ap length (get_or-replicate 128 j (replicate 8 unreached) [] h) ∙ length-replicate 8 unreached;
    }

all-unreached : (i : ℕ) → i < 8 → (j : ℕ) → j < 128 → get_or (lane i all_rows_unreached) j 0 ≡ unreached
unfolding all_rows_unreached
all-unreached i h j c =
    lane-at i (replicate 128 (replicate 8 unreached)) j c
    ∙ ap (λ r. get_or r i 0) (get_or-replicate 128 j (replicate 8 unreached) [] c)
    ∙ get_or-replicate 8 i unreached 0 h

module _ {table : List (List ℕ)} (shaped : Shaped table) where
  -- A row of eight that is stored keeps the shape.
  pub shaped-set : (j : ℕ) (row : List ℕ) → length row ≡ 8 → Shaped (set table j row)
  shaped-set j row eight =
      record {
        size = length-set table j row ∙ shaped.size;
        rows = λ a h.
            on-equal a j (λ e. rw e (ap length (get_or-set_same table j row [] (omega (arith, shaped.size))) ∙ eight))
            (λ away. ap length (get_or-set_other table j a row [] away) ∙ shaped.rows a h);
      }

  -- A row whose marks are lowered to what a link gives is a link relaxed in each lane.
  pub each-relaxed : {t time : ℕ} {ahead own : List ℕ} → t < 128
      → Worked (λ i v. v ≡ min (get_or ahead i 0 + time) (get_or (get_or table t []) i 0)) (get_or table t []) 8 own
      → EachRelaxed table (set table t own) t ahead time
  each-relaxed {t} {time} {ahead} {own} h w =
      record {
        shaped = shaped-set t own (w.size ∙ shaped.rows t h);
        each = λ i b.
            lane-set i table t own shaped.size
            ∙ relaxed-least (lane i table) t (get_or ahead i 0) time (get_or own i 0) (omega (arith, w.done i b, lane-at i table t h));
      }

-- A mark of a table, by row.
pub row-most : (table : List (List ℕ)) → Marked table → {j : ℕ} → j < 128 → RowMarked (get_or table j [])
row-most table w {j} h i b = omega (arith, w i b j h, lane-at i table j h)

-- What one lane of eight hands on: the mark 0 of a destination.
own_lane : (k : ℕ) → k < 8 → get_or (set (replicate 8 unreached) k 0) k 0 ≡ 0
own_lane k h = get_or-set_same (replicate 8 unreached) k 0 0 (omega (arith, length-replicate 8 unreached))

other-lane : (k i : ℕ) → i < 8 → (i ≡ k → ⊥) → get_or (set (replicate 8 unreached) k 0) i 0 ≡ unreached
other-lane k i b away = get_or-set_other (replicate 8 unreached) k i 0 0 away ∙ get_or-replicate 8 i unreached 0 b

-- A sum of which one term is less, and none is more.
sum_less : (n : ℕ) (f g : ℕ → ℕ) (i : ℕ) → i < n → ((j : ℕ) → j < n → f j ≤ g j) → f i < g i → sum n f + 1 ≤ sum n g
unfolding sum
sum_less zero f g i h most less = absurd (omega arith)
sum_less (suc n) f g i h most less =
    ⊎_elim
    (λ b. omega (arith, sum_less n f g i b (λ j c. most j (omega arith)) less, most n (omega arith)))
    (λ e. omega (arith, sum_mono n f g (λ j c. most j (omega arith)), ap f e, ap g e))
    (below_suc n i h)

module _ {nodes : ℕ} {links : List (List ℕ)} {times group : List ℕ} (g : EachSearchable nodes links times group) where
  -- The chains of the group are those of the class of each destination.
  pub own-chain : (end : ℕ) {chain : List ℕ} → chain ≡ chain_of (class_of group) links end → (i : ℕ) → i < 8
      → chain ≡ chain_of (of_lorries (get_or group i 0)) links end
  own-chain end e i b = e ∙ ap (λ lorries. chain_of lorries links end) (sym (g.one_class i b))

  -- A scan of a place begins with no link relaxed,
  module _ {into : List ℕ} (chain : into ≡ chain_of (class_of group) links 1) {place : ℕ} {ahead : List ℕ} {table₀ : List (List ℕ)} where
    pub each-begins : {l : ℕ} → EachSearching nodes links times group table₀ → EachHands nodes links times group place ahead table₀ → place < 384
        → l ≡ get_or into place 0 → EachScanning nodes links times group place ahead table₀ table₀ l
    each-begins w hands h e = record { shaped = w.shaped; each = λ i b. scan_begins (g.each i b) (own-chain 1 chain i b) (w.each i b) (hands.each i b) h e }

    module _ {table : List (List ℕ)} {l : ℕ} (at : EachScanning nodes links times group place ahead table₀ table l) where
      module _ (some-link : l ≡ no_link → ⊥) {a : ℕ} (a≡ : a ≡ l) where
        -- is at a link of the network, or past the last,
        pub each_at : (a < length links) × (a < 512) × (tail links a < 128) × (get_or times a 0 ≤ longest)
        each_at =
            let b : 0 < 8 = omega arith in
            let (below, tail-node) = scan-at (g.each 0 b) (own-chain 1 chain 0 b) (at.each 0 b) some-link a≡ in
            (below, omega (arith, (g.each 0 b).roads.few-links), tail-node, (g.each 0 b).roads.short-time a below)

        -- and goes on to a higher one.
        pub each_goes : {t : ℕ} {table' : List (List ℕ)} {l' : ℕ} → t ≡ tail links a → EachRelaxed table table' t ahead (get_or times a 0)
            → l' ≡ get_or into (384 + a) 0 → (l < l') × EachScanning nodes links times group place ahead table₀ table' l'
        each_goes t≡ r l≡ =
            let b : 0 < 8 = omega arith in (
              (scan-goes (g.each 0 b) (own-chain 1 chain 0 b) (at.each 0 b) some-link a≡ t≡ (r.each 0 b) l≡).0,
              record {
                shaped = r.shaped;
                each = λ i b. (scan-goes (g.each i b) (own-chain 1 chain i b) (at.each i b) some-link a≡ t≡ (r.each i b) l≡).1;
              },
            )

  -- An open node hands on its marks,
  pub each-hands : {table : List (List ℕ)} {k : ℕ} → k < nodes → EachHands nodes links times group k (get_or table k []) table
  each-hands {table} {k} h =
      record { each = λ i b. hands-open (g.each i b) h (sym (lane-at i table k (omega (arith, (g.each i b).roads.few-nodes)))) }

  -- and the links into a closed destination of the group hand on its own.
  module _ {k : ℕ} (h : k < 8) {table : List (List ℕ)} (w : EachEntered nodes links times group k table) where
    pub enter-hands : {s : ℕ} {ahead : List ℕ} → s ≡ node_of (get_or group k 0) → ahead ≡ set (replicate 8 unreached) k 0
        → EachHands nodes links times group (128 + s) ahead table
    enter-hands {s} {ahead} s≡ ahead≡ =
        record {
          each = λ i b. on-equal i k (own i b) (λ away. record { on = inl (rw ahead≡ (other-lane k i b away)) });
        }
      where
        own : (i : ℕ) → (b : i < 8) → i ≡ k → Hands nodes links times (get_or group i 0) (128 + s) (get_or ahead i 0) (lane i table)
        own i b e =
            let mark : get_or ahead i 0 ≡ 0 = rw (ahead≡, e) (own_lane k h) in
            let place : 128 + s ≡ 128 + node_of (get_or group i 0) = rw (s≡, e) in
            rw (mark, place) (hands-own (g.each i b) (w.searching.each i b))

    pub enter-more : {s : ℕ} {ahead : List ℕ} {table' : List (List ℕ)} → s ≡ node_of (get_or group k 0) → ahead ≡ set (replicate 8 unreached) k 0
        → EachScanned nodes links times group (128 + s) ahead table table' → EachEntered nodes links times group (k + 1) table'
    enter-more {s} {ahead} {table'} s≡ ahead≡ r =
        record {
          searching = record { shaped = r.shaped; each = λ i b. (r.each i b).searching };
          entered = λ i c b.
              on-equal i k (λ e. here i b e)
              (λ away. entered-lower (g.each i b) (lane i table) (lane i table') (w.entered i (omega (arith, away)) b) (r.each i b).no_more);
        }
      where
        here : (i : ℕ) → (b : i < 8) → i ≡ k → Entered nodes links times (get_or group i 0) (lane i table')
        here i b e =
            let mark : get_or ahead i 0 ≡ 0 = rw (ahead≡, e) (own_lane k h) in
            let place : 128 + s ≡ 128 + node_of (get_or group i 0) = rw (s≡, e) in
            scanned-entered (g.each i b) (rw (mark, place) at (r.each i b))

  module _ {table scanned : List (List ℕ)} (w : EachScans nodes links times group table scanned) where
    pub each-searching : EachSearching nodes links times group table
    each-searching = record { shaped = w.shaped; each = λ i h. (w.each i h).searching }

    -- No mark is above what it was at its node's last scan.
    pub above_at : {k : ℕ} → k < 128 → (i : ℕ) → i < 8 → get_or (get_or table k []) i 0 ≤ get_or (get_or scanned k []) i 0
    above_at {k} h i b = omega (arith, (w.each i b).above k h, lane-at i table k h, lane-at i scanned k h)

    -- A scan of a node of which some marks have fallen since its last scan.
    module _ {k : ℕ} (h : k < 128) where
      pub rescans : SomeFallen (get_or table k []) (get_or scanned k []) → k < nodes → {table' : List (List ℕ)} → EachScanned nodes links times group k (get_or table k []) table table'
          → Rescanned nodes links times group scanned table' (set scanned k (get_or table k []))
      unfolding totals
      rescans (i, b, less) inside {table'} r =
          record {
            scans = record {
              shaped = r.shaped;
              shaped-scans = shaped-set w.shaped-scans k (get_or table k []) (w.shaped.rows k h);
              each = λ i b. rw (stored i) (scans-more (g.each i b) (w.each i b) inside (rw (← lane-at i table k h) at (r.each i b)));
            };
            falls = fewer;
          }
        where
          stored : (i : ℕ) → lane i (set scanned k (get_or table k [])) ≡ set (lane i scanned) k (get_or (lane i table) k 0)
          stored i = lane-set i scanned k (get_or table k []) w.shaped-scans.size ∙ ap (set (lane i scanned) k) (sym (lane-at i table k h))

          of-lane : (i : ℕ) → i < 8
              → total (lane i (set scanned k (get_or table k []))) + get_or (lane i scanned) k 0 ≡ total (lane i scanned) + get_or (lane i table) k 0
          of-lane i b = rw (stored i) (scans-total (g.each i b) (w.each i b) inside)

          fewer : totals (set scanned k (get_or table k [])) < totals scanned
          fewer =
              omega (
                arith,
                sum_less 8 (λ i. total (lane i (set scanned k (get_or table k [])))) (λ i. total (lane i scanned)) i b
                    (λ a c. omega (arith, of-lane a c, (w.each a c).above k h))
                    (omega (arith, of-lane i b, lane-at i table k h, lane-at i scanned k h)),
              )

  module _ {k most : ℕ} {r : Bool} {table scanned : List (List ℕ)} (w : Swept nodes links times group k most table scanned r) where
    -- A sweep scans the next node,
    pub sweep-scans : {table' scanned' : List (List ℕ)} → Rescanned nodes links times group scanned table' scanned'
        → Swept nodes links times group (k + 1) most table' scanned' true
    sweep-scans v =
        record {
          scans = v.scans;
          no_more = omega (arith, w.no_more, v.falls);
          falls = λ e. omega (arith, w.no_more, v.falls);
          quiet = λ e. true-false refl e;
        }

    -- or leaves it out, where no mark of it has fallen.
    pub sweep-skips : k < 128 → (SomeFallen (get_or table k []) (get_or scanned k []) → ⊥) → Swept nodes links times group (k + 1) most table scanned r
    sweep-skips h none-fallen =
        record {
          scans = w.scans;
          no_more = w.no_more;
          falls = w.falls;
          quiet = λ e i b.
              below_more _ k (w.quiet e i b)
              (⊎_elim (λ less. absurd (none-fallen (i, b, less))) (λ most. omega (arith, lane-at i table k h, lane-at i scanned k h))
              (order (get_or (get_or table k []) i 0) (get_or (get_or scanned k []) i 0)));
        }

  -- The searches set out with each destination marked,
  pub set-none : SetOut group 0 all_rows_unreached
  set-none =
      record {
        shaped = unreached-shaped;
        marked = λ i h. absurd (omega arith);
        rest = λ i h b. lane-unreached i all_rows_unreached (λ j c. all-unreached i b j c);
      }

  pub set_more : {k s : ℕ} {table : List (List ℕ)} → k < 8 → s ≡ node_of (get_or group k 0) → SetOut group k table
      → SetOut group (k + 1) (set table s (set (get_or table s []) k 0))
  set_more {k} {s} {table} h s≡ w =
      record {
        shaped = shaped-set w.shaped s (set (get_or table s []) k 0) (length-set (get_or table s []) k 0 ∙ w.shaped.rows s node);
        marked = λ i b. on-equal i k (λ e. rw e here) (λ away. off i away ∙ w.marked i (omega (arith, away)));
        rest = λ i b c. off i (λ e. omega arith) ∙ w.rest i (omega arith) c;
      }
    where
      node : s < 128
      node = omega (arith, (g.each k h).destination-node, (g.each k h).roads.few-nodes)

      stored : (i : ℕ) → lane i (set table s (set (get_or table s []) k 0)) ≡ set (lane i table) s (get_or (set (get_or table s []) k 0) i 0)
      stored i = lane-set i table s (set (get_or table s []) k 0) w.shaped.size

      here : lane k (set table s (set (get_or table s []) k 0)) ≡ set all_unreached (node_of (get_or group k 0)) 0
      here =
          stored k
          ∙ ap (set (lane k table) s) (get_or-set_same (get_or table s []) k 0 0 (omega (arith, w.shaped.rows s node)))
          ∙ rw (w.rest k (le_refl k) h, s≡) refl

      off : (i : ℕ) → (i ≡ k → ⊥) → lane i (set table s (set (get_or table s []) k 0)) ≡ lane i table
      off i away =
          stored i
          ∙ ap (set (lane i table) s) (get_or-set_other (get_or table s []) k i 0 0 away ∙ sym (lane-at i table s node))
          ∙ set-get_or (lane i table) s 0

  pub set_all : {table : List (List ℕ)} → SetOut group 8 table → EachEntered nodes links times group 0 table
  set_all w =
      record {
        searching = record { shaped = w.shaped; each = λ i h. rw (w.marked i h) (sets-out (g.each i h)) };
        entered = λ i c b. absurd (omega arith);
      }

  -- and none scanned.
  pub enter-all : {table : List (List ℕ)} → EachEntered nodes links times group 8 table → EachScans nodes links times group table all_rows_unreached
  enter-all w =
      record {
        shaped = w.searching.shaped;
        shaped-scans = unreached-shaped;
        each = λ i h.
            scans-none (g.each i h) (w.searching.each i h) (w.entered i h h) (length-lane i all_rows_unreached)
            (λ j b. omega (arith, all-unreached i h j b));
      }

  -- After a sweep that scans no node the marks are the distances.
  pub sweep-found : {table scanned : List (List ℕ)} {most : ℕ} → Swept nodes links times group nodes most table scanned false
      → Found nodes links times group table
  sweep-found w =
      record {
        least = λ i h. search-found (g.each i h) (w.scans.each i h).searching (scans-settled (g.each i h) (w.scans.each i h) (w.quiet refl i h));
        marked = λ i h. (w.scans.each i h).searching.marked;
      }
