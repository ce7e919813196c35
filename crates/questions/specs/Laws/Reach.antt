-- How rows are marked from the links, what a search over them keeps and finds, and how it answers question 11.
use Prim.Native.Nat.{ℕ, ◌+◌, ◌-◌, ◌*◌, ◌/◌, ◌%◌, ◌^◌, ◌≤◌, ◌<◌}
use Rattle.std.proofs.Common.{mul-le-mul_right, ◌∙◌, length-take, length-drop, length-set}
use native.Mathlib.Omega.{arith}
use Rattle.std.specs.Prelude.{Bool, ◌||◌, ◌&&◌, ◌⊎◌, ◌≡◌, eqb, length, take, drop, set, replicate}
use Rattle.std.proofs.Math.Bool.{true, false, or-true, or-false}
use mathlib.Core.List.{List, [], ◌∷◌}
use Rattle.std.proofs.Math.Logic.{inl, inr, ⊎_elim}
use Rattle.std.proofs.Math.Path.{refl, sym, ap}
use Rattle.std.specs.Int.Bits.{bit_or, or_zero_r}
use Rattle.std.proofs.Math.ListN.{get_or, get_or-eq_default}
use Rattle.std.proofs.lemmas.List.{get_or-replicate, length-replicate}
use Rattle.std.proofs.Math.Seq.{get_or-take, get_or-drop, get_or-set_same, get_or-set_other}
use borrow.Author.Tests.{eq-eqb, ne_eqb, eqb-true, lt-ltb, le-ltb}
use Rattle.study.specs.Fields.{mark_byte}
use Rattle.theory.specs.Finite.{all, tabulate}
use Rattle.theory.specs.Marks.{marked, only_node, nodes_below, union, common, lowest_unvisited}
use Rattle.theory.specs.Study.{tail, head, closed, node_of, of_lorries, barred_to, may_use, network}
use Rattle.theory.specs.Laws.Cases.{either, on-equal, on_test, true-false}
use Rattle.theory.specs.Laws.Finite.{order, below_suc, all-cong, all-intro, all-refuted, and_left, and_right, get_d_tabulate, tabulate-cong}
use Rattle.theory.specs.Laws.Marks.{marked-none, marked-only, marked-own, marked-below, marked-union, union_left, union_right, union-either, common-both, next-unvisited, none-unvisited}
use Rattle.theory.specs.Laws.Paths.{WellFormed}
use Rattle.theory.specs.Laws.Permission.{not-barred, may-open, may-own, may-closed}
use Rattle.theory.specs.Laws.Reach.{Reaches, marked-has-distance}
use Rattle.calls.specs.Questions.{has_path, trips_reach}
use Rattle.questions.specs.Reach.{toward, to_destination, PathTo, AllOpen, marked_test, all_marked, row, row_place, row_of, Room, NoMarks, Marks, Tails, tails_into, IsWalk, WalkTo, Closure, Rows, Grown, Searching, row_at, whole_row, all_reached, next_node, Filled, Reaching, Reached, Passed}
use Rattle.calls.specs.Study.{as_mark}
use Rattle.questions.specs.Sized.{ClosedHeads}
use Rattle.questions.specs.Laws.Questions.{Ends}

-- Where there are no closed bytes every head is open.
pub none-closed : (links : List (List ℕ)) (closed_bytes : List ℕ) → ClosedHeads links closed_bytes → length closed_bytes ≡ 0 → AllOpen links
unfolding mark_byte
none-closed links closed_bytes heads none l below shut =
    let past = get_or-eq_default closed_bytes 0 {n = head links l} (omega arith) in
    let is_open : closed links l ≡ 0 = heads l below ∙ ap as_mark past in
    omega arith

-- A row past the last marks no node.
row-past : (rows : List (List ℕ)) (i : ℕ) → length rows ≤ i → row rows i ≡ []
row-past rows i h = get_or-eq_default rows [] h

past-none : (j : ℕ) → marked [] j ≡ false
unfolding marked
past-none j = marked-none j

-- No node is marked at the outset.
pub none-at-first : (size : ℕ) → NoMarks (replicate size (0 ∷ 0 ∷ []))
none-at-first size =
    record {
      pairs = λ i h. rw (get_or-replicate {A = List ℕ} size i (0 ∷ 0 ∷ []) [] (rw length-replicate at h));
      none = λ i j. ⊎_elim
          (λ h. rw (get_or-replicate {A = List ℕ} size i (0 ∷ 0 ∷ []) [] h) (marked-none j))
          (λ h. rw (row-past (replicate size (0 ∷ 0 ∷ [])) i (rw length-replicate h)) (past-none j))
          (order i size);
    }

-- There is room for the rows in any larger number.
pub room-more : {nodes : ℕ} {all_open : Bool} {count size : ℕ} → Room nodes all_open count → count ≤ size → Room nodes all_open size
room-more room h = record { rows-open = omega (arith, room.rows-open); rows-closed = λ not-open. omega (arith, room.rows-closed not-open) }

-- The two words of a set say which nodes it marks.
same-words : (a b : List ℕ) → get_or a 0 0 ≡ get_or b 0 0 → get_or a 1 0 ≡ get_or b 1 0 → (j : ℕ) → marked a j ≡ marked b j
unfolding marked
same-words a b low high j = rw (low, high)

-- A bit more in one word of a row marks one node more,
module _ (marks : List ℕ) (j : ℕ) where
  abbrev pub with_bit : List ℕ
  with_bit = set marks (j / 64) (bit_or (get_or marks (j / 64) 0) (2 ^ (j % 64)))

  bit-marked : length marks ≡ 2 → j < 128 → (b : ℕ) → marked with_bit b ≡ (marked marks b || eqb j b)
  unfolding union only_node
  bit-marked two here b = ⊎_elim low_word high_word (order j 64) ∙ marked-union marks (only_node j) b ∙ ap (λ other. marked marks b || other) (marked-only j b)
    where
      low_word : j < 64 → marked with_bit b ≡ marked (union marks (only_node j)) b
      low_word low =
          let word : j / 64 ≡ 0 = omega arith in
          let place : j % 64 ≡ j = omega arith in
          let new : ℕ = bit_or (get_or marks 0 0) (2 ^ j) in
          let this : get_or (set marks 0 new) 0 0 ≡ new = get_or-set_same marks 0 new 0 (omega arith) in
          let that : get_or (set marks 0 new) 1 0 ≡ get_or marks 1 0 = get_or-set_other marks 0 1 new 0 (λ e. absurd (omega arith)) in
          rw (lt-ltb j 64 low, word, place) (same-words (set marks 0 new) (new ∷ bit_or (get_or marks 1 0) 0 ∷ []) this (that ∙ sym (or_zero_r (get_or marks 1 0))) b)

      high_word : 64 ≤ j → marked with_bit b ≡ marked (union marks (only_node j)) b
      high_word high =
          let word : j / 64 ≡ 1 = omega arith in
          let place : j % 64 ≡ j - 64 = omega arith in
          let new : ℕ = bit_or (get_or marks 1 0) (2 ^ (j - 64)) in
          let this : get_or (set marks 1 new) 1 0 ≡ new = get_or-set_same marks 1 new 0 (omega arith) in
          let that : get_or (set marks 1 new) 0 0 ≡ get_or marks 0 0 = get_or-set_other marks 1 0 new 0 (λ e. absurd (omega arith)) in
          rw (le-ltb j 64 high, word, place) (same-words (set marks 1 new) (bit_or (get_or marks 0 0) 0 ∷ new ∷ []) (that ∙ sym (or_zero_r (get_or marks 0 0))) this b)

-- and so in the rows.
pub set-marks : (rows : List (List ℕ)) (i j : ℕ) → ((a : ℕ) → a < length rows → length (row rows a) ≡ 2) → i < length rows → j < 128 → Marks i j rows (set rows i (with_bit (row rows i) j))
set-marks rows i j pairs there here =
    record {
      size = length-set rows i (with_bit (row rows i) j);
      pairs = λ a h. on-equal a i
          (λ e. rw (e, get_or-set_same rows i (with_bit (row rows i) j) [] there) (length-set (row rows i) (j / 64) _ ∙ pairs i there))
          (λ n. rw (get_or-set_other rows i a (with_bit (row rows i) j) [] n) (pairs a (rw length-set at h)));
      marks = λ a b. on-equal a i
          (λ e. rw (e, get_or-set_same rows i (with_bit (row rows i) j) [] there, eq-eqb i i refl) (bit-marked (row rows i) j (pairs i there) here b))
          (λ n. rw (get_or-set_other rows i a (with_bit (row rows i) j) [] n, ne_eqb i a (λ e. n (sym e)), or-false));
    }

-- The tails marked by no links,
module _ {nodes : ℕ} {links : List (List ℕ)} {lorries : Bool} {rows : List (List ℕ)} where
  pub tails-none : NoMarks rows → Tails nodes links lorries 0 rows
  tails-none none =
      record {
        pairs = none.pairs;
        all = λ k h on. absurd (omega arith);
        only = λ i j e. true-false e (none.none i j);
      }

  -- by one link more that the class is barred from,
  pub tails-barred : {l : ℕ} → Tails nodes links lorries l rows → barred_to links lorries l ≡ true → Tails nodes links lorries (l + 1) rows
  tails-barred {l} tails off =
      record {
        pairs = tails.pairs;
        all = λ k h on. ⊎_elim
            (λ p. tails.all k p on)
            (λ e. true-false off (rw e at on))
            (below_suc l k (omega arith));
        only = λ i j e. let (k, h, on, at_tail, place) = tails.only i j e in (k, omega arith, on, at_tail, place);
      }

  -- and by one that it is not barred from.
  pub tails-more : {l : ℕ} {after : List (List ℕ)} → Tails nodes links lorries l rows → barred_to links lorries l ≡ false → Marks (row_of nodes links l) (tail links l) rows after → Tails nodes links lorries (l + 1) after
  tails-more {l} tails here marks =
      record {
        pairs = marks.pairs;
        all = λ k h on. ⊎_elim
            (λ p. marks.marks (row_of nodes links k) (tail links k) ∙ rw (tails.all k p on))
            (λ e. rw e (marks.marks (row_of nodes links l) (tail links l) ∙ rw (eq-eqb (row_of nodes links l) (row_of nodes links l) refl, eq-eqb (tail links l) (tail links l) refl, or-true)))
            (below_suc l k (omega arith));
        only = λ i j e. ⊎_elim
            (λ f. let (k, h, on, at_tail, place) = tails.only i j f in (k, omega arith, on, at_tail, place))
            (λ f. (l, omega arith, here, eqb-true _ _ (and_right (eqb (row_of nodes links l) i) (eqb (tail links l) j) f), eqb-true _ _ (and_left (eqb (row_of nodes links l) i) (eqb (tail links l) j) f)))
            (either (marked (row rows i) j) (eqb (row_of nodes links l) i && eqb (tail links l) j) (sym (marks.marks i j) ∙ e));
      }

-- A link's row is there, and tells whether its head is closed.
module _ {nodes : ℕ} {links : List (List ℕ)} (ends : Ends nodes links) (k : ℕ) (below : k < length links) where
  pub row-there : (all_open : Bool) (count : ℕ) → (all_open ≡ true → AllOpen links) → Room nodes all_open count → row_of nodes links k < count
  unfolding row_place
  row-there all_open count all-open room =
      let node = ends.head-node k below in
      on-equal (closed links k) 1
      (λ shut. rw (eq-eqb (closed links k) 1 shut) (on_test all_open
      (λ is_open. absurd (all-open is_open k below shut))
      (λ not-open. omega (arith, room.rows-closed not-open))))
      (λ free. rw (ne_eqb (closed links k) 1 free) (omega (arith, room.rows-open)))

  row_open : (s : ℕ) → s < nodes → row_of nodes links k ≡ s → (closed links k ≡ 1 → ⊥) × (head links k ≡ s)
  unfolding row_place
  row_open s here place =
      on-equal (closed links k) 1
      (λ shut. let at : nodes + head links k ≡ s = rw (eq-eqb (closed links k) 1 shut) at place in absurd (omega arith))
      (λ free. (free, rw (ne_eqb (closed links k) 1 free) at place))

  row-closed : (s : ℕ) → row_of nodes links k ≡ nodes + s → head links k ≡ s
  unfolding row_place
  row-closed s place =
      on-equal (closed links k) 1
      (λ shut. let at : nodes + head links k ≡ nodes + s = rw (eq-eqb (closed links k) 1 shut) at place in omega arith)
      (λ free. let at : head links k ≡ nodes + s = rw (ne_eqb (closed links k) 1 free) at place in let node = ends.head-node k below in absurd (omega arith))

-- The rows that the links have marked can be searched: none is whole yet.
module _ {nodes : ℕ} {links : List (List ℕ)} {lorries : Bool} {rows : List (List ℕ)} (ends : Ends nodes links) (tails : Tails nodes links lorries (length links) rows) where
  pub rows-first : nodes ≤ 128 → nodes ≤ length rows → Rows nodes (0 ∷ 0 ∷ []) rows
  rows-first few enough =
      record {
        few = few;
        enough = enough;
        below = λ i j e. let (k, h, on, at_tail, place) = tails.only i j e in rw (← at_tail) (ends.tail-node k h);
        closure = λ i e. true-false e (marked-none i);
      }

pub tails-below : {nodes : ℕ} {whole : List ℕ} {rows : List (List ℕ)} → Rows nodes whole rows → (all_open : Bool) (s j : ℕ) → marked (tails_into nodes all_open rows s) j ≡ true → j < nodes
unfolding tails_into
tails-below {nodes} {rows = rows} r all_open s j e = on_test all_open
    (λ is_open. r.below s j (rw is_open at e))
    (λ not-open. ⊎_elim (r.below s j) (r.below (nodes + s) j) (union-either (row rows s) (row rows (nodes + s)) j (rw not-open at e)))

-- Two walks make one,
walk-join : (rows : List (List ℕ)) (s i j : ℕ) (walk : List ℕ) → IsWalk rows i j walk → WalkTo rows s i → WalkTo rows s j
walk-join rows s i j [] e rest = rw e rest
walk-join rows s i j (h ∷ walk) p rest = let (more, q) = walk-join rows s i h walk p.1 rest in (h ∷ more, (p.0, q))

-- and a mark is a walk of one step.
walk-one : (rows : List (List ℕ)) (i j : ℕ) → marked (row rows i) j ≡ true → WalkTo rows i j
walk-one rows i j e = (i ∷ [], (e, refl))

walk-below : {nodes : ℕ} {whole : List ℕ} {rows : List (List ℕ)} → Rows nodes whole rows → (s j : ℕ) → s < nodes → WalkTo rows s j → j < nodes
walk-below r s j here ([], e) = rw e here
walk-below r s j here (i ∷ walk, p) = r.below i j p.0

-- A set that lacks no node of its rows lacks none with a walk to it.
onward-walk : {rows : List (List ℕ)} {s : ℕ} {found : List ℕ} → Closure rows s found → (a h : ℕ) → marked found a ≡ true → (walk : List ℕ) → IsWalk rows a h walk → marked found h ≡ true
onward-walk c a h e [] p = rw p e
onward-walk c a h e (b ∷ walk) p = c.onward b h (onward-walk c a b e walk p.1) p.0

pub grown-none : {rows : List (List ℕ)} → Grown rows rows
grown-none = record { size = refl; keeps = λ i j e. e; walks = λ i j e. walk-one _ i j e }

-- What was grown has the walks that there were,
walk-back : {before after : List (List ℕ)} → Grown before after → (s j : ℕ) (walk : List ℕ) → IsWalk after s j walk → WalkTo before s j
walk-back grown s j [] e = ([], e)
walk-back {before} grown s j (i ∷ walk) p =
    let (first, q) = grown.walks i j p.0 in
    walk-join before s i j first q (walk-back grown s i walk p.1)

pub grown-next : {a b c : List (List ℕ)} → Grown a b → Grown b c → Grown a c
grown-next g h =
    record {
      size = h.size ∙ g.size;
      keeps = λ i j e. h.keeps i j (g.keeps i j e);
      walks = λ i j e. let (walk, p) = h.walks i j e in walk-back g i j walk p;
    }

-- so what is found over it was to be found before.
closure-back : {before after : List (List ℕ)} {s : ℕ} {found : List ℕ} → Grown before after → Closure after s found → Closure before s found
closure-back {s = s} grown c =
    record {
      mine = c.mine;
      onward = λ i j e f. c.onward i j e (grown.keeps i j f);
      walks = λ j e. let (walk, p) = c.walks j e in walk-back grown s j walk p;
    }

-- Where all nodes are reached none is missing.
all_there : (nodes : ℕ) (reached : List ℕ) → nodes ≤ 128 → all_reached nodes reached ≡ true → (j : ℕ) → j < nodes → marked reached j ≡ true
unfolding all_reached
all_there nodes reached few full j h = none-unvisited (nodes_below nodes) reached _ refl (eqb-true _ _ full) j (omega arith) (marked-below nodes j ∙ lt-ltb j nodes h)

-- A search to s sets out with s and the nodes of its row reached, and s visited,
pub searching-first : (rows : List (List ℕ)) (s : ℕ) → Searching rows s (union (only_node s) (row rows s)) (only_node s)
searching-first rows s =
    record {
      mine = union_left (only_node s) (row rows s) s (marked-own s);
      walks = λ j e. ⊎_elim
          (λ f. ([], sym (eqb-true s j (sym (marked-only s j) ∙ f))))
          (λ f. walk-one _ s j f)
          (union-either (only_node s) (row rows s) j e);
      seen = λ i j e f. let same : s ≡ i = eqb-true s i (sym (marked-only s i) ∙ e) in union_right (only_node s) (row rows s) j (rw same f);
    }

module _ {nodes s : ℕ} {whole : List ℕ} {rows : List (List ℕ)} {reached visited : List ℕ} (r : Rows nodes whole rows) (here : s < nodes) (searching : Searching rows s reached visited) where
  pub searching-below : (j : ℕ) → marked reached j ≡ true → j < nodes
  searching-below j e = walk-below r s j here (searching.walks j e)

  -- goes on with each visit,
  pub searching-visit : (j : ℕ) → marked reached j ≡ true → Searching rows s (union reached (row rows j)) (union visited (only_node j))
  searching-visit j e =
      record {
        mine = union_left reached (row rows j) s searching.mine;
        walks = λ i f. ⊎_elim (searching.walks i)
            (λ g. let (walk, p) = searching.walks j e in (j ∷ walk, (g, p)))
            (union-either reached (row rows j) i f);
        seen = λ a b f g. ⊎_elim
            (λ h. union_left reached (row rows j) b (searching.seen a b h g))
            (λ h. let same : j ≡ a = eqb-true j a (sym (marked-only j a) ∙ h) in union_right reached (row rows j) b (rw same g))
            (union-either visited (only_node j) a f);
      }

  -- takes over what a whole row has,
  pub searching-whole : Searching rows s (union reached (whole_row rows whole reached visited)) (union visited (whole_row rows whole reached visited))
  unfolding whole_row row_at
  searching-whole = on-equal next 128
      (λ e. rw (eq-eqb next 128 e) nothing)
      (λ n. let (below, both-marked, new) = next-unvisited (common reached whole) visited next refl n in
      let (is-reached, is_whole) = common-both reached whole next both-marked in
      rw (ne_eqb next 128 n) (taken next is-reached (r.closure next is_whole)))
    where
      next : ℕ
      next = lowest_unvisited (common reached whole) visited

      nothing : Searching rows s (union reached (0 ∷ 0 ∷ [])) (union visited (0 ∷ 0 ∷ []))
      nothing =
          record {
            mine = union_left reached (0 ∷ 0 ∷ []) s searching.mine;
            walks = λ j e. ⊎_elim (searching.walks j) (λ f. true-false f (marked-none j)) (union-either reached (0 ∷ 0 ∷ []) j e);
            seen = λ i j e f. union_left reached (0 ∷ 0 ∷ []) j (⊎_elim (λ g. searching.seen i j g f) (λ g. true-false g (marked-none i)) (union-either visited (0 ∷ 0 ∷ []) i e));
          }

      taken : (t : ℕ) → marked reached t ≡ true → Closure rows t (row rows t) → Searching rows s (union reached (row rows t)) (union visited (row rows t))
      taken t e c =
          record {
            mine = union_left reached (row rows t) s searching.mine;
            walks = λ j f. ⊎_elim (searching.walks j)
                (λ g. let (walk, p) = searching.walks t e in (t ∷ walk, (g, p)))
                (union-either reached (row rows t) j f);
            seen = λ a b f g. ⊎_elim
                (λ h. union_left reached (row rows t) b (searching.seen a b h g))
                (λ h. union_right reached (row rows t) b (c.onward a b h g))
                (union-either visited (row rows t) a f);
          }

  -- and ends where no node is reached and unvisited, or all are reached.
  pub searching-last : (j : ℕ) → j ≡ next_node nodes reached visited → j ≡ 128 → Closure rows s reached
  unfolding next_node all_reached
  searching-last j e last =
      on_test (eqb (lowest_unvisited (nodes_below nodes) reached) 128)
      (λ full. ended (λ i h node f. all_there nodes reached r.few full h (r.below i h f)))
      (λ left. let none_left = none-unvisited reached visited j (e ∙ rw left) last in
      ended (λ i h node f. searching.seen i h (none_left i (let p = searching-below i node in omega (arith, r.few)) node) f))
    where
      ended : ((i h : ℕ) → marked reached i ≡ true → marked (row rows i) h ≡ true → marked reached h ≡ true) → Closure rows s reached
      ended onward = record { mine = searching.mine; onward = onward; walks = searching.walks }

-- The next node of a search is reached and unvisited.
pub next-reached : (nodes : ℕ) (reached visited : List ℕ) (j : ℕ) → j ≡ next_node nodes reached visited → (j ≡ 128 → ⊥) → (j < 128) × (marked reached j ≡ true) × (marked visited j ≡ false)
unfolding next_node
next-reached nodes reached visited j e some-node =
    on_test (all_reached nodes reached)
    (λ full. absurd (some-node (e ∙ rw full)))
    (λ left. next-unvisited reached visited j (e ∙ rw left) some-node)

-- A row that is whole has what a search would find,
pub filled-before : {nodes : ℕ} {whole : List ℕ} {rows : List (List ℕ)} → Rows nodes whole rows → (j : ℕ) → marked whole j ≡ true → Filled nodes j rows whole rows (row rows j)
filled-before r j e = record { grown = grown-none; rows = r; closure = r.closure j e }

-- and what a search found makes it whole.
module _ {nodes j : ℕ} {whole : List ℕ} {rows : List (List ℕ)} (r : Rows nodes whole rows) (here : j < nodes) (found : List ℕ) (closure : Closure rows j found) where
  abbrev after : List (List ℕ)
  after = set rows j found

  this-row : row after j ≡ found
  this-row = get_or-set_same rows j found [] (omega (arith, r.enough))

  other_row : (i : ℕ) → (i ≡ j → ⊥) → row after i ≡ row rows i
  other_row i n = get_or-set_other rows j i found [] n

  after-grown : Grown rows after
  after-grown =
      record {
        size = length-set rows j found;
        keeps = λ i a e. on-equal i j
            (λ same. rw (same, this-row) (closure.onward j a closure.mine (rw same at e)))
            (λ n. rw (other_row i n) e);
        walks = λ i a e. on-equal i j
            (λ same. rw same (closure.walks a (rw (same, this-row) at e)))
            (λ n. walk-one _ i a (rw (other_row i n) at e));
      }

  -- What had been found before is still all that there is to find.
  after-closure : (i : ℕ) (set : List ℕ) → Closure rows i set → Closure after i set
  after-closure i set c =
      record {
        mine = c.mine;
        onward = λ a h e f. let (walk, p) = after-grown.walks a h f in onward-walk c a h e walk p;
        walks = λ a e. let (walk, p) = c.walks a e in kept-walk i a walk p;
      }
    where
      kept-walk : (s a : ℕ) (walk : List ℕ) → IsWalk rows s a walk → WalkTo after s a
      kept-walk s a [] e = ([], e)
      kept-walk s a (b ∷ walk) p = let (more, q) = kept-walk s b walk p.1 in (b ∷ more, (after-grown.keeps b a p.0, q))

  pub filled-now : Filled nodes j rows (union whole (only_node j)) after found
  filled-now =
      record {
        grown = after-grown;
        rows = record {
          few = r.few;
          enough = omega (arith, r.enough, length-set rows j found);
          below = λ i a e. on-equal i j
              (λ same. walk-below r j a here (closure.walks a (rw (same, this-row) at e)))
              (λ n. r.below i a (rw (other_row i n) at e));
          closure = λ i e. on-equal i j
              (λ same. rw (same, this-row) (after-closure j found closure))
              (λ n. rw (other_row i n) (after-closure i (row rows i) (r.closure i (still i n e))));
        };
        closure = closure;
      }
    where
      still : (i : ℕ) → (i ≡ j → ⊥) → marked (union whole (only_node j)) i ≡ true → marked whole i ≡ true
      still i n e = ⊎_elim (λ f. f) (λ f. absurd (n (sym (eqb-true j i (sym (marked-only j i) ∙ f))))) (union-either whole (only_node j) i e)

-- A search to s is at its end where s and the tails are all nodes that there are.
pub reached-tails : {nodes s : ℕ} {whole tails : List ℕ} {rows : List (List ℕ)} → Rows nodes whole rows → all_reached nodes (union (only_node s) tails) ≡ true → Reached nodes s tails rows whole rows (union (only_node s) tails)
reached-tails {nodes} {s} {tails = tails} r full =
    record {
      grown = grown-none;
      rows = r;
      reaching = record {
        mine = union_left (only_node s) tails s (marked-own s);
        onward = λ i j e n f. all_there nodes (union (only_node s) tails) r.few full j (r.below i j f);
        walks = λ j e n. ⊎_elim
            (λ f. absurd (n (sym (eqb-true s j (sym (marked-only s j) ∙ f)))))
            (λ f. (j, f, ([], refl)))
            (union-either (only_node s) tails j e);
      };
      tails-reached = λ j e. union_right (only_node s) tails j e;
    }

-- Else it sets out from s,
module _ {rows : List (List ℕ)} {s : ℕ} {tails : List ℕ} where
  pub reaching-first : Reaching rows s tails (only_node s)
  reaching-first =
      record {
        mine = marked-own s;
        onward = λ i j e n. absurd (n (only-s i e));
        walks = λ j e n. absurd (n (only-s j e));
      }
    where
      only-s : (i : ℕ) → marked (only_node s) i ≡ true → i ≡ s
      only-s i e = sym (eqb-true s i (sym (marked-only s i) ∙ e))

  -- and goes on with all that a tail is reached from.
  pub reaching-next : {middle : List (List ℕ)} {reached found : List ℕ} → Grown rows middle → Reaching rows s tails reached → (t : ℕ) → marked tails t ≡ true → Closure middle t found → Reaching rows s tails (union reached found)
  reaching-next {middle} {reached} {found} grown reaching t e found-there =
      let c = closure-back grown found-there in
      record {
        mine = union_left reached found s reaching.mine;
        onward = λ i j f n g. ⊎_elim
            (λ h. union_left reached found j (reaching.onward i j h n g))
            (λ h. union_right reached found j (c.onward i j h g))
            (union-either reached found i f);
        walks = λ j f n. ⊎_elim (λ h. reaching.walks j h n) (λ h. (t, e, c.walks j h)) (union-either reached found j f);
      }

-- The test of trips sets out with the reached nodes,
module _ {trips reached : List ℕ} where
  pub passed_first : Passed trips reached reached
  unfolding marked_test
  passed_first = record { keeps = λ j e. e; passes = λ j e. rw (e, or-true) }

  module _ {passed : List ℕ} (p : Passed trips reached passed) where
    -- goes on with a node that has no trips,
    pub passed-next : (j : ℕ) → get_or trips j 0 ≡ 0 → Passed trips reached (union passed (only_node j))
    unfolding marked_test
    passed-next j none =
        record {
          keeps = λ i e. union_left passed (only_node j) i (p.keeps i e);
          passes = λ i e. ⊎_elim (p.passes i)
              (λ f. let same : j ≡ i = eqb-true j i (sym (marked-only j i) ∙ f) in rw (← same, none))
              (union-either passed (only_node j) i e);
        }

    -- fails at one that has some,
    pub passed-fails : (j : ℕ) → j < length trips → marked passed j ≡ false → (get_or trips j 0 ≡ 0 → ⊥) → false ≡ all_marked trips reached
    unfolding all_marked marked_test
    passed-fails j here other some = sym (all-refuted (length trips) _ j here (rw (ne_eqb (get_or trips j 0) 0 some) unreached))
      where
        unreached : marked reached j ≡ false
        unreached = on_test (marked reached j) (λ e. true-false (p.keeps j e) other) (λ e. e)

    -- and holds where none is left.
    pub passed-last : length trips ≤ 128 → ((j : ℕ) → j < 128 → marked (nodes_below (length trips)) j ≡ true → marked passed j ≡ true) → true ≡ all_marked trips reached
    unfolding all_marked
    passed-last few all-passed =
        sym (all-intro (length trips) _ (λ j h.
        p.passes j (all-passed j (omega arith) (marked-below (length trips) j ∙ lt-ltb j (length trips) h))))

-- The routing of the search is well formed.
routing-well-formed : (nodes : ℕ) (links : List (List ℕ)) (c : ℕ) → Ends nodes links → node_of c < nodes → WellFormed (to_destination nodes links c)
unfolding network
routing-well-formed nodes links c ends h =
    record {
      tail-node = ends.tail-node;
      head-node = ends.head-node;
      destination-node = h;
      some-time = λ l p. rw (get_or-replicate {A = ℕ} (length links) l 1 0 p) (omega arith);
    }

-- What a search to the destination s of a commodity finds are the nodes with a path to s: over links with open heads, which it is not barred from, to
-- a tail of a link into s.
module _ (nodes : ℕ) (links rows : List (List ℕ)) (c : ℕ) (ends : Ends nodes links) (here : node_of c < nodes) (tails : Tails nodes links (of_lorries c) (length links) rows) where
  -- A walk to s, or to the other row of s, is a path.
  walk-path : (e j : ℕ) → (e ≡ node_of c) ⊎ (e ≡ nodes + node_of c) → j < nodes → (walk : List ℕ) → IsWalk rows e j walk → PathTo nodes links c j
  unfolding network
  walk-path e j (inl at) node [] p = ([], p ∙ at)
  walk-path e j (inr at) node [] p = absurd (omega arith)
  walk-path e j at node (i ∷ []) p =
      let (k, below, on, at_tail, place) = tails.only i j p.0 in
      let at_head : head links k ≡ node_of c =
      ⊎_elim
      (λ q. (row_open ends k below (node_of c) here (place ∙ p.1 ∙ q)).1)
      (λ q. row-closed ends k below (node_of c) (place ∙ p.1 ∙ q))
      at in
      (k ∷ [], (below, may-own links c k on at_head, at_tail, at_head))
  walk-path e j at node (i ∷ h ∷ walk) p =
      let (k, below, on, at_tail, place) = tails.only i j p.0 in
      let (a, q, a-on, i-tail, i-place) = tails.only h i p.1.0 in
      let i-node : i < nodes = rw (← i-tail) (ends.tail-node a q) in
      let (free, at_head) = row_open ends k below i i-node place in
      let (rest, path) = walk-path e i at i-node (h ∷ walk) p.1 in
      (k ∷ rest, (below, may-open links c k on free, at_tail, rw at_head path))

  module _ (all_open : Bool) (all-open : all_open ≡ true → AllOpen links) {after : List (List ℕ)} (grown : Grown rows after) (reached : List ℕ) (reaching : Reaching after (node_of c) (tails_into nodes all_open after (node_of c)) reached) (tails-reached : (j : ℕ) → marked (tails_into nodes all_open after (node_of c)) j ≡ true → marked reached j ≡ true) where
    -- The tails of the links into s are among the tails, which have a walk to a row of s.
    tail-there : (l : ℕ) → l < length links → barred_to links (of_lorries c) l ≡ false → head links l ≡ node_of c → marked (tails_into nodes all_open after (node_of c)) (tail links l) ≡ true
    unfolding tails_into row_place
    tail-there l below on at_head =
        let mine = grown.keeps (row_of nodes links l) (tail links l) (tails.all l below on) in
        on_test all_open
        (λ is_open. rw (is_open) (rw (ne_eqb (closed links l) 1 (all-open is_open l below), at_head) at mine))
        (λ not-open. rw not-open (on-equal (closed links l) 1
        (λ shut. union_right (row after (node_of c)) (row after (nodes + node_of c)) (tail links l) (rw (eq-eqb (closed links l) 1 shut, at_head) at mine))
        (λ free. union_left (row after (node_of c)) (row after (nodes + node_of c)) (tail links l) (rw (ne_eqb (closed links l) 1 free, at_head) at mine))))

    tail_walk : (t : ℕ) → marked (tails_into nodes all_open after (node_of c)) t ≡ true → (e : ℕ) × ((e ≡ node_of c) ⊎ (e ≡ nodes + node_of c)) × WalkTo rows e t
    unfolding tails_into
    tail_walk t f =
        on_test all_open
        (λ is_open. (node_of c, inl refl, grown.walks (node_of c) t (rw is_open at f)))
        (λ not-open. ⊎_elim
        (λ g. (node_of c, inl refl, grown.walks (node_of c) t g))
        (λ g. (nodes + node_of c, inr refl, grown.walks (nodes + node_of c) t g))
        (union-either (row after (node_of c)) (row after (nodes + node_of c)) t (rw not-open at f)))

    open_row : (l : ℕ) → l < length links → barred_to links (of_lorries c) l ≡ false → (closed links l ≡ 1 → ⊥) → marked (row after (head links l)) (tail links l) ≡ true
    unfolding row_place
    open_row l below on free = rw (ne_eqb (closed links l) 1 free) at (grown.keeps (row_of nodes links l) (tail links l) (tails.all l below on))

    over-link : (l : ℕ) → l < length links → may_use links c l ≡ true → marked reached (head links l) ≡ true → marked reached (tail links l) ≡ true
    over-link l below usable e =
        let on = not-barred links c l usable in
        on-equal (head links l) (node_of c)
        (λ at_head. tails-reached (tail links l) (tail-there l below on at_head))
        (λ other. reaching.onward (head links l) (tail links l) e other (open_row l below on (λ shut. other (may-closed links c l shut usable))))

    node-path : (j : ℕ) → j < nodes → marked reached j ≡ true → PathTo nodes links c j
    unfolding network
    node-path j node f =
        on-equal j (node_of c)
        (λ same. ([], same))
        (λ other.
        let (t, g, (first, p)) = reaching.walks j f other in
        let (e, at, rest) = tail_walk t g in
        let (back, q) = walk-back grown t j first p in
        let (walk, w) = walk-join rows e t j back q rest in
        walk-path e j at node walk w)

    pub search-answer : tabulate nodes (marked reached) ≡ has_path (toward nodes links c) 0
    unfolding has_path network
    search-answer =
        let q = to_destination nodes links c in
        let reaches : Reaches q (marked reached) = record {
          at-destination = reaching.mine;
          over-link = over-link;
          supported = node-path;
        } in
        tabulate-cong nodes _ _ (λ j p. marked-has-distance q (routing-well-formed nodes links c ends here) (marked reached) reaches j p)

-- Question 11 is a test of each commodity, which goes by the links and that commodity alone,
unfoldable pub reach_test : ℕ → List (List ℕ) → List ℕ → List ℕ → ℕ → Bool
reach_test nodes links commodities trips k =
    let path = has_path (toward nodes links (get_or commodities k 0)) 0 in
    all nodes (λ j. eqb (get_or trips (k * nodes + j) 0) 0 || get_or path j true)

pub reach-all : (nodes : ℕ) (links : List (List ℕ)) (commodities trips : List ℕ) → trips_reach (network nodes links commodities trips) ≡ all (length commodities) (reach_test nodes links commodities trips)
unfolding trips_reach network has_path reach_test
reach-all nodes links commodities trips = refl

-- and the nodes that a search finds answer it, by the trips of that commodity: the n entries from k * n on.
abbrev trips_to : ℕ → List ℕ → ℕ → List ℕ
trips_to nodes trips k = take (k * nodes + nodes - k * nodes) (drop (k * nodes) trips)

module _ (nodes : ℕ) (commodities trips : List ℕ) (k : ℕ) (below : k < length commodities) (long : length trips ≡ length commodities * nodes) where
  pub trips-there : k * nodes + nodes ≤ length trips
  trips-there = let before = mul-le-mul_right {m = k + 1} {n = length commodities} nodes (omega arith) in omega arith

  pub trips-count : length (trips_to nodes trips k) ≡ nodes
  trips-count = simp (length-take, length-drop) (omega (arith, trips-there))

  pub marks-answer : (links : List (List ℕ)) (marks : List ℕ) → tabulate nodes (marked marks) ≡ has_path (toward nodes links (get_or commodities k 0)) 0 → all_marked (trips_to nodes trips k) marks ≡ reach_test nodes links commodities trips k
  unfolding all_marked marked_test reach_test
  marks-answer links marks found = rw trips-count (all-cong nodes _ _ (λ j h. rw (entry j h, path j h)))
    where
      entry : (j : ℕ) → j < nodes → get_or (trips_to nodes trips k) j 0 ≡ get_or trips (k * nodes + j) 0
      entry j h = get_or-take (k * nodes + nodes - k * nodes) (drop (k * nodes) trips) j 0 (omega arith) ∙ get_or-drop (k * nodes) trips j 0

      path : (j : ℕ) → j < nodes → marked marks j ≡ get_or (has_path (toward nodes links (get_or commodities k 0)) 0) j true
      path j h = sym (get_d_tabulate nodes (marked marks) true j h) ∙ ap (λ list. get_or list j true) found
