-- What the questions say of numbers, tables and the network that a study describes.
use Prim.Native.Nat.{ℕ, suc, ◌+◌, ◌*◌, ◌/◌, ◌%◌, ◌≤◌, ◌<◌}
use Rattle.std.proofs.Math.Nat.{le_trans}
use Rattle.std.proofs.Common.{arith, sym, ◌∙◌}
use Rattle.std.specs.Prelude.{◌≡◌, true, not, ◌&&◌, length, leb, ltb, eqb, ◌↔◌}
use Rattle.std.proofs.Math.Path.{ap}
use mathlib.Core.List.{List, []}
use Rattle.std.proofs.Math.ListN.{get_or}
use borrow.Author.Tests.{lt-ltb, ltb-true, leb-true, le-leb, eqb-true, eqb-false, eq-eqb, ne_eqb, not-true}
use Rattle.study.specs.Questions.{within}
use Rattle.study.specs.Sections.{links, link_size, link_part, closed_part, barred_part}
use Rattle.study.specs.Fields.{head as head_of, power as power_of, mark_byte}
use Rattle.study.specs.Laws.{within-true}
use Rattle.theory.specs.Network.{Network, Sound, total_trips}
use Rattle.theory.specs.Moves.{table_size}
use Rattle.theory.specs.Study.{head, free_time, rise, capacity, closed, barred, power, AllFourth, network}
use Rattle.theory.specs.Laws.Cases.{on-equal}
use Rattle.theory.specs.Laws.Finite.{length-tabulate, get_d_tabulate, all-elim, and_left, and_right, both}
use Rattle.theory.specs.Laws.Times.{step_time-least, step_time-mono}
use Rattle.calls.specs.Study.{as_byte, as_mark, link_row, link_rows, network_of}
use Rattle.calls.specs.Questions.{ends_fit, times_fit, no_trips_within, total_fits, table_holds, budget_fits, share_fits}
use Rattle.calls.specs.Laws.Questions.{Described}
use Rattle.calls.specs.Laws.Commodities.{commodity-node}

not_equal : (a b : ℕ) → not (eqb a b) ≡ true → a ≡ b → ⊥
not_equal a b e = eqb-false a b (not-true (eqb a b) e)

-- There is a row for each link.
pub links-length : (file : List ℕ) → length (link_rows file) ≡ links file
unfolding link_rows
links-length file = length-tabulate (links file) (link_row (link_part file) (link_size file) (closed_part file) (barred_part file))

-- A mark is 1 exactly where its byte is.
pub mark-exactly : (x : ℕ) → (as_mark x ≡ 1) ↔ (x ≡ 1)
mark-exactly x = (λ e. on-equal x 1 (λ same. same) (λ other. absurd (omega (arith, rw (ne_eqb x 1 other) at e))), λ e. rw (eq-eqb x 1 e))

pub mark-most : (x : ℕ) → as_mark x ≤ 1
mark-most x = on-equal x 1 (λ e. rw (eq-eqb x 1 e) (omega arith)) (λ e. rw (ne_eqb x 1 e) (omega arith))

-- The parts of a number that has a power and two marks.
module _ (q b c : ℕ) (b-mark : b ≤ 1) (c-mark : c ≤ 1) where
  closed-part : (256 * q + 2 * b + c) % 2 ≡ c
  closed-part = omega arith

  barred-part : (256 * q + 2 * b + c) / 2 % 2 ≡ b
  barred-part = omega arith

  power-part : (256 * q + 2 * b + c) / 256 ≡ q
  power-part = omega arith

-- The last column of a link's row tells the closed byte of its head and its barred byte, each as a mark, and its power as a byte.
module _ (file : List ℕ) (l : ℕ) (below : l < length (link_rows file)) where
  abbrev row : List ℕ
  row = link_row (link_part file) (link_size file) (closed_part file) (barred_part file) l

  row_is : get_or (link_rows file) l [] ≡ row
  unfolding link_rows
  row_is = get_d_tabulate (links file) (link_row (link_part file) (link_size file) (closed_part file) (barred_part file)) [] l (omega (arith, links-length file))

  abbrev shut : ℕ
  shut = as_mark (mark_byte (closed_part file) (head_of (link_part file) (link_size file) l))

  abbrev bar : ℕ
  bar = as_mark (mark_byte (barred_part file) l)

  abbrev q : ℕ
  q = as_byte (power_of (link_part file) (link_size file) l)

  pub barred-link : barred (link_rows file) l ≡ as_mark (mark_byte (barred_part file) l)
  unfolding link_row
  barred-link = ap (λ xs. get_or xs 5 0 / 2 % 2) row_is ∙ barred-part q bar shut (mark-most (mark_byte (barred_part file) l)) (mark-most (mark_byte (closed_part file) (head_of (link_part file) (link_size file) l)))

  pub closed-head : closed (link_rows file) l ≡ as_mark (mark_byte (closed_part file) (head (link_rows file) l))
  unfolding link_row
  closed-head =
      ap (λ xs. get_or xs 5 0 % 2) row_is
      ∙ closed-part q bar shut (mark-most (mark_byte (barred_part file) l)) (mark-most (mark_byte (closed_part file) (head_of (link_part file) (link_size file) l)))
      ∙ ap (λ xs. as_mark (mark_byte (closed_part file) (get_or xs 1 0))) (sym row_is)

  pub power-read : power (link_rows file) l ≡ as_byte (power_of (link_part file) (link_size file) l)
  unfolding link_row
  power-read = ap (λ xs. get_or xs 5 0 / 256) row_is ∙ power-part q bar shut (mark-most (mark_byte (barred_part file) l)) (mark-most (mark_byte (closed_part file) (head_of (link_part file) (link_size file) l)))

-- In versions whose links have fewer than 12 bytes it is 4.
pub fourth-powers : (file : List ℕ) → link_size file < 12 → AllFourth (link_rows file)
unfolding power_of
fourth-powers file short l below = power-read file l below ∙ rw (lt-ltb (link_size file) 12 short)

-- Question 14 says that a share is 1 to 1,024,
pub share-range : (share : ℕ) → share_fits share ≡ true → (1 ≤ share) × (share ≤ 1024)
unfolding share_fits
share-range share e = within-true 1 1024 share e

pub range-share : (share : ℕ) → 1 ≤ share → share ≤ 1024 → share_fits share ≡ true
unfolding share_fits
range-share share low high = both (leb 1 share) (leb share 1024) (le-leb 1 share low) (le-leb share 1024 high)

-- question 13 that a budget is,
pub budget-range : (budget : ℕ) → budget_fits budget ≡ true → (1 ≤ budget) × (budget ≤ 1024)
unfolding budget_fits
budget-range budget e = within-true 1 1024 budget e

pub range-budget : (budget : ℕ) → 1 ≤ budget → budget ≤ 1024 → budget_fits budget ≡ true
unfolding budget_fits
range-budget budget low high = both (leb 1 budget) (leb budget 1024) (le-leb 1 budget low) (le-leb budget 1024 high)

-- and question 12 that a table holds p·m numbers.
pub holds-length : (g : Network) (table : List ℕ) → table_holds g table ≡ true → table_size g ≤ length table
unfolding table_holds
holds-length g table e = leb-true (table_size g) (length table) e

pub length-holds : (g : Network) (table : List ℕ) → table_size g ≤ length table → table_holds g table ≡ true
unfolding table_holds
length-holds g table p = le-leb (table_size g) (length table) p

-- The fields of one link, by question 7.
pub record FieldsFit (free rise capacity power : ℕ) : Type 0 where
  pub free-least : 1 ≤ free
  pub free-most : free ≤ 16383
  pub rise-most : rise ≤ 16383
  pub capacity-least : 1 ≤ capacity
  pub power-least : 1 ≤ power
  pub power-most : power ≤ 4

fields-of : (a b c q : ℕ) → (within 1 16383 a && within 0 16383 b && leb 1 c && within 1 4 q) ≡ true → FieldsFit a b c q
fields-of a b c q e =
    let abc = and_left (within 1 16383 a && within 0 16383 b && leb 1 c) (within 1 4 q) e in
    let ab = and_left (within 1 16383 a && within 0 16383 b) (leb 1 c) abc in
    let fq = within-true 1 4 q (and_right (within 1 16383 a && within 0 16383 b && leb 1 c) (within 1 4 q) e) in
    let fa = within-true 1 16383 a (and_left (within 1 16383 a) (within 0 16383 b) ab) in
    let fb = within-true 0 16383 b (and_right (within 1 16383 a) (within 0 16383 b) ab) in
    record {
      free-least = fa.0;
      free-most = fa.1;
      rise-most = fb.1;
      capacity-least = leb-true 1 c (and_right (within 1 16383 a && within 0 16383 b) (leb 1 c) abc);
      power-least = fq.0;
      power-most = fq.1;
    }

-- The ends of one link, by question 6.
pub record EndsFit (n tail head : ℕ) : Type 0 where
  pub tail-node : tail < n
  pub head-node : head < n
  pub apart : tail ≡ head → ⊥

ends_of : (n t h : ℕ) → (ltb t n && ltb h n && not (eqb t h)) ≡ true → EndsFit n t h
ends_of n t h e =
    let th = and_left (ltb t n && ltb h n) (not (eqb t h)) e in
    record {
      tail-node = ltb-true t n (and_left (ltb t n) (ltb h n) th);
      head-node = ltb-true h n (and_right (ltb t n) (ltb h n) th);
      apart = not_equal t h (and_right (ltb t n && ltb h n) (not (eqb t h)) e);
    }

module _ (file : List ℕ) (h : Described file) where
  pub fields_fit : (l : ℕ) → l < length (link_rows file) → FieldsFit (free_time (link_rows file) l) (rise (link_rows file) l) (capacity (link_rows file) l) (power (link_rows file) l)
  unfolding times_fit
  fields_fit l p = fields-of _ _ _ _ (all-elim (length (link_rows file)) _ h.fields l p)

  pub ends-fit : (l : ℕ) → l < (network_of file).links → EndsFit (network_of file).nodes ((network_of file).tail l) ((network_of file).head l)
  unfolding ends_fit
  ends-fit l p = ends_of _ _ _ (all-elim (network_of file).links _ h.ends l p)

  pub destination-node : (k : ℕ) → k < (network_of file).commodities → (network_of file).destination k < (network_of file).nodes
  unfolding network_of network
  destination-node = commodity-node file h

  -- Question 9: no trips begin at their destination.
  pub no-trips-within : (k : ℕ) → k < (network_of file).commodities → (network_of file).trips k ((network_of file).destination k) ≡ 0
  unfolding no_trips_within
  no-trips-within k p = eqb-true _ _ (all-elim (network_of file).commodities _ h.none_within k p)

  -- Question 10.
  pub few-trips : total_trips (network_of file) ≤ 65535
  unfolding total_fits
  few-trips = leb-true _ _ h.few

  -- So the laws of the theory hold of the network.
  pub sound : Sound (network_of file)
  unfolding network_of network
  sound =
      record {
        tail-node = λ l p. (ends-fit l p).tail-node;
        head-node = λ l p. (ends-fit l p).head-node;
        some-capacity = λ l p. (fields_fit l p).capacity-least;
        some-time = λ l r p. le_trans (fields_fit l p).free-least (step_time-least (free_time (link_rows file) l) (rise (link_rows file) l) (power (link_rows file) l) r);
        rising = λ l r p. step_time-mono (free_time (link_rows file) l) (rise (link_rows file) l) (power (link_rows file) l) {r = r} {s = suc r} (omega arith);
        destination-node = destination-node;
      }
