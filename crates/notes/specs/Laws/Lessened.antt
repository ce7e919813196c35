-- Tables compared with j × a loading and lessened by it, commodity by commodity; and counts of numbers that fail a test.
use Rattle.std.specs.Prelude.{ℕ, zero, suc, ◌+◌, ◌*◌, ◌-◌, ◌%◌, ◌≤◌, ◌<◌, ◌≡◌, Bool, true, false, ◌&&◌, List, [], length, get_or}
use Rattle.std.proofs.Common.{add-zero, add-suc, zero-mul, suc-mul, mul-le-mul_right, arith, sym, ◌∙◌, ⊎_elim, eqb-true, lt-ltb, le-ltb, le-leb, eq-eqb, ne_eqb}
use Rattle.std.proofs.Math.Nat.{mul-zero}
use Rattle.std.proofs.Math.Path.{refl, ap, ap₂}
use Rattle.std.proofs.Math.Bool.{cond, and-true, and_assoc}
use Rattle.std.proofs.Math.Arith.{digits_lt}
use Rattle.std.proofs.Math.Dec.{leb, ltb, eqb}
use Rattle.std.proofs.lemmas.Bool.{lt-leb}
use Rattle.theory.specs.Finite.{sum, all}
use Rattle.theory.specs.Laws.Cases.{same_test}
use Rattle.theory.specs.Laws.Finite.{order, sum-suc, sum-zero, sum_bound, sum-term, count_most, all-suc, both, all-elim, all-intro, all-refuted, all-cong}
use Rattle.theory.specs.Laws.Parts.{part, replaced, row_within, row-most, part_at, length_part}
use Rattle.loading.specs.Along.{volume_over, one_if_same, scattered, Scatterable}
use Rattle.loading.specs.Sending.{ZeroBelow}
use Rattle.travel.specs.Links.{padded}
use Rattle.travel.specs.Ranges.{Clear}
use Rattle.travel.specs.Laws.Padded.{get_d-padded, padded-cong, zeros-clear}
use Rattle.moves.specs.Loading.{volume_rows, front}
use Rattle.moves.specs.Laws.Front.{front_at, front-past, length_front, front-none, row-within-front, front-row, front-row-kept, front-row-more, front-clear}
use Rattle.moves.specs.Laws.Loading.{entry-volumes}
use Rattle.notes.specs.Lessened.{no_loads, less_in, Lessenable}

-- A sum with one number more.
pub sum-next : (n : ℕ) (f : ℕ → ℕ) {s x : ℕ} → s ≡ sum n f → x ≡ f n → s + x ≡ sum (n + 1) f
sum-next n f e h = ap₂ ◌+◌ e h ∙ sym (sum-suc n f)

-- Numbers of a row that are less than those of a list: none at first,
module _ (row loads : List ℕ) where
  pub less_none : 0 ≡ less_in row loads 0
  unfolding less_in sum
  less_none = refl

  -- and at most one more each turn.
  pub less-next :
      (l : ℕ) {s x : ℕ} → s ≡ less_in row loads l → x ≡ cond (ltb (get_or row l 0) (get_or loads l 0)) 1 0 →
      (s + x ≡ less_in row loads (l + 1)) × (s + x ≤ l + 1)
  unfolding less_in
  less-next l e h =
      let more = sum-next l (λ i. cond (ltb (get_or row i 0) (get_or loads i 0)) 1 0) e h in
      (more, omega (arith, count_most (l + 1) (λ i. ltb (get_or row i 0) (get_or loads i 0))))

-- How many of a list's numbers are odd.
abbrev pub odds : List ℕ → ℕ → ℕ
odds xs n = sum n (λ i. get_or xs i 0 % 2)

pub odds-most : (xs : List ℕ) (n : ℕ) → odds xs n ≤ n
odds-most xs n = omega (arith, sum_bound n 1 (λ i. get_or xs i 0 % 2) (λ i h. omega arith))

-- A sum is 0 where each of its numbers is.
pub sum-none : (n : ℕ) (f : ℕ → ℕ) → eqb (sum n f) 0 ≡ all n (λ i. eqb (f i) 0)
sum-none n f =
    same_test (eqb (sum n f) 0) (all n (λ i. eqb (f i) 0)) (
      λ e. all-intro n (λ i. eqb (f i) 0) (λ i h. eq-eqb (f i) 0 (omega (arith, eqb-true (sum n f) 0 e, sum-term n f i h))),
      λ e. eq-eqb (sum n f) 0 (sum-zero n f (λ i h. eqb-true (f i) 0 (all-elim n (λ i. eqb (f i) 0) e i h))),
    )

-- A test of all numbers in two parts,
all_append : (a b : ℕ) (t : ℕ → Bool) → all (a + b) t ≡ (all a t && all b (λ l. t (a + l)))
unfolding all
all_append a zero t = rw (add-zero a) (sym (and-true (all a t)))
all_append a (suc b) t = rw (add-suc a b, all_append a b t) (and_assoc (all a t) (all b (λ l. t (a + l))) (t (a + b)))

-- and in p rows, each of m.
pub all-rows : (p m : ℕ) (t : ℕ → Bool) → all (p * m) t ≡ all p (λ k. all m (λ l. t (k * m + l)))
unfolding all
all-rows zero m t = rw (zero-mul m)
all-rows (suc p) m t = rw (suc-mul p m, all_append (p * m) m t, all-rows p m t)

-- A number that does not count as less than another is at least as large.
not-less : (a b : ℕ) → eqb (cond (ltb a b) 1 0) 0 ≡ leb b a
not-less a b = ⊎_elim (λ h. rw (lt-ltb a b h, lt-leb b a h)) (λ h. rw (le-ltb a b h, le-leb b a h)) (order a b)

-- Lent memory of which the first i numbers are replaced is as long as it was, and its next number is its own still.
module _ (i : ℕ) (f : ℕ → ℕ) (table : List ℕ) {now : List ℕ} (e : now ≡ front i f table) where
  pub so-far-long : i ≤ length table → length now ≡ length table
  so-far-long h = ap length e ∙ length_front i f table h

  pub next-own : get_or now i 0 ≡ get_or table i 0
  next-own = ap (λ xs. get_or xs i 0) e ∙ front-past i f table i (omega arith)

-- All loads are 0 where there are none.
no-loads : (m : ℕ) → Clear m no_loads
unfolding no_loads
no-loads m = zeros-clear m

-- Volumes times j, added where there is no load, are j × the loading of a commodity.
pub added-to-none :
    {n m j : ℕ} {next volumes row : List ℕ} → Scatterable n m next volumes j no_loads → row ≡ scattered n m next volumes j no_loads →
    row ≡ padded m (λ l. j * volume_over n next volumes l)
unfolding scattered front
added-to-none {n} {m} {j} {next} {volumes} w e =
    front-clear m _ w.few-links (no-loads m) e
    ∙ padded-cong m _ (λ l. j * volume_over n next volumes l) w.few-links (λ l h. omega (arith, (no-loads 0).rest l (omega arith)))

-- A table's number at i is at least j × the loading's,
abbrev pub holds_at : ℕ → List ℕ → List ℕ → ℕ → Bool
holds_at j y table i = leb (j * get_or y i 0) (get_or table i 0)

-- and so is each of row k.
abbrev pub row_holds : ℕ → ℕ → List ℕ → List ℕ → ℕ → Bool
row_holds m j y table k = all m (λ l. holds_at j y table (k * m + l))

-- A table's number at i, less j × the loading's.
abbrev pub less_at : ℕ → List ℕ → List ℕ → ℕ → ℕ
less_at j y table i = get_or table i 0 - j * get_or y i 0

-- Before the first row nothing is lessened.
pub none-lessened : (m : ℕ) (f : ℕ → ℕ) (table : List ℕ) → table ≡ front (0 * m) f table
none-lessened m f table = let none : 0 ≡ 0 * m = omega arith in front-none f table ∙ ap (λ size. front size f table) none

module _ {n m p : ℕ} {nexts volumes : List (List ℕ)} {j : ℕ} {table : List ℕ} (w : Lessenable n m p nexts volumes j table) where
  abbrev y : List ℕ
  y = volume_rows n m p nexts volumes

  abbrev f : ℕ → ℕ
  f = less_at j y table

  -- A table keeps its length while its rows are lessened.
  pub lessened-long : {k : ℕ} → k ≤ p → {now : List ℕ} → now ≡ front (k * m) f table → length now ≡ length table
  lessened-long {k} h e = let size = mul-le-mul_right m h in so-far-long (k * m) f table e (omega (arith, w.holds))

  -- All rows hold the loading where each does.
  pub all_hold : all p (row_holds m j y table) ≡ true → true ≡ all (p * m) (holds_at j y table)
  all_hold e = sym (all-rows p m (holds_at j y table) ∙ e)

  module _ {k : ℕ} (h : k < p) where
    -- Row k is within the table, has a number for each link, and ends at a small number.
    pub table-within : k * m + m ≤ length table
    table-within = omega (arith, row_within m h, w.holds)

    pub row-long : m ≤ length (part table (k * m) m)
    row-long = omega (arith, length_part table (k * m) m table-within)

    pub small-end : k * m + m ≤ 32768
    small-end = row-most 64 512 h w.few-commodities w.few-links

    -- So it is when the rows before it are lessened, and its numbers are as they were.
    module _ {now : List ℕ} (e : now ≡ front (k * m) f table) where
      pub now-within : k * m + m ≤ length now
      now-within = row-within-front f table k m table-within e

      pub length-row : length (part now (k * m) m) ≡ m
      length-row = length_part now (k * m) m now-within

      row-own : (l : ℕ) → l < m → get_or (part now (k * m) m) l 0 ≡ get_or table (k * m + l) 0
      row-own = front-row f table k m table-within e

    -- A commodity without volumes has no part of the loading: its row holds it, and stays as it is.
    module _ (idle : ZeroBelow 128 (get_or volumes k [])) where
      no_part : (l : ℕ) → l < m → get_or y (k * m + l) 0 ≡ 0
      unfolding volume_over
      no_part l b =
          entry-volumes n m p nexts volumes k l h b
          ∙ sum-zero n _ (λ i c. ap (λ x. one_if_same (get_or (get_or nexts k []) i 0) l * x) (idle i (omega (arith, w.few-nodes))) ∙ mul-zero _)

      pub idle-holds : all k (row_holds m j y table) ≡ true → all (k + 1) (row_holds m j y table) ≡ true
      idle-holds before =
          all-suc k (row_holds m j y table)
          ∙ both _ _ before (all-intro m _ (λ l b. le-leb (j * get_or y (k * m + l) 0) (get_or table (k * m + l) 0) (omega (arith, ap (λ x. j * x) (no_part l b)))))

      pub idle-lessened : {now : List ℕ} → now ≡ front (k * m) f table → now ≡ front ((k + 1) * m) f table
      idle-lessened e = front-row-kept f table k m table-within e (λ l b. omega (arith, ap (λ x. j * x) (no_part l b)))

    -- The volumes of commodity k can be added where there is no load,
    pub row-scatterable : Scatterable n m (get_or nexts k []) (get_or volumes k []) j no_loads
    row-scatterable =
        record {
          few-nodes = w.few-nodes;
          few-links = w.few-links;
          next-link = λ i b. w.next-link k i h b;
          has-links = omega (arith, (no-loads 0).size, w.few-links);
          fits = λ l b.
              omega (
                arith,
                (no-loads 0).rest l (omega arith),
                ap (λ x. j * x) (entry-volumes n m p nexts volumes k l h b),
                w.fits (k * m + l) (digits_lt {q = k} {m = p} {r = l} {c = m} h b),
              );
        }

    -- and give row k of j × the loading.
    module _ {loads : List ℕ} (loads-are : loads ≡ padded m (λ l. j * volume_over n (get_or nexts k []) (get_or volumes k []) l)) where
      load_at : (l : ℕ) → l < m → get_or loads l 0 ≡ j * get_or y (k * m + l) 0
      load_at l b =
          ap (λ xs. get_or xs l 0) loads-are
          ∙ get_d-padded m _ l b
          ∙ ap (λ x. j * x) (sym (entry-volumes n m p nexts volumes k l h b))

      -- Row k of the table holds them where none of its numbers is less.
      module _ {less : ℕ} (counted : less ≡ less_in (part table (k * m) m) loads m) where
        row-counted : eqb less 0 ≡ row_holds m j y table k
        unfolding less_in
        row-counted =
            ap (λ x. eqb x 0) counted
            ∙ sum-none m _
            ∙ all-cong m _ _ (λ l b.
            not-less (get_or (part table (k * m) m) l 0) (get_or loads l 0)
            ∙ ap₂ leb (load_at l b) (part_at table (k * m) m l b))

        pub one-more-holds : all k (row_holds m j y table) ≡ true → less ≡ 0 → all (k + 1) (row_holds m j y table) ≡ true
        one-more-holds before none =
            all-suc k (row_holds m j y table) ∙ both _ _ before (sym row-counted ∙ eq-eqb less 0 none)

        pub one-fails : (less ≡ 0 → ⊥) → false ≡ all (p * m) (holds_at j y table)
        one-fails some =
            sym
            (all-rows p m (holds_at j y table)
            ∙ all-refuted p (row_holds m j y table) k h (sym row-counted ∙ ne_eqb less 0 some))

      -- It can be lessened by them,
      module _ {now : List ℕ} (e : now ≡ front (k * m) f table) where
        pub row-lessenable :
            ((i : ℕ) → i < p * m → j * get_or y i 0 ≤ get_or table i 0) → (l : ℕ) → l < m → get_or loads l 0 ≤ get_or (part now (k * m) m) l 0
        row-lessenable most l b =
            rw (load_at l b, row-own e l b) (most (k * m + l) (digits_lt {q = k} {m = p} {r = l} {c = m} h b))

        -- and gives the table of one row more.
        pub one-more-lessened :
            {row : List ℕ} → row ≡ front m (λ l. get_or (part now (k * m) m) l 0 - get_or loads l 0) (part now (k * m) m) →
            replaced now (k * m) m row ≡ front ((k + 1) * m) f table
        one-more-lessened {row} is =
            front-row-more f table k m table-within e row
            (so-far-long m _ (part now (k * m) m) is (omega (arith, length-row e)) ∙ length-row e)
            (λ l b. ap (λ xs. get_or xs l 0) is ∙ front_at m _ (part now (k * m) m) l b ∙ ap₂ (λ x z. x - z) (row-own e l b) (load_at l b))
