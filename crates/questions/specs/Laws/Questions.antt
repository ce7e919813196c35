-- Tests put one by one, totals over blocks, and what the questions say of a study in rows.
use Rattle.std.specs.Prelude.{ℕ, zero, suc, ◌+◌, ◌*◌, ◌≤◌, ◌<◌, Bool, true, false, ◌&&◌, not, List, [], ◌≡◌, ltb, eqb, length, get_or}
use Rattle.std.proofs.Common.{mul-le-mul, arith, sym, ◌∙◌, ltb-true}
use Rattle.std.proofs.Math.Path.{refl, ap}
use Rattle.std.proofs.Math.Dec.{leb}
use Rattle.study.specs.Fields.{mark_byte}
use Rattle.study.specs.Questions.{within}
use Rattle.theory.specs.Finite.{sum, all}
use Rattle.theory.specs.Laws.Finite.{all-suc, all-elim, all-intro, all-and, all-refuted, and_left, and_right}
use Rattle.theory.specs.Network.{total_trips}
use Rattle.theory.specs.Study.{tail, head, node_of, AllFourth, network}
use Rattle.calls.specs.Questions.{ends_fit, times_fit, destinations_fit, marks_fit, no_trips_within, total_fits}
use Rattle.questions.specs.Sized.{Sized}
use Rattle.questions.specs.Fields.{road_test, roads_fit, power_test, powers_fit}
use Rattle.questions.specs.Destinations.{all_nodes, all_ascending}

-- A test put to 0, 1, .. in turn: it held below i and holds at i,
pub all_more : (i : ℕ) (test : ℕ → Bool) → all i test ≡ true → test i ≡ true → all (i + 1) test ≡ true
all_more i test before here = rw (all-suc, before, here)

-- or fails at i, and the answer is no,
pub all-failed : (n : ℕ) (test : ℕ → Bool) (i : ℕ) → i < n → test i ≡ false → false ≡ all n test
all-failed n test i h here = sym (all-refuted n test i h here)

-- or held to the end, and the answer is yes.
pub all_held : (n : ℕ) (test : ℕ → Bool) {i : ℕ} → i ≤ n → n ≤ i → all i test ≡ true → true ≡ all n test
all_held n test {i} h end before = let e : n ≡ i = omega arith in rw e (sym before)

-- The trips of p rows of n are few.
pub entries_fit : {n p : ℕ} → n ≤ 128 → p ≤ 64 → p * n ≤ 8192
entries_fit {n} {p} hn hp = mul-le-mul {n₁ = p} {m₁ = n} {n₂ = 64} {m₂ = 128} hp hn

-- A sum over p blocks of n is the sum over p * n.
sum-append : (a b : ℕ) (f : ℕ → ℕ) → sum (a + b) f ≡ sum a f + sum b (λ j. f (a + j))
unfolding sum
sum-append a zero f = let e : a + 0 ≡ a = omega arith in rw e (omega arith)
sum-append a (suc b) f =
    let e : a + suc b ≡ suc (a + b) = omega arith in
    rw e (let before = sum-append a b f in omega arith)

sum-blocks : (p n : ℕ) (f : ℕ → ℕ) → sum p (λ k. sum n (λ j. f (k * n + j))) ≡ sum (p * n) f
unfolding sum
sum-blocks zero n f = let e : 0 * n ≡ 0 = omega arith in rw e refl
sum-blocks (suc p) n f =
    let e : suc p * n ≡ p * n + n = omega arith in
    rw (e, sum-append (p * n) n f, sum-blocks p n f)

pub total_of : {n : ℕ} {rows : List (List ℕ)} {commodities entries : List ℕ} → Sized n rows commodities entries → sum (length entries) (λ i. get_or entries i 0) ≡ total_trips (network n rows commodities entries)
unfolding total_trips network
total_of {n} {rows} {commodities} {entries} sized = rw sized.entries-long (sym (sum-blocks (length commodities) n (λ i. get_or entries i 0)))

-- Questions 6 and 9 are put to a study without the parts that they do not read,
module _ (n : ℕ) (rows : List (List ℕ)) (commodities entries : List ℕ) where
  pub ends-answer : ends_fit (network n rows [] []) ≡ ends_fit (network n rows commodities entries)
  unfolding ends_fit network
  ends-answer = refl

  pub within-answer : no_trips_within (network n [] commodities entries) ≡ no_trips_within (network n rows commodities entries)
  unfolding no_trips_within network
  within-answer = refl

  -- and question 10 to the sum of the entries.
  pub total-answer : Sized n rows commodities entries → leb (sum (length entries) (λ i. get_or entries i 0)) 65535 ≡ total_fits (network n rows commodities entries)
  unfolding total_fits
  total-answer sized = ap (λ total. leb total 65535) (total_of sized)

-- Question 8 has two halves, and passed it says that every destination is a node.
pub destinations-halves : (n : ℕ) (node_list : List ℕ) → destinations_fit n node_list ≡ (all_nodes n node_list && all_ascending node_list)
unfolding destinations_fit all_nodes all_ascending
destinations-halves n node_list = refl

pub destination-below : (n : ℕ) (node_list : List ℕ) → destinations_fit n node_list ≡ true → (k : ℕ) → k < length node_list → get_or node_list k 0 < n
unfolding all_nodes
destination-below n node_list fit k h =
    ltb-true _ _ (all-elim (length node_list) (λ i. ltb (get_or node_list i 0) n) (and_left (all_nodes n node_list) (all_ascending node_list) (sym (destinations-halves n node_list) ∙ fit)) k h)

-- Question 7 is a test of each link's road and one of each link's power,
pub times-both : (rows : List (List ℕ)) → times_fit rows ≡ roads_fit rows && powers_fit rows
unfolding times_fit roads_fit powers_fit road_test power_test
times-both rows = all-and (length rows) (road_test rows) (power_test rows)

-- which links of power 4 pass.
pub fourth-fit : (rows : List (List ℕ)) → AllFourth rows → powers_fit rows ≡ true
unfolding powers_fit power_test
fourth-fit rows fourth = all-intro (length rows) (power_test rows) (λ l h. rw (fourth l h))

-- Questions 19 and 23 are a test of each byte.
unfoldable pub mark_test : List ℕ → ℕ → Bool
mark_test bytes i = leb (get_or bytes i 0) 1

pub marks-all : (bytes : List ℕ) → marks_fit bytes ≡ all (length bytes) (mark_test bytes)
unfolding marks_fit mark_byte mark_test
marks-all bytes = refl

-- Question 9 is a test of each commodity.
unfoldable pub within_test : ℕ → List ℕ → List ℕ → ℕ → Bool
within_test n commodities entries k = eqb (get_or entries (k * n + node_of (get_or commodities k 0)) 0) 0

pub within_all : (n : ℕ) (commodities entries : List ℕ) → no_trips_within (network n [] commodities entries) ≡ all (length commodities) (within_test n commodities entries)
unfolding no_trips_within network within_test
within_all n commodities entries = refl

-- Question 6, passed, says that every link's ends are nodes.
pub record Ends (n : ℕ) (rows : List (List ℕ)) : Type 0 where
  pub tail-node : (l : ℕ) → l < length rows → tail rows l < n
  pub head-node : (l : ℕ) → l < length rows → head rows l < n

-- The test of one link.
unfoldable pub ends_test : ℕ → List (List ℕ) → ℕ → Bool
ends_test n rows l = ltb (tail rows l) n && ltb (head rows l) n && not (eqb (tail rows l) (head rows l))

pub ends-all : (n : ℕ) (rows : List (List ℕ)) → ends_fit (network n rows [] []) ≡ all (length rows) (ends_test n rows)
unfolding ends_fit network ends_test
ends-all n rows = refl

pub ends-below : (n : ℕ) (rows : List (List ℕ)) → ends_fit (network n rows [] []) ≡ true → Ends n rows
unfolding ends_test
ends-below n rows fit =
    record {
      tail-node = λ l h. ltb-true _ _ (and_left (ltb (tail rows l) n) (ltb (head rows l) n) (below l h));
      head-node = λ l h. ltb-true _ _ (and_right (ltb (tail rows l) n) (ltb (head rows l) n) (below l h));
    }
  where
    below : (l : ℕ) → l < length rows → (ltb (tail rows l) n && ltb (head rows l) n) ≡ true
    below l h = and_left (ltb (tail rows l) n && ltb (head rows l) n) (not (eqb (tail rows l) (head rows l))) (all-elim (length rows) (ends_test n rows) (sym (ends-all n rows) ∙ fit) l h)
