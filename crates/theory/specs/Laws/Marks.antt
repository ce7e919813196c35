-- Sets of nodes as marks: what the words of a set say of each node, and the lowest node that is reached and unvisited.
use Rattle.std.specs.Prelude.{ℕ, ◌+◌, ◌-◌, ◌^◌, ◌≤◌, ◌<◌, Bool, true, ◌||◌, ◌&&◌, cond, List, [], ◌∷◌, ◌⊎◌, ◌≡◌, refl, eqb, ltb, get_or}
use native.Mathlib.Omega.{arith}
use Rattle.std.proofs.Math.Bool.{false, not, or-true}
use Rattle.std.proofs.Math.Logic.{⊎_elim}
use Rattle.std.proofs.Common.{sym, ◌∙◌}
use Rattle.std.specs.Int.Bits.{bit_and, bit_or}
use Rattle.std.specs.Int.Count.{count_trailing_zeros}
use Rattle.std.proofs.lemmas.Nat.{trailing_le}
use borrow.Author.Tests.{eq-eqb, ne_eqb, lt-ltb, le-ltb, not-true, not-false}
use Rattle.theory.specs.Finite.{sum, first}
use Rattle.theory.specs.Marks.{bit, marked, only_node, nodes_below, union, common, lowest, unvisited, lowest_unvisited, lowest_bit}
use Rattle.theory.specs.Laws.Bits.{bit-or, bit-and, bit_not, bit-one, bit-ones, bit-zero, trailing_below, trailing-bit}
use Rattle.theory.specs.Laws.Cases.{either, on-equal, on-option}
use Rattle.theory.specs.Laws.Finite.{order, and_left, and_right, sum-add, sum_mono, sum-pick, Lowest, first-none, first_some, none_first, some_first}

-- A node is marked by its bit of the first word or of the second.
module _ (marks : List ℕ) where
  pub marked-low : (j : ℕ) → j < 64 → marked marks j ≡ bit (get_or marks 0 0) j
  unfolding marked
  marked-low j h = rw (lt-ltb j 64 h)

  pub marked-high : (j : ℕ) → 64 ≤ j → marked marks j ≡ bit (get_or marks 1 0) (j - 64)
  unfolding marked
  marked-high j h = rw (le-ltb j 64 h)

-- What two words mark, by the bits of each.
pub words-marked : (low high : ℕ) (test : ℕ → Bool) → ((j : ℕ) → j < 64 → bit low j ≡ test j) → ((j : ℕ) → 64 ≤ j → bit high (j - 64) ≡ test j)
    → (j : ℕ) → marked (low ∷ high ∷ []) j ≡ test j
words-marked low high test in-low in-high j =
    ⊎_elim
    (λ h. marked-low (low ∷ high ∷ []) j h ∙ in-low j h)
    (λ h. marked-high (low ∷ high ∷ []) j h ∙ in-high j h)
    (order j 64)

-- The set of no node,
pub marked-none : (j : ℕ) → marked (0 ∷ 0 ∷ []) j ≡ false
marked-none = words-marked 0 0 (λ j. false) (λ j h. bit-zero j) (λ j h. bit-zero (j - 64))

-- of one node,
pub marked-only : (j i : ℕ) → marked (only_node j) i ≡ eqb j i
unfolding only_node
marked-only j i = ⊎_elim
    (λ here. rw (lt-ltb j 64 here) (words-marked (2 ^ j) 0 (eqb j) (λ i h. bit-one j i) (λ i h. rw (ne_eqb j i (λ e. absurd (omega arith))) (bit-zero (i - 64))) i))
    (λ here. rw (le-ltb j 64 here) (words-marked 0 (2 ^ (j - 64)) (eqb j)
    (λ i h. rw (ne_eqb j i (λ e. absurd (omega arith))) (bit-zero i))
    (λ i h. bit-one (j - 64) (i - 64) ∙ same-places here i h)
    i))
    (order j 64)
  where
    same-places : 64 ≤ j → (i : ℕ) → 64 ≤ i → eqb (j - 64) (i - 64) ≡ eqb j i
    same-places here i h = on-equal j i
        (λ e. rw (eq-eqb j i e) (eq-eqb (j - 64) (i - 64) (omega arith)))
        (λ n. rw (ne_eqb j i n) (ne_eqb (j - 64) (i - 64) (λ e. n (omega arith))))

pub marked-own : (j : ℕ) → marked (only_node j) j ≡ true
marked-own j = marked-only j j ∙ eq-eqb j j refl

-- of the nodes below n,
pub marked-below : (n i : ℕ) → marked (nodes_below n) i ≡ ltb i n
unfolding nodes_below
marked-below n i = ⊎_elim
    (λ few. rw (lt-ltb n 64 few) (words-marked (2 ^ n - 1) 0 (λ i. ltb i n) (λ i h. bit-ones n i) (λ i h. rw (le-ltb i n (omega arith)) (bit-zero (i - 64))) i))
    (λ many. rw (le-ltb n 64 many) (words-marked (2 ^ 64 - 1) (2 ^ (n - 64) - 1) (λ i. ltb i n)
    (λ i h. rw (lt-ltb i n (omega arith)) (bit-ones 64 i ∙ lt-ltb i 64 h))
    (λ i h. bit-ones (n - 64) (i - 64) ∙ same-side many i h)
    i))
    (order n 64)
  where
    same-side : 64 ≤ n → (i : ℕ) → 64 ≤ i → ltb (i - 64) (n - 64) ≡ ltb i n
    same-side many i h = ⊎_elim
        (λ p. rw (lt-ltb i n p) (lt-ltb (i - 64) (n - 64) (omega arith)))
        (λ p. rw (le-ltb i n p) (le-ltb (i - 64) (n - 64) (omega arith)))
        (order i n)

-- of two sets together,
pub marked-union : (a b : List ℕ) (j : ℕ) → marked (union a b) j ≡ (marked a j || marked b j)
unfolding union
marked-union a b =
    words-marked (bit_or (get_or a 0 0) (get_or b 0 0)) (bit_or (get_or a 1 0) (get_or b 1 0)) (λ j. marked a j || marked b j)
    (λ j h. rw (marked-low a j h, marked-low b j h) (bit-or (get_or a 0 0) (get_or b 0 0) j))
    (λ j h. rw (marked-high a j h, marked-high b j h) (bit-or (get_or a 1 0) (get_or b 1 0) (j - 64)))

-- and of two sets in common.
pub marked-common : (a b : List ℕ) (j : ℕ) → marked (common a b) j ≡ (marked a j && marked b j)
unfolding common
marked-common a b =
    words-marked (bit_and (get_or a 0 0) (get_or b 0 0)) (bit_and (get_or a 1 0) (get_or b 1 0)) (λ j. marked a j && marked b j)
    (λ j h. rw (marked-low a j h, marked-low b j h) (bit-and (get_or a 0 0) (get_or b 0 0) j))
    (λ j h. rw (marked-high a j h, marked-high b j h) (bit-and (get_or a 1 0) (get_or b 1 0) (j - 64)))

pub common-both : (a b : List ℕ) (j : ℕ) → marked (common a b) j ≡ true → (marked a j ≡ true) × (marked b j ≡ true)
common-both a b j e =
    let both-marked = sym (marked-common a b j) ∙ e in
    (and_left (marked a j) (marked b j) both-marked, and_right (marked a j) (marked b j) both-marked)

pub union_left : (a b : List ℕ) (j : ℕ) → marked a j ≡ true → marked (union a b) j ≡ true
union_left a b j e = rw (marked-union a b j, e)

pub union_right : (a b : List ℕ) (j : ℕ) → marked b j ≡ true → marked (union a b) j ≡ true
union_right a b j e = rw (marked-union a b j, e, or-true)

pub union-either : (a b : List ℕ) (j : ℕ) → marked (union a b) j ≡ true → (marked a j ≡ true) ⊎ (marked b j ≡ true)
union-either a b j e = either (marked a j) (marked b j) (sym (marked-union a b j) ∙ e)

-- How many of the 128 nodes a set lacks: no more where it gets others, and fewer where it gets one that it had not.
unfoldable pub lacking : List ℕ → ℕ
lacking marks = sum 128 (λ j. cond (marked marks j) 0 1)

pub lacking-most : (a b : List ℕ) → lacking (union a b) ≤ lacking a
unfolding lacking
lacking-most a b = sum_mono 128 (λ j. cond (marked (union a b) j) 0 1) (λ j. cond (marked a j) 0 1) (λ j h. rw (marked-union a b j) (less (marked a j) (marked b j)))
  where
    less : (x y : Bool) → cond (x || y) 0 1 ≤ cond x 0 1
    less true y = omega arith
    less false true = omega arith
    less false false = omega arith

pub lacking-less : (a b : List ℕ) (i : ℕ) → i < 128 → marked a i ≡ false → marked b i ≡ true → lacking (union a b) < lacking a
unfolding lacking
lacking-less a b i below new here =
    let kept = sum_mono 128 (λ j. cond (marked (union a b) j) 0 1 + cond (eqb i j) 1 0) (λ j. cond (marked a j) 0 1) (λ j h. each j) in
    omega (arith, kept, sum-add 128 (λ j. cond (marked (union a b) j) 0 1) (λ j. cond (eqb i j) 1 0), sum-pick 128 (λ j. 1) i below)
  where
    each : (j : ℕ) → cond (marked (union a b) j) 0 1 + cond (eqb i j) 1 0 ≤ cond (marked a j) 0 1
    each j = on-equal i j
        (λ e. rw (← e, eq-eqb i i refl, union_right a b i here, new) (omega arith))
        (λ n. rw (ne_eqb i j n, marked-union a b j) (less (marked a j) (marked b j)))
      where
        less : (x y : Bool) → cond (x || y) 0 1 + 0 ≤ cond x 0 1
        less true y = omega arith
        less false true = omega arith
        less false false = omega arith

-- What `lowest` finds is the lowest number of which the test holds, and n is found where there is none.
module _ (n : ℕ) (test : ℕ → Bool) where
  pub lowest-le : lowest n test ≤ n
  unfolding lowest
  lowest-le = on-option (first n test) (λ e. rw (lowest, e) (omega arith)) (λ i e. let low = first_some n test i e in rw (lowest, e) (omega (arith, low.below)))

  pub found-lowest : (j : ℕ) → j ≡ lowest n test → (j ≡ n → ⊥) → Lowest n test j
  unfolding lowest
  found-lowest j e some-number =
      on-option (first n test)
      (λ f. absurd (some-number (e ∙ rw f)))
      (λ i f. let same : j ≡ i = e ∙ rw f in rw same (first_some n test i f))

  pub found_none : (j : ℕ) → j ≡ lowest n test → j ≡ n → (i : ℕ) → i < n → test i ≡ false
  unfolding lowest
  found_none j e none-there =
      on-option (first n test)
      (first-none n test)
      (λ i f. let low = first_some n test i f in let same : j ≡ i = e ∙ rw f in absurd (omega (arith, low.below)))

  pub lowest-found : (j : ℕ) → Lowest n test j → j ≡ lowest n test
  unfolding lowest
  lowest-found j low = rw (some_first n test j low)

  pub none_found : ((i : ℕ) → i < n → test i ≡ false) → n ≡ lowest n test
  unfolding lowest
  none_found none-there = rw (none_first n test none-there)

-- The count of trailing zeros finds the lowest bit that is 1 in one word and 0 in another.
pub trailing-lowest : (reached visited : ℕ) → visited < 2 ^ 64 → count_trailing_zeros 64 (bit_and reached (2 ^ 64 - 1 - visited)) ≡ lowest_bit reached visited
unfolding lowest_bit
trailing-lowest reached visited fits =
    ⊎_elim
    (λ h. lowest-found 64 _ place record { below = h; fits = each place h ∙ trailing-bit 64 word h; lower = λ k p. each k (omega arith) ∙ trailing_below 64 word k p })
    (λ h. let all-zero : place ≡ 64 = omega (arith, trailing_le 64 word) in
    rw all-zero (none_found 64 _ (λ k p. each k p ∙ trailing_below 64 word k (omega arith))))
    (order place 64)
  where
    word : ℕ
    word = bit_and reached (2 ^ 64 - 1 - visited)

    place : ℕ
    place = count_trailing_zeros 64 word

    each : (k : ℕ) → k < 64 → (bit reached k && not (bit visited k)) ≡ bit word k
    each k h = rw (bit-and reached (2 ^ 64 - 1 - visited) k, bit_not 64 visited k h fits)

-- A node is reached and unvisited by its bit of the first words or of the second,
module _ (reached visited : List ℕ) where
  unvisited-low : (j : ℕ) → j < 64 → unvisited reached visited j ≡ (bit (get_or reached 0 0) j && not (bit (get_or visited 0 0) j))
  unfolding unvisited
  unvisited-low j h = rw (marked-low reached j h, marked-low visited j h)

  unvisited-high : (j : ℕ) → 64 ≤ j → unvisited reached visited j ≡ (bit (get_or reached 1 0) (j - 64) && not (bit (get_or visited 1 0) (j - 64)))
  unfolding unvisited
  unvisited-high j h = rw (marked-high reached j h, marked-high visited j h)

  -- so the lowest is that of the first words,
  pub lowest-low : (k : ℕ) → k ≡ lowest_bit (get_or reached 0 0) (get_or visited 0 0) → k < 64 → k ≡ lowest_unvisited reached visited
  unfolding lowest_unvisited lowest_bit
  lowest-low k e h =
      let low = found-lowest 64 _ k e (λ same. absurd (omega arith)) in
      lowest-found 128 _ k record { below = omega arith; fits = unvisited-low k h ∙ low.fits; lower = λ i p. unvisited-low i (omega arith) ∙ low.lower i p }

  -- or that of the second, of which 64 is the number for none.
  pub lowest-high : (k l : ℕ) → k ≡ lowest_bit (get_or reached 0 0) (get_or visited 0 0) → 64 ≤ k → l ≡ lowest_bit (get_or reached 1 0) (get_or visited 1 0) → 64 + l ≡ lowest_unvisited reached visited
  unfolding lowest_unvisited lowest_bit
  lowest-high k l e past f =
      on-equal l 64
      (λ full. let all : 64 + l ≡ 128 = omega arith in rw all (none_found 128 _ (λ i p. ⊎_elim (first_word i)
      (λ h. unvisited-high i h ∙ found_none 64 _ l f full (i - 64) (omega arith))
      (order i 64))))
      (λ some-bit.
      let high = found-lowest 64 _ l f some-bit in
      let back : 64 + l - 64 ≡ l = omega arith in
      lowest-found 128 _ (64 + l) record {
        below = omega (arith, high.below);
        fits = unvisited-high (64 + l) (omega arith) ∙ rw back high.fits;
        lower = λ i p. ⊎_elim (first_word i) (λ h. unvisited-high i h ∙ high.lower (i - 64) (omega arith)) (order i 64);
      })
    where
      first_word : (i : ℕ) → i < 64 → unvisited reached visited i ≡ false
      first_word i h = unvisited-low i h ∙ found_none 64 _ k e (let most = lowest-le 64 (λ k. bit (get_or reached 0 0) k && not (bit (get_or visited 0 0) k)) in omega arith) i h

  -- It is a node, reached and unvisited; where there is none, every node that is reached is visited.
  pub next-unvisited : (j : ℕ) → j ≡ lowest_unvisited reached visited → (j ≡ 128 → ⊥) → (j < 128) × (marked reached j ≡ true) × (marked visited j ≡ false)
  unfolding lowest_unvisited unvisited
  next-unvisited j e some-node =
      let low = found-lowest 128 (unvisited reached visited) j e some-node in
      (low.below, and_left (marked reached j) (not (marked visited j)) low.fits, not-true _ (and_right (marked reached j) (not (marked visited j)) low.fits))

  pub none-unvisited : (j : ℕ) → j ≡ lowest_unvisited reached visited → j ≡ 128 → (i : ℕ) → i < 128 → marked reached i ≡ true → marked visited i ≡ true
  unfolding lowest_unvisited unvisited
  none-unvisited j e none-there i h f = not-false _ (rw f at (found_none 128 (unvisited reached visited) j e none-there i h))
