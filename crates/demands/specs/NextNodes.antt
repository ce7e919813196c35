-- A.3: what the words of marks say of a node, and which node a search finds.
use Rattle.std.specs.Prelude.{ℕ, ◌-◌, ◌/◌, ◌%◌, ◌<◌, false, List, ◌↔◌, ◌≡◌, refl, get_or}
use Rattle.std.proofs.Common.{arith, ⊎_elim, sym}
use Rattle.theory.specs.Marks.{bit, marked, unvisited, lowest_unvisited}
use Rattle.theory.specs.Laws.Finite.{order, Lowest}
use Rattle.theory.specs.Laws.Marks.{marked-low, marked-high, found-lowest, found_none, lowest-found, none_found}

-- Sixty-four nodes to a word.
pub word_of : (marks : List ℕ) (j : ℕ) → j < 128 → marked marks j ≡ bit (get_or marks (j / 64) 0) (j % 64)
word_of marks j h =
    ⊎_elim
    (λ low.
    let word : j / 64 ≡ 0 = omega arith in
    let place : j % 64 ≡ j = omega arith in
    rw (word, place) (marked-low marks j low))
    (λ high.
    let word : j / 64 ≡ 1 = omega arith in
    let place : j % 64 ≡ j - 64 = omega arith in
    rw (word, place) (marked-high marks j high))
    (order j 64)

-- The node found is the lowest-numbered one that is reached and unvisited,
pub found-exactly : (reached visited : List ℕ) (j : ℕ) → ((lowest_unvisited reached visited ≡ j) × (j < 128)) ↔ Lowest 128 (unvisited reached visited) j
unfolding lowest_unvisited
found-exactly reached visited j = (
  λ (e, h). found-lowest 128 (unvisited reached visited) j (sym e) (λ same. absurd (omega arith)),
  λ low. (sym (lowest-found 128 (unvisited reached visited) j low), low.below),
)

-- and none is found exactly when there is none.
pub none-exactly : (reached visited : List ℕ) → (lowest_unvisited reached visited ≡ 128) ↔ ((j : ℕ) → j < 128 → unvisited reached visited j ≡ false)
unfolding lowest_unvisited
none-exactly reached visited = (
  λ e. found_none 128 (unvisited reached visited) 128 (sym e) refl,
  λ none-there. sym (none_found 128 (unvisited reached visited) none-there),
)
