-- Document 02, A.3: sets of nodes as marks, sixty-four nodes to a word, and the next node of a search.
use Rattle.std.specs.Prelude.{ℕ, ◌-◌, ◌/◌, ◌%◌, ◌^◌, Bool, ◌&&◌, not, cond, List, [], ◌∷◌, eqb, ltb, get_or}
use Rattle.std.proofs.Math.Option.{Option, none, some}
use Rattle.std.specs.Int.Bits.{bit_and, bit_or}
use Rattle.theory.specs.Finite.{first}

-- Bit k of a word.
unfoldable pub bit : ℕ → ℕ → Bool
bit word k = eqb (word / 2 ^ k % 2) 1

-- Two words mark 128 nodes: node j by bit j of the first or, from 64 on, by bit j - 64 of the second.
unfoldable pub marked : List ℕ → ℕ → Bool
marked marks j = cond (ltb j 64) (bit (get_or marks 0 0) j) (bit (get_or marks 1 0) (j - 64))

-- The set of one node, that of the nodes below n, that of all nodes of two sets, and that of the nodes of both.
unfoldable pub only_node : ℕ → List ℕ
only_node j = cond (ltb j 64) (2 ^ j ∷ 0 ∷ []) (0 ∷ 2 ^ (j - 64) ∷ [])

unfoldable pub nodes_below : ℕ → List ℕ
nodes_below n = cond (ltb n 64) ((2 ^ n - 1) ∷ 0 ∷ []) ((2 ^ 64 - 1) ∷ (2 ^ (n - 64) - 1) ∷ [])

unfoldable pub union : List ℕ → List ℕ → List ℕ
union a b = bit_or (get_or a 0 0) (get_or b 0 0) ∷ bit_or (get_or a 1 0) (get_or b 1 0) ∷ []

unfoldable pub common : List ℕ → List ℕ → List ℕ
common a b = bit_and (get_or a 0 0) (get_or b 0 0) ∷ bit_and (get_or a 1 0) (get_or b 1 0) ∷ []

-- The lowest number below n of which a test holds, or n where there is none.
abbrev pub or_else : ℕ → Option ℕ → ℕ
or_else n none = n
or_else n (some i) = i

unfoldable pub lowest : ℕ → (ℕ → Bool) → ℕ
lowest n test = or_else n (first n test)

-- The lowest-numbered node that is reached and unvisited, or 128 where there is none.
unfoldable pub unvisited : List ℕ → List ℕ → ℕ → Bool
unvisited reached visited j = marked reached j && not (marked visited j)

unfoldable pub lowest_unvisited : List ℕ → List ℕ → ℕ
lowest_unvisited reached visited = lowest 128 (unvisited reached visited)

-- The same within one word: its lowest bit that is 1 where that of another is 0, or 64.
unfoldable pub lowest_bit : ℕ → ℕ → ℕ
lowest_bit reached visited = lowest 64 (λ k. bit reached k && not (bit visited k))
