-- The links with an end at a place, as a chain: the lowest of them, and from each link the lowest one above it with the same end. The end is a
-- link's tail (0), for the links out of a node, or its head (1), for those into it. The places of the nodes are 0 to 127. Links whose head is
-- closed are apart from those whose head is open: they end 128 places on. The chains are those of a class of commodities, of lorries or of cars:
-- the links that this class is barred from end 256 places on, where nobody looks.
use Rattle.std.specs.Prelude.{ℕ, ◌+◌, ◌≤◌, ◌<◌, ◌≡◌, Bool, ◌&&◌, cond, List, [], ◌++◌, length, get_or, eqb, leb}
use Rattle.theory.specs.Finite.{first, tabulate}
use Rattle.theory.specs.Study.{column, tail, head, closed, barred_to, no_link, link_mark}

-- Where a link ends.
unfoldable pub end_of : Bool → List (List ℕ) → ℕ → ℕ → ℕ
end_of lorries links end l =
    cond (barred_to links lorries l) (256 + column end links l)
    (cond (eqb (closed links l) 1) (128 + column end links l) (column end links l))

-- The lowest of the links from number a on with an end at place j.
unfoldable pub lowest_from : Bool → List (List ℕ) → ℕ → ℕ → ℕ → ℕ
lowest_from lorries links end j a = link_mark (first (length links) (λ l. leb a l && eqb (end_of lorries links end l) j))

-- At places 0 to 383: the lowest link with an end there. By link, from place 384 on: the lowest link above it with the same end.
unfoldable pub chain_of : Bool → List (List ℕ) → ℕ → List ℕ
chain_of lorries links end =
    tabulate 384 (λ j. lowest_from lorries links end j 0)
    ++ tabulate 512 (λ l. lowest_from lorries links end (end_of lorries links end l) (l + 1))

-- The chains of the links into each node and of those out of it.
pub record Linked (lorries : Bool) (links : List (List ℕ)) (chains : List (List ℕ)) : Type 0 where
  pub into : get_or chains 0 [] ≡ chain_of lorries links 1
  pub out : get_or chains 1 [] ≡ chain_of lorries links 0

-- What chains ask of the links: at most 512, between 128 nodes.
pub record Chainable (links : List (List ℕ)) : Type 0 where
  pub few-links : length links ≤ 512
  pub tail-node : (l : ℕ) → l < length links → tail links l < 128
  pub head-node : (l : ℕ) → l < length links → head links l < 128

-- A walk along the chain of place j is at link l, or past the last: what P says holds of the links passed.
pub record Passed (lorries : Bool) (links : List (List ℕ)) (end j : ℕ) (P : ℕ → Type 0) (l : ℕ) : Type 0 where
  pub on_chain : (l ≡ no_link → ⊥) → (l < length links) × (end_of lorries links end l ≡ j)
  pub passed : (i : ℕ) → i < length links → i < l → end_of lorries links end i ≡ j → P i
