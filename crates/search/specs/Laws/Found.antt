-- Where no link that may be used gives its tail less than its mark, the marks of a search are the distances.
use Rattle.std.specs.Prelude.{ℕ, ◌+◌, ◌≤◌, ◌<◌, ◌≡◌, refl, true, List, length, ltb}
use Rattle.std.proofs.Common.{arith, ◌∙◌, lt-ltb, ltb-true, le-ltb}
use Rattle.std.proofs.Math.Path.{sym, ap}
use Rattle.std.proofs.Math.Logic.{⊎_elim}
use Rattle.std.proofs.Math.Option.{none, some, some-injective}
use Rattle.std.proofs.Math.ListN.{get_or, get_or-eq_default}
use Rattle.theory.specs.Study.{tail, head, node_of, may_use}
use Rattle.theory.specs.Routes.{Routing, distances, distance}
use Rattle.theory.specs.Laws.Cases.{on_test, none-some}
use Rattle.theory.specs.Laws.Finite.{order, sum_bound}
use Rattle.theory.specs.Laws.Paths.{WellFormed}
use Rattle.theory.specs.Laws.Rounds.{Through}
use Rattle.theory.specs.Laws.Distances.{Solves, length-distances, solution-unique}
use Rattle.theory.specs.Laws.Padded.{padded-at, padded-is}
use Rattle.search.specs.Search.{routing_from, unreached, mark, marks}
use Rattle.search.specs.Given.{Searchable}
use Rattle.search.specs.Marks.{reach, reached, distance_of, Searching}

-- A mark below unreached stands for itself,
some-distance : (x : ℕ) → x < unreached → distance_of x ≡ some x
unfolding distance_of
some-distance x h = rw (lt-ltb x unreached h)

-- and no other mark stands for a number.
distance_some : (x y : ℕ) → distance_of x ≡ some y → (x ≡ y) × (x < unreached)
unfolding distance_of
distance_some x y e =
    on_test (ltb x unreached) (λ t. (some-injective x y (rw t at e), ltb-true x unreached t)) (λ t. none-some refl (rw t at e))

mark-distance : (x : ℕ) → x ≤ unreached → mark (distance_of x) ≡ x
unfolding mark distance_of
mark-distance x h =
    ⊎_elim (λ b. rw (lt-ltb x unreached b)) (λ b. rw (le-ltb x unreached b) (omega arith)) (order x unreached)

-- The marks of the distances, node by node.
module _ (q : Routing) (few : q.nodes ≤ 128) where
  pub marks-at : (j : ℕ) → j < 128 → get_or (marks q) j 0 ≡ mark (distance q j)
  unfolding marks mark
  marks-at j h = padded-at mark (distances q) q.nodes (length-distances q) few j h

  pub marks-are : (d : List ℕ) → length d ≡ 128 → ((j : ℕ) → j < 128 → get_or d j 0 ≡ mark (distance q j)) → d ≡ marks q
  unfolding marks mark
  marks-are d long same = padded-is mark (distances q) q.nodes (length-distances q) few d long same

-- At most 128 nodes are reached.
reached-few : (d : List ℕ) → reached d ≤ 128
unfolding reached
reached-few d = omega (arith, sum_bound 128 1 (λ j. reach (get_or d j 0)) (λ j h. omega arith))

module _ {nodes : ℕ} {links : List (List ℕ)} {times : List ℕ} {s : ℕ} (g : Searchable nodes links times s) where
  pub well-formed : WellFormed (routing_from nodes links times s)
  unfolding routing_from
  well-formed =
      record {
        tail-node = g.roads.tail-node;
        head-node = g.roads.head-node;
        destination-node = g.destination-node;
        some-time = g.roads.some-time;
      }

  module _ {d : List ℕ} (w : Searching nodes links times s d)
      (settled : (l : ℕ) → l < length links → may_use links s l ≡ true → get_or d (tail links l) 0 ≤ get_or times l 0 + get_or d (head links l) 0) where
    over-link : (l x : ℕ) → l < length links → may_use links s l ≡ true → distance_of (get_or d (head links l) 0) ≡ some x
        → (y : ℕ) × (distance_of (get_or d (tail links l) 0) ≡ some y) × (y ≤ get_or times l 0 + x)
    over-link l x h may e =
        let (same, below) = distance_some (get_or d (head links l) 0) x e in
        let bound = w.bounded (head links l) (omega (arith, g.roads.head-node l h, g.roads.few-nodes)) below in
        let least = settled l h may in
        let fits : get_or d (tail links l) 0 < unreached = omega (arith, g.roads.short-time l h, reached-few d) in
        (get_or d (tail links l) 0, some-distance (get_or d (tail links l) 0) fits, omega arith)

    attained : (j y : ℕ) → j < nodes → (j ≡ node_of s → ⊥) → distance_of (get_or d j 0) ≡ some y
        → (l : ℕ) × Through (routing_from nodes links times s) (λ i. distance_of (get_or d i 0)) j y l
    unfolding routing_from
    attained j y h away e =
        let (same, below) = distance_some (get_or d j 0) y e in
        let a = w.attained j h away below in
        let place = ap (λ i. get_or d i 0) a.leaves in
        let least = settled a.link a.below a.usable in (
          a.link,
          record {
            below = a.below;
            usable = a.usable;
            leaves = a.leaves;
            rest = get_or d (head links a.link) 0;
            at_head = some-distance (get_or d (head links a.link) 0) a.head-reached;
            adds-up = omega (arith, a.at_least);
          },
        )

    solves : Solves (routing_from nodes links times s) (λ j. distance_of (get_or d j 0))
    unfolding routing_from
    solves =
        record {
          at-destination = ap distance_of w.destination ∙ some-distance 0 (omega arith);
          over-link = over-link;
          attained = attained;
        }

    within : (j : ℕ) → j < 128 → j < nodes → get_or d j 0 ≡ mark (distance (routing_from nodes links times s) j)
    unfolding routing_from
    within j h b =
        sym (mark-distance (get_or d j 0) (w.marked j h))
        ∙ ap mark (solution-unique (routing_from nodes links times s) well-formed (λ i. distance_of (get_or d i 0)) solves j b)

    past : (j : ℕ) → j < 128 → nodes ≤ j → get_or d j 0 ≡ mark (distance (routing_from nodes links times s) j)
    unfolding mark routing_from
    past j h b =
        let size = length-distances (routing_from nodes links times s) in
        w.outside j b h ∙ ap mark (sym (get_or-eq_default (distances (routing_from nodes links times s)) none (omega arith)))

    -- The marks are the definition's.
    pub search-found : d ≡ marks (routing_from nodes links times s)
    unfolding routing_from
    search-found =
        marks-are (routing_from nodes links times s) g.roads.few-nodes d w.size (λ j h. ⊎_elim (within j h) (past j h) (order j nodes))
