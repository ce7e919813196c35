-- Least times of one commodity: the trips of cars, or of lorries, to one destination.
use Rattle.std.specs.Prelude.{ℕ, ◌-◌, List, ◌++◌, map, length, get_or, replicate}
use Rattle.std.proofs.Math.Option.{Option, none, some}
use Rattle.theory.specs.Routes.{Routing, distances}
use Rattle.theory.specs.Study.{tail, head, node_of, may_use}

-- The routing of a commodity over the links of a study that may carry it, at the times of a list. It is that of the study's network for a
-- commodity of that number.
unfoldable pub routing_from : ℕ → List (List ℕ) → List ℕ → ℕ → Routing
routing_from nodes links times commodity =
    record {
      nodes = nodes;
      links = length links;
      tail = tail links;
      head = head links;
      usable = may_use links commodity;
      destination = node_of commodity;
      time = λ l. get_or times l 0;
    }

-- A node without a path is marked unreached, by 2^30, which is more than any distance.
abbrev pub unreached : ℕ
unreached = 1073741824

unfoldable pub mark : Option ℕ → ℕ
mark none = unreached
mark (some x) = x

-- 128 marks: the distances of the nodes, and unreached past them.
unfoldable pub marks : Routing → List ℕ
marks q = map mark (distances q) ++ replicate (128 - q.nodes) unreached
