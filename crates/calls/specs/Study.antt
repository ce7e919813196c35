-- The study that a file of any version holds, as rows of numbers, and the network that it describes. Fields are read through the promises of
-- `study`.
use Rattle.std.specs.Prelude.{ℕ, ◌+◌, ◌*◌, min, cond, List, [], ◌∷◌, ◌++◌, eqb}
use Rattle.study.specs.Sections.{nodes, links, destinations, lorry_destinations, link_size, link_part, destination_part, trip_part, closed_part, lorry_part, barred_part}
use Rattle.study.specs.Fields.{tail, head, free_time, rise, capacity, power, destination, trips, mark_byte}
use Rattle.theory.specs.Finite.{tabulate, rows}
use Rattle.theory.specs.Network.{Network}
use Rattle.theory.specs.Study.{lorries_to, network}

-- A number as a byte: 255 stands for every number that is too large for one.
abbrev pub as_byte : ℕ → ℕ
as_byte x = min 255 x

-- A closed or a barred byte as a mark: 1 where the byte is 1, and else 0.
abbrev pub as_mark : ℕ → ℕ
as_mark x = cond (eqb x 1) 1 0

-- The fields of a link, in the order of the columns of a row. The last is two bytes: its power (A.5), and marks of its barred byte (A.7) and of the
-- closed byte of its head (A.2), 0 where the file has none.
unfoldable pub link_row : List ℕ → ℕ → List ℕ → List ℕ → ℕ → List ℕ
link_row link_bytes link_size closed_bytes barred_bytes l =
    tail link_bytes link_size l
    ∷ head link_bytes link_size l
    ∷ free_time link_bytes link_size l
    ∷ rise link_bytes link_size l
    ∷ capacity link_bytes link_size l
    ∷ (256 * as_byte (power link_bytes link_size l) + 2 * as_mark (mark_byte barred_bytes l) + as_mark (mark_byte closed_bytes (head link_bytes link_size l)))
    ∷ []

-- The rows of all links, in link order.
unfoldable pub link_rows : List ℕ → List (List ℕ)
link_rows file = tabulate (links file) (link_row (link_part file) (link_size file) (closed_part file) (barred_part file))

-- The node of every destination, in order.
unfoldable pub destination_nodes : List ℕ → List ℕ
destination_nodes file = tabulate (destinations file) (destination (destination_part file))

-- (A.7) The commodities: the destinations for cars and then, where the version has lorries, the same for lorries.
unfoldable pub commodities : List ℕ → List ℕ
commodities file = destination_nodes file ++ tabulate (lorry_destinations file) (λ k. lorries_to (destination (destination_part file) k))

-- The trips of a section to so many destinations, node by node: destination k has n entries, from k * n on.
abbrev pub entries_to : List ℕ → ℕ → ℕ → List ℕ
entries_to trip_bytes n count = rows count (λ k. tabulate n (trips trip_bytes n k))

-- D(j,s) of every commodity.
unfoldable pub trip_entries : List ℕ → List ℕ
trip_entries file = entries_to (trip_part file) (nodes file) (destinations file) ++ entries_to (lorry_part file) (nodes file) (lorry_destinations file)

unfoldable pub network_of : List ℕ → Network
network_of file = network (nodes file) (link_rows file) (commodities file) (trip_entries file)
