-- Times, costs and sums over the links of a study, which are rows. Numbers by link stand in lists.
use Rattle.std.specs.Prelude.{ℕ, ◌+◌, ◌-◌, ◌*◌, ◌/◌, ◌^◌, min, Bool, ◌||◌, List, [], ◌++◌, length, replicate, ◌==◌, nat_le, slice_index, slice_index_or}
use Rattle.theory.specs.Finite.{sum, count, all, tabulate}
use Rattle.theory.specs.Network.{Network}
use Rattle.theory.specs.Flows.{link_total, balances, step, step_time, is_over}
use Rattle.theory.specs.Cost.{link_cost}
use Rattle.theory.specs.Study.{tail, head, capacity, network}
use Rattle.travel.specs.declared.steps.LinkTime.{LinkTime}

-- An array of 512 numbers of which the first m are f 0, .., f (m - 1) and the others 0.
unfoldable pub padded : ℕ → (ℕ → ℕ) → List ℕ
padded m f = tabulate m f ++ replicate (512 - m) 0

-- The totals S of a table, by link, in such an array.
abbrev pub table_totals : List (List ℕ) → List ℕ → List ℕ → List ℕ
table_totals links destinations table = padded (length links) (link_total (length destinations) (length links) table)

-- What reciprocals are parts of: those of shares of 2⁴², and those of capacities of 2³⁸.
abbrev pub share_parts : ℕ
share_parts = 4398046511104

abbrev pub capacity_parts : ℕ
capacity_parts = 274877906944

-- Dividing by d is multiplying by this and then dividing by p, a power of two: the same number, where the number that is divided is small.
unfoldable pub reciprocal : ℕ → ℕ → ℕ
reciprocal p d = p / d + 1

-- The step of a flow, by the reciprocals of its link's capacity and of the share.
unfoldable pub step_by : ℕ → ℕ → ℕ → ℕ
step_by by_capacity by_share flow = min 256 (64 * flow * by_share / share_parts * by_capacity / capacity_parts)

-- Number r of list i of powers: the power 4 - i of a step, in parts of 64⁴. Divided by 64⁴ it is that power divided by 64^(4 - i).
abbrev pub scaled_power : ℕ → ℕ → ℕ
scaled_power i r = r ^ (4 - i) * 64 ^ i

-- (A.5) The power of a link, by its row.
abbrev pub row_power : List ℕ → ℕ
row_power link = slice_index link 5 / 256

-- The time of a link, by its row, at a step.
abbrev pub row_time : List ℕ → ℕ → ℕ
row_time link r = step_time (slice_index link 2) (slice_index link 3) (row_power link) r

-- (A.4) The same with a yes or no: whether that is step 256.
abbrev pub timed : List ℕ → ℕ → LinkTime
timed link r = record { time = row_time link r; over = is_over r }

-- The links of a study as a network without nodes and trips.
abbrev pub roads : List (List ℕ) → Network
roads links = network 0 links [] []

-- The time of link l with the flows of a list, at a share.
unfoldable pub list_time : List (List ℕ) → ℕ → List ℕ → ℕ → ℕ
list_time links share flows l = row_time (slice_index_or links l []) (step (capacity links l) share (slice_index flows l))

-- The cost of the links with the flows of a list, at a share.
unfoldable pub list_cost : List (List ℕ) → ℕ → List ℕ → ℕ
list_cost links share flows =
    sum (length links) (λ l. link_cost (row_time (slice_index_or links l [])) (capacity links l) share (slice_index flows l))

-- (A.4) How many of these links have step 256.
unfoldable pub list_over : List (List ℕ) → ℕ → List ℕ → ℕ
list_over links share flows = count (length links) (λ l. is_over (step (capacity links l) share (slice_index flows l)))

-- Two totals of each link that belong together: row 0 has S of a table and row 1 has Y of its loading.
abbrev pub total_of : List (List ℕ) → ℕ → ℕ
total_of flows l = slice_index (slice_index_or flows 0 []) l

abbrev pub load_of : List (List ℕ) → ℕ → ℕ
load_of flows l = slice_index (slice_index_or flows 1 []) l

-- The sum over m links of two lists' products.
unfoldable pub list_product : ℕ → List ℕ → List ℕ → ℕ
list_product m times flows = sum m (λ l. slice_index times l * slice_index flows l)

-- Question 15 of totals in a list: each is at most the limit.
unfoldable pub list_fits : ℕ → List ℕ → ℕ → Bool
list_fits m flows limit = all m (λ l. nat_le (slice_index flows l) limit)

-- One destination's row of a table balances at every node but that destination.
unfoldable pub row_balances : ℕ → List (List ℕ) → ℕ → List ℕ → ℕ → List ℕ → Bool
row_balances nodes links destination trips share row =
    all nodes (λ j.
    (j == destination)
    || balances (length links) (tail links) (head links) (λ i. slice_index trips i) share (λ l. slice_index row l) j)
