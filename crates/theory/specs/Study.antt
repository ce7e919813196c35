-- A study as rows of numbers, one form for all versions of the file: how many nodes; by link its tail, head, free time a, rise b, capacity c,
-- whether its head is closed, whether lorries are barred from it and its power q; the commodities; and their trips D(j,s), commodity by commodity
-- and node by node.
use Rattle.std.specs.Prelude.{ℕ, ◌+◌, ◌*◌, ◌/◌, ◌%◌, ◌<◌, Bool, not, ◌&&◌, ◌||◌, ◌≡◌, List, [], length, get_or, eqb, leb}
use Rattle.std.proofs.Math.Option.{Option, none, some}
use Rattle.theory.specs.Network.{Network}
use Rattle.theory.specs.Flows.{step_time}

-- The columns of a link. Past the last link each is 0.
abbrev pub column : ℕ → List (List ℕ) → ℕ → ℕ
column c links l = get_or (get_or links l []) c 0

abbrev pub tail : List (List ℕ) → ℕ → ℕ
tail links l = column 0 links l

abbrev pub head : List (List ℕ) → ℕ → ℕ
head links l = column 1 links l

abbrev pub free_time : List (List ℕ) → ℕ → ℕ
free_time links l = column 2 links l

abbrev pub rise : List (List ℕ) → ℕ → ℕ
rise links l = column 3 links l

abbrev pub capacity : List (List ℕ) → ℕ → ℕ
capacity links l = column 4 links l

-- The last column is two bytes. (A.2) The lowest bit of the lower is 1 where the link's head is closed,
abbrev pub closed : List (List ℕ) → ℕ → ℕ
closed links l = column 5 links l % 2

-- (A.7) and the next one is 1 where lorries are barred from the link.
abbrev pub barred : List (List ℕ) → ℕ → ℕ
barred links l = column 5 links l / 2 % 2

-- (A.5) The higher is the power q.
abbrev pub power : List (List ℕ) → ℕ → ℕ
power links l = column 5 links l / 256

-- Links of versions 1 and 2 have power 4.
abbrev pub AllFourth : List (List ℕ) → Type 0
AllFourth links = (l : ℕ) → l < length links → power links l ≡ 4

-- (A.7) A commodity is the trips of cars, or of lorries, to one destination. It is kept as a number: the destination's node, and 128 more where
-- it is of lorries.
abbrev pub node_of : ℕ → ℕ
node_of commodity = commodity % 128

abbrev pub of_lorries : ℕ → Bool
of_lorries commodity = leb 128 commodity

abbrev pub lorries_to : ℕ → ℕ
lorries_to destination = 128 + destination % 128

-- (A.7) Lorries keep off barred links.
unfoldable pub barred_to : List (List ℕ) → Bool → ℕ → Bool
barred_to links lorries l = lorries && eqb (barred links l) 1

-- (A.2) A link whose head is closed may carry only flow to that head.
unfoldable pub may_use : List (List ℕ) → ℕ → ℕ → Bool
may_use links commodity l =
    not (barred_to links (of_lorries commodity) l) && (not (eqb (closed links l) 1) || eqb (head links l) (node_of commodity))

-- The network of a study. Commodity k's trips stand from k * n on.
unfoldable pub network : ℕ → List (List ℕ) → List ℕ → List ℕ → Network
network nodes links commodities trips =
    record {
      nodes = nodes;
      links = length links;
      tail = tail links;
      head = head links;
      capacity = capacity links;
      height = λ l. step_time (free_time links l) (rise links l) (power links l);
      commodities = length commodities;
      destination = λ k. node_of (get_or commodities k 0);
      trips = λ k j. get_or trips (k * nodes + j) 0;
      may_use = λ k. may_use links (get_or commodities k 0);
    }

-- No link, where link numbers are kept: the largest number of 16 bits.
abbrev pub no_link : ℕ
no_link = 65535

-- A link, or none, as it is kept.
unfoldable pub link_mark : Option ℕ → ℕ
link_mark none = no_link
link_mark (some l) = l
