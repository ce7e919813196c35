-- What the functions of this crate ask of their arguments, and the largest numbers that they meet.
use Rattle.std.specs.Prelude.{◌≡◌, ℕ, ◌+◌, ◌-◌, ◌*◌, ◌<◌, ◌≤◌, ◌⊎◌, List, [], length, get_or, slice_index, slice_index_or}
use Rattle.theory.specs.Study.{column, tail, head, capacity}
use Rattle.theory.specs.Flows.{sum_at}
use Rattle.travel.specs.Links.{capacity_parts, reciprocal, scaled_power, row_power, total_of, load_of}

-- No time is more than 16,383 + 16,383 × 256.
abbrev pub most_time : ℕ
most_time = 16383 * 257

-- No flow of an accepted table is more than share × T, with a share of 1,024 and T of 65,535 at most.
abbrev pub most_flow : ℕ
most_flow = 1024 * 65535

-- No total of a table that nobody judged yet is more than 64 numbers of 32 bits.
abbrev pub most_total : ℕ
most_total = 64 * 4294967295

-- The fields of a link, which is a row, are those that question 7 accepts.
pub record LinkFits (link : List ℕ) : Type 0 where
  pub some-time : 1 ≤ slice_index link 2
  pub time-fits : get_or link 2 0 ≤ 16383
  pub rise-fits : get_or link 3 0 ≤ 16383
  pub some-capacity : 1 ≤ slice_index link 4
  pub some-power : 1 ≤ row_power link
  pub power-fits : row_power link ≤ 4

-- There are at most 512 links, each of which fits.
pub record LinksFit (links : List (List ℕ)) : Type 0 where
  pub few : length links ≤ 512
  pub link : (l : ℕ) → l < length links → LinkFits (slice_index_or links l [])

-- What a call works out once of the curves, in one list: in the first 512 places the reciprocals of the links' capacities, and after them
-- lists of the powers of the steps 0 to 256 (A.5). There is one list, that of power 4, or there are all four, down to that of power 1.
abbrev pub ListRoom : ℕ → Type 0
ListRoom places = (places ≡ 769) ⊎ (places ≡ 1540)

pub record Powers (curves : List ℕ) : Type 0 where
  pub lists : ℕ
  pub some-list : 1 ≤ lists
  pub few-lists : lists ≤ 4
  pub size : length curves ≡ 512 + 257 * lists
  pub power : (i r : ℕ) → i < lists → r ≤ 256 → slice_index curves (512 + 257 * i + r) ≡ scaled_power i r

-- The first n numbers of list i.
abbrev pub ListTo : ℕ → ℕ → List ℕ → Type 0
ListTo n i list = (r : ℕ) → r < n → slice_index list r ≡ scaled_power i r

-- Curves of so many places have the list of a link's power: that list ends at 512 + 257 × (5 - q).
abbrev pub HasList : ℕ → List ℕ → Type 0
HasList places link = 1797 ≤ places + 257 * row_power link

-- A link that fits, curves that have the list of its power, and where in them that list begins.
pub record ListAt (curves link : List ℕ) (list : ℕ) : Type 0 where
  pub powers : Powers curves
  pub fit : LinkFits link
  pub has-list : HasList (length curves) link
  pub begins : list ≡ 512 + 257 * (4 - row_power link)

-- A link that fits, and where in curves the list of its power begins.
pub record CurveFits (link : List ℕ) (list : ℕ) (curves : List ℕ) : Type 0 where
  pub fit : LinkFits link
  pub within : list + 256 < length curves
  pub power : (r : ℕ) → r ≤ 256 → slice_index curves (list + r) ≡ scaled_power (4 - row_power link) r

-- The lists of the powers of all links.
abbrev pub HasLists : ℕ → List (List ℕ) → Type 0
HasLists places links = (l : ℕ) → l < length links → HasList places (slice_index_or links l [])

pub record LinkPowers (links : List (List ℕ)) (curves : List ℕ) : Type 0 where
  pub powers : Powers curves
  pub has-list : HasLists (length curves) links

-- Room for the curves of links: what is asked of a list that they are put into.
pub record CurveRoom (links : List (List ℕ)) (places : ℕ) : Type 0 where
  pub room : ListRoom places
  pub has-list : HasLists places links

pub record Reciprocals (m : ℕ) (links : List (List ℕ)) (curves : List ℕ) : Type 0 where
  pub reciprocal-at : (l : ℕ) → l < m → slice_index curves l ≡ reciprocal capacity_parts (capacity links l)
  pub capacity-fits : (l : ℕ) → l < m → capacity links l ≤ 65535

pub record Curves (links : List (List ℕ)) (curves : List ℕ) : Type 0 where
  pub powers : LinkPowers links curves
  pub reciprocals : Reciprocals (length links) links curves

-- A share is 1 to 1,024.
pub record ShareFits (share : ℕ) : Type 0 where
  pub some_share : 1 ≤ share
  pub share-fits : share ≤ 1024

-- The first m numbers of a list are at most a number.
abbrev pub Within : ℕ → ℕ → List ℕ → Type 0
Within m most xs = (l : ℕ) → l < m → slice_index xs l ≤ most

-- An array of n numbers of which those past the first m are 0.
pub record ClearPast (n m : ℕ) (xs : List ℕ) : Type 0 where
  pub size : length xs ≡ n
  pub rest : (l : ℕ) → m ≤ l → slice_index xs l ≡ 0

-- The same of an array by link.
abbrev pub Clear : ℕ → List ℕ → Type 0
Clear m xs = ClearPast 512 m xs

-- What the choice of j goes by: links, their flows S in an accepted table with a share, and their flows Y in a loading.
pub record MoveFits (links flows : List (List ℕ)) (share : ℕ) : Type 0 where
  pub links-fit : LinksFit links
  pub shared : ShareFits share
  pub totals-fit : (l : ℕ) → l < length links → total_of flows l ≤ share * 65535
  pub loads-fit : (l : ℕ) → l < length links → load_of flows l ≤ 65535

-- The times of m links are 1 to the most that a time is.
pub record TimesFit (m : ℕ) (times : List ℕ) : Type 0 where
  pub some-time : (l : ℕ) → l < m → 1 ≤ slice_index times l
  pub times-fit : Within m most_time times

-- One destination's row of flows, by link, and the trips to that destination, by node. The ends of links are nodes.
pub record RowFits (nodes : ℕ) (links : List (List ℕ)) (trips row : List ℕ) : Type 0 where
  pub few-nodes : nodes ≤ 128
  pub few-links : length links ≤ 512
  pub tail-node : (l : ℕ) → l < length links → tail links l < nodes
  pub head-node : (l : ℕ) → l < length links → head links l < nodes
  pub trips-long : length trips ≡ nodes
  pub row-long : length row ≡ length links

-- At most 512 links, whose ends are nodes of at most 128.
pub record EndsFit (links : List (List ℕ)) : Type 0 where
  pub few-links : length links ≤ 512
  pub tail-node : (l : ℕ) → l < length links → tail links l < 128
  pub head-node : (l : ℕ) → l < length links → head links l < 128

-- The sums of a row's flows by node: over those of the first m links whose end is that node. End 0 is the tail and 1 the head.
pub record SumsAt (m : ℕ) (links : List (List ℕ)) (end : ℕ) (row sums : List ℕ) : Type 0 where
  pub size : length sums ≡ 128
  pub at : (j : ℕ) → j < 128 → slice_index sums j ≡ sum_at m (column end links) j (λ l. slice_index row l)

-- A row is added to sums: the first m numbers of the row to the first m sums, and nothing to later ones.
pub record RowAdded (m : ℕ) (row before after : List ℕ) : Type 0 where
  pub size : length after ≡ length before
  pub added : (l : ℕ) → l < m → slice_index after l ≡ slice_index before l + slice_index row l
  pub kept : (l : ℕ) → m ≤ l → slice_index after l ≡ slice_index before l
