-- What is computed of a judged table, over lists.
use Rattle.std.specs.Prelude.{ℕ, ◌*◌, ◌≤◌, ◌<◌, ◌≡◌, Bool, true, List, [], length, get_or}
use Rattle.theory.specs.Network.{Network}
use Rattle.theory.specs.Flows.{link_total, over}
use Rattle.theory.specs.Cost.{cost, gap}
use Rattle.theory.specs.Moves.{moves}
use Rattle.theory.specs.Notes.{note_of}
use Rattle.calls.specs.Calls.{share_after, table_after, note_after}
use Rattle.travel.specs.Links.{padded, list_time, list_product, total_of, load_of}
use Rattle.travel.specs.Ranges.{LinkPowers, Within, Clear, TimesFit, most_time, most_flow}
use Rattle.judging.specs.declared.Step.{Step}
use Rattle.judging.specs.declared.Sums.{Sums}
use Rattle.judging.specs.declared.Passed.{Passed}
use Rattle.judging.specs.declared.Standing.{Standing}
use Rattle.judging.specs.declared.Turn.{Turn}
use Rattle.judging.specs.Classes.{ClassChains, ClassNexts}
use Rattle.judging.specs.Study.{Study, link_count, commodity_count, move_of, step_of, share_after_step, table_after_step}
use Rattle.moves.specs.Loading.{loading_along, volume_rows}

-- What a call computes once: the chains of a study's links for cars and, where there are any, for lorries, and the powers of the steps.
pub record Prepared (d : Study) (chains : List (List ℕ)) (curves : List ℕ) : Type 0 where
  pub chains-are : ClassChains d chains
  pub powers-are : LinkPowers d.links curves

-- The arrays that are lent for judging a study: times and loads are 0 past the links, next links and volumes have a row for each
-- commodity, and totals S and loads Y are two arrays.
pub record Lent (d : Study) (times : List ℕ) (nexts volumes flows : List (List ℕ)) : Type 0 where
  pub times-clear : Clear (link_count d) times
  pub nexts-long : commodity_count d ≤ length nexts
  pub volumes-long : commodity_count d ≤ length volumes
  pub flows_long : length flows ≡ 2
  pub loads-clear : Clear (link_count d) (get_or flows 1 [])

-- The totals S are those of a table.
abbrev pub TotalsOf : Study → List ℕ → List (List ℕ) → Type 0
TotalsOf d table flows = get_or flows 0 [] ≡ padded (link_count d) (link_total (commodity_count d) (link_count d) table)

-- The totals S are in their range.
abbrev pub TotalsFit : ℕ → List (List ℕ) → Type 0
TotalsFit m flows = Within m most_flow (get_or flows 0 [])

-- Arrays hold the times at totals S and a share, the next links at these times, the volumes of the loading along them, and its totals Y.
pub record Known (d : Study) (share : ℕ) (times : List ℕ) (nexts volumes flows : List (List ℕ)) : Type 0 where
  pub times-are : times ≡ padded (link_count d) (list_time d.links share (get_or flows 0 []))
  pub times-fit : TimesFit (link_count d) times
  pub nexts-are : ClassNexts d times nexts
  pub volumes-long : commodity_count d ≤ length volumes
  pub volumes-are :
      volume_rows d.nodes (link_count d) (commodity_count d) nexts volumes
      ≡ loading_along d.nodes d.links (commodity_count d) d.trips nexts
  pub flows_long : length flows ≡ 2
  pub loads-are :
      get_or flows 1 []
      ≡ padded (link_count d)
      (link_total (commodity_count d) (link_count d) (loading_along d.nodes d.links (commodity_count d) d.trips nexts))

-- What judging leaves: it is known, and the totals S are as they were.
pub record JudgedAt (d : Study) (share : ℕ) (flows₀ : List (List ℕ)) (times : List ℕ) (nexts volumes flows : List (List ℕ)) : Type 0 where
  pub known : Known d share times nexts volumes flows
  pub totals-kept : get_or flows 0 [] ≡ get_or flows₀ 0 []

-- What the gap asks: times and totals in their ranges, and W × the least times at most the times spent.
pub record GapFits (m : ℕ) (times : List ℕ) (flows : List (List ℕ)) (share : ℕ) : Type 0 where
  pub few-links : m ≤ 512
  pub times-fit : Within m most_time times
  pub totals-fit : (l : ℕ) → l < m → total_of flows l ≤ most_flow
  pub loads-fit : (l : ℕ) → l < m → load_of flows l ≤ most_flow
  pub least : share * list_product m times (get_or flows 1 []) ≤ list_product m times (get_or flows 0 [])

-- What an audit answers of a table.
pub record Audited (g : Network) (table : List ℕ) (share : ℕ) (r : Sums) : Type 0 where
  pub gap_is : r.gap ≡ gap g share table
  pub cost-is : r.cost ≡ cost g share table
  pub over-is : r.over ≡ over g share table

-- What a pass answers of a table, and what it leaves.
pub record PassedOn (g : Network) (table : List ℕ) (share : ℕ) (note : List ℕ) (r : Passed) (after noted : List ℕ) : Type 0 where
  pub moved-is : r.moved ≡ moves (move_of g table share)
  pub share-is : r.share ≡ share_after share (move_of g table share)
  pub gap_is : r.gap ≡ gap g share table
  pub cost-is : r.cost ≡ cost g share table
  pub over-is : r.over ≡ over g share table
  pub table_is : after ≡ table_after table (move_of g table share)
  pub note-is : noted ≡ note_after (note_of g (record { table = table; share = share })) note (move_of g table share)

-- What a turn is handed: a share, and a limit that excess × T can be.
pub record Stands (d : Study) (table : List ℕ) (at : Standing) (times : List ℕ) (nexts volumes flows : List (List ℕ)) : Type 0 where
  pub limit-fits : at.limit ≤ 65535 * 65535
  pub totals-are : TotalsOf d table flows
  pub known : at.known ≡ true → Known d at.share times nexts volumes flows

-- What a turn answers of a table, and what it leaves.
pub record Turned (g : Network) (table : List ℕ) (at : Standing) (r : Turn) (after : List ℕ) : Type 0 where
  pub step_is : r.step ≡ step_of g table at.share at.limit at.last
  pub gap_is : r.gap ≡ gap g at.share table
  pub share-is : r.share ≡ share_after_step r.step at.share (move_of g table at.share)
  pub table_is : after ≡ table_after_step r.step table (move_of g table at.share)

-- The arrays after a turn: they can be lent again, hold the totals of the table, and what judging it computes where the turn says so.
pub record Left (d : Study) (r : Turn) (after times : List ℕ) (nexts volumes flows : List (List ℕ)) : Type 0 where
  pub lent : Lent d times nexts volumes flows
  pub totals-are : TotalsOf d after flows
  pub known : r.known ≡ true → Known d r.share times nexts volumes flows

-- A turn with its step, the share after it, the gap of the table that it judged, and whether the arrays are known for the next one.
abbrev pub turn_of : Step → ℕ → ℕ → Bool → Turn
turn_of step share gap known = record { step = step; share = share; gap = gap; known = known }
