-- Document 01, 'Start, pass, run, audit', over a network: tables, shares and what a pass and a run do to them.
use Rattle.std.specs.Prelude.{ℕ, zero, suc, pred, ◌+◌, ◌*◌, ◌-◌, min, Bool, true, false, not, ◌||◌, cond, List, get_or, leb, eqb}
use Rattle.std.proofs.Math.Option.{Option, none, some}
use Rattle.theory.specs.Finite.{sum, first, largest, tabulate}
use Rattle.theory.specs.Network.{Network, total_trips}
use Rattle.theory.specs.Flows.{total, time_at, times}
use Rattle.theory.specs.Routes.{loading}
use Rattle.theory.specs.Cost.{gap}

-- A table with its share.
pub record Shared : Type 0 where
  pub table : List ℕ
  pub share : ℕ

-- How many numbers a table has: p·m.
abbrev pub table_size : Network → ℕ
table_size g = g.commodities * g.links

-- Start: W = 1, the table is Y at empty roads, where every step is 0.
unfoldable pub started : Network → Shared
started g = record { table = loading g (tabulate g.links (λ l. g.height l 0)); share = 1 }

-- The choice of j goes by each link's total flow: `s` of the judged table and `y` of the loading.

-- The sum over links of an amount × (time at flow S + j·Y, share W + j), with Y's total there.
unfoldable pub moved_times : Network → ℕ → (ℕ → ℕ) → (ℕ → ℕ) → ℕ → (ℕ → ℕ) → ℕ
moved_times g share s y j amount = sum g.links (λ l. amount l * time_at g (share + j) (λ i. s i + j * y i) l)

-- With d = W·Y − S per link, the sum of d × (time at flow S + j·Y, share W + j) is at most 0. It is written as two sums of natural
-- numbers compared: W × the sum with Y is at most the sum with S.
unfoldable pub qualifies : Network → ℕ → (ℕ → ℕ) → (ℕ → ℕ) → ℕ → Bool
qualifies g share s y j = leb (share * moved_times g share s y j y) (moved_times g share s y j s)

-- The largest qualifying j from 1 to the smaller of 64 and 1,024 − W, or 0 where there is none.
unfoldable pub chosen : Network → ℕ → (ℕ → ℕ) → (ℕ → ℕ) → ℕ
chosen g share s y = largest (min 64 (1024 - share)) (qualifies g share s y)

-- The table with j·Y added.
unfoldable pub added : Network → List ℕ → ℕ → List ℕ → List ℕ
added g table j y = tabulate (table_size g) (λ i. get_or table i 0 + j * get_or y i 0)

unfoldable pub doubled : Network → List ℕ → List ℕ
doubled g table = tabulate (table_size g) (λ i. 2 * get_or table i 0)

-- What a pass makes of the table that it judges, or `none` where there is no move: table + j·Y and W + j with the chosen j; where there
-- is none, both doubled if 2W is at most 1,024.
unfoldable pub move : Network → Shared → Option Shared
move g x =
    let w = x.share in
    let y = loading g (times g w x.table) in
    let j = chosen g w (total g x.table) (total g y) in
    elim (eqb j 0) [
      | false ↦ some (record { table = added g x.table j y; share = w + j })
      | true ↦ elim (leb (2 * w) 1024) [
        | true ↦ some (record { table = doubled g x.table; share = 2 * w })
        | false ↦ none
      ]
    ]

abbrev pub moves : Option Shared → Bool
moves none = false
moves (some x) = true

-- A run's tables: number 0 here is the start's (document 01's number 1), and each next one is what a pass makes of the one before, where
-- it moves.
unfoldable pub after_moves : Network → ℕ → Shared
after_moves g zero = started g
after_moves g (suc i) = elim (move g (after_moves g i)) [ none ↦ after_moves g i | some x ↦ x ]

-- A table is good enough for a run: its gap is at most excess × W × T.
unfoldable pub reaches : Network → ℕ → Shared → Bool
reaches g excess x = leb (gap g x.share x.table) (excess * x.share * total_trips g)

-- A run ends at a table: its gap is at most excess × W × T, or a pass does not move it.
unfoldable pub stops : Network → ℕ → Shared → Bool
stops g excess x = reaches g excess x || not (moves (move g x))

-- Tables judged: the smallest k at which table k stops the run, or k is the budget.
unfoldable pub judged : Network → ℕ → ℕ → ℕ
judged g budget excess =
    elim (first budget (λ i. stops g excess (after_moves g i))) [ none ↦ budget | some i ↦ suc i ]

-- The last judged table: table number `judged`.
unfoldable pub last_judged : Network → ℕ → ℕ → Shared
last_judged g budget excess = after_moves g (pred (judged g budget excess))
