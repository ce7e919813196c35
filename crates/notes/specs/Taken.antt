-- A note's loading taken back out of a table, over a study in rows.
use Rattle.std.specs.Prelude.{ℕ, ◌*◌, ◌-◌, ◌/◌, ◌≤◌, ◌<◌, ◌≡◌, Bool, true, false, ◌&&◌, cond, List, leb, length, get_or}
use Rattle.theory.specs.Finite.{all, tabulate}
use Rattle.theory.specs.Network.{Network, Sound, total_trips}
use Rattle.theory.specs.Moves.{Shared}
use Rattle.theory.specs.Notes.{even, note_leads, can_take_back, taken_back}
use Rattle.theory.specs.Study.{network}
use Rattle.calls.specs.Calls.{overwritten}
use Rattle.notes.specs.declared.Taken.{Taken}

-- What taking back asks: a study that passes questions 1 to 11, and a table and a note that pass question 12.
pub record Takeable (n : ℕ) (links : List (List ℕ)) (commodities trips table note : List ℕ) : Type 0 where
  pub few-nodes : n ≤ 128
  pub few-links : length links ≤ 512
  pub few-commodities : length commodities ≤ 64
  pub trips-long : length trips ≡ length commodities * n
  pub sound : Sound (network n links commodities trips)
  pub few-trips : total_trips (network n links commodities trips) ≤ 65535
  pub holds : length commodities * length links ≤ length table
  pub note-holds : length commodities * n < length note

-- What it answers and leaves: refused with a number, or taken back to a table and a share.
pub record Refused (number : ℕ) (table : List ℕ) (r : Taken) (after : List ℕ) : Type 0 where
  pub refusal_is : r.refusal ≡ number
  pub share-is : r.share ≡ 0
  pub table_is : after ≡ table

pub record TakenTo (x : Shared) (table : List ℕ) (r : Taken) (after : List ℕ) : Type 0 where
  pub refusal_is : r.refusal ≡ 0
  pub share-is : r.share ≡ x.share
  pub table_is : after ≡ overwritten x.table table

-- The one where a test fails, and the other where it holds.
pub record Tested (test : Bool) (number : ℕ) (x : Shared) (table : List ℕ) (r : Taken) (after : List ℕ) : Type 0 where
  pub refused : test ≡ false → Refused number table r after
  pub taken : test ≡ true → TakenTo x table r after

-- A table of `size` numbers and its share halved, where all are even,
abbrev pub Halved : ℕ → ℕ → List ℕ → Taken → List ℕ → Type 0
Halved size share table =
    Tested (even share && all size (λ i. even (get_or table i 0))) 22 (record { table = tabulate size (λ i. get_or table i 0 / 2); share = share / 2 }) table

-- or lessened by j·Y and j, where no number is less than its part of j·Y.
abbrev pub Lessened : ℕ → ℕ → ℕ → List ℕ → List ℕ → Taken → List ℕ → Type 0
Lessened size share j y table =
    Tested (all size (λ i. leb (j * get_or y i 0) (get_or table i 0))) 22
    (record { table = tabulate size (λ i. get_or table i 0 - j * get_or y i 0); share = share - j })
    table

-- What taking back by a note does: question 21, and then 22.
abbrev pub TakenOn : Network → List ℕ → ℕ → List ℕ → Taken → List ℕ → Type 0
TakenOn g table share note r after =
    let x : Shared = record { table = table; share = share } in
    Tested (note_leads g note && can_take_back g x note) (cond (note_leads g note) 22 21) (taken_back g x note) table r after
