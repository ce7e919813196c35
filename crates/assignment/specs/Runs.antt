-- A run under way, over the table that it is lent.
use Rattle.std.specs.Prelude.{◌≡◌, ℕ, ◌<◌, true, false, List}
use Rattle.theory.specs.Moves.{started, after_moves, stops}
use Rattle.calls.specs.Study.{network_of}
use Rattle.calls.specs.Calls.{overwritten, run_number}
use Rattle.assignment.specs.declared.Course.{Course}

-- i tables have been judged and moved, and none of them stopped the run: the lent table holds the next one, number i + 1 of document 01,
-- with its share, and has its later numbers as they were.
pub record Running (file before : List ℕ) (budget excess i : ℕ) (table : List ℕ) (share : ℕ) : Type 0 where
  pub table_is : table ≡ overwritten (after_moves (network_of file) i).table before
  pub share-is : share ≡ (after_moves (network_of file) i).share
  pub earlier : (k : ℕ) → k < i → stops (network_of file) excess (after_moves (network_of file) k) ≡ false
  pub within : i < budget

-- What the turns of an accepted run of a file find in the table that it was lent: what the start left.
pub record Begun (file before : List ℕ) (budget : ℕ) (table : List ℕ) : Type 0 where
  pub accepted : run_number file before budget ≡ 0
  pub started : table ≡ overwritten (started (network_of file)).table before

-- Where a run sets out: from a start, at no moves and share 1; or, resumed, from the lent table, which is its table after so many moves.
pub record SetsOut (file before : List ℕ) (at : Course) : Type 0 where
  pub fresh : at.resumed ≡ false → (at.moves ≡ 0) × (at.share ≡ 1)
  pub under-way : at.resumed ≡ true → Running file before at.budget at.excess at.moves before at.share
