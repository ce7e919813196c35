-- Notes, written number by number and row by row.
use Rattle.std.specs.Prelude.{ℕ, ◌+◌, ◌*◌, ◌≤◌, ◌<◌, ◌≡◌, List, [], ◌∷◌, ◌++◌, length, get_or, set, take, replicate}
use Rattle.std.proofs.Common.{arith, ◌∙◌, length-set}
use Rattle.std.proofs.Math.Path.{refl, ap}
use Rattle.std.proofs.Math.ListN.{drop}
use Rattle.std.proofs.lemmas.List.{replicate-append-replicate}
use Rattle.std.proofs.Math.Seq.{length-take-le}
use Rattle.theory.specs.Laws.Finite.{length-rows}
use Rattle.theory.specs.Laws.Parts.{row_within}
use Rattle.text.specs.Put.{Put}
use Rattle.text.specs.Laws.Put.{same_length, then, no_rows, then-row, at-start}
use Rattle.calls.specs.Calls.{overwritten}
use Rattle.notes.specs.Written.{link_rows, Writable}

-- A number written at the start, and others behind it: the note is as long as it was,
module _ (note : List ℕ) (x : ℕ) {more after : List ℕ} {next : ℕ} (put : Put (set note 0 x) 1 more after next) where
  pub note-long : length after ≡ length note
  note-long = same_length put ∙ length-set note 0 x

  -- and they stand before what is left of it.
  pub note-written : next ≤ length note → after ≡ overwritten (x ∷ more) note
  unfolding overwritten
  note-written room =
      let first : Put note 0 (x ∷ []) (set note 0 x) 1 = record { held = refl; place = refl } in
      let start = at-start (then first put) room in
      start.1 ∙ ap (λ k. (x ∷ more) ++ drop k note) start.0

-- The same number once more.
pub once_more :
    {before after : List ℕ} {at : ℕ} (i x : ℕ) → Put before at (replicate i x) after (at + i) →
    Put before at (replicate (i + 1) x) (set after (at + i) x) (at + (i + 1))
once_more {after} {at} i x put =
    let one : Put after (at + i) (replicate 1 x) (set after (at + i) x) (at + (i + 1)) = record { held = refl; place = omega arith } in
    rw (replicate-append-replicate i 1 x) at (then put one)

-- Rows of next links: none at first,
module _ (n : ℕ) (nexts : List (List ℕ)) where
  pub links-none : (before : List ℕ) (at : ℕ) → Put before at (link_rows n 0 nexts) before at
  unfolding link_rows
  links-none before at = no_rows _ before at

  -- and one more each turn.
  pub links-more :
      (k : ℕ) {before after last : List ℕ} {at next end : ℕ} → Put before at (link_rows n k nexts) after next →
      Put after next (take n (get_or nexts k [])) last end → Put before at (link_rows n (k + 1) nexts) last end
  unfolding link_rows
  links-more k rows row = then-row _ k rows row

module _ {n p : ℕ} {nexts : List (List ℕ)} (w : Writable n p nexts) (note : List ℕ) (x : ℕ) (room : p * n < length note) where
  length-links : (k : ℕ) → k ≤ p → length (link_rows n k nexts) ≡ k * n
  unfolding link_rows
  length-links k h = length-rows k n _ (λ i b. length-take-le n (get_or nexts i []) (w.long i (omega arith)))

  -- A note that has room for all rows has room for the next one,
  pub links-room : {k : ℕ} → k < p → {after : List ℕ} {next : ℕ} → Put (set note 0 x) 1 (link_rows n k nexts) after next → next + n ≤ length after
  links-room {k} h put = omega (arith, put.place, length-links k (omega arith), row_within n h, note-long note x put)

  -- and in the end has them all.
  pub links-written :
      {after : List ℕ} {next : ℕ} → Put (set note 0 x) 1 (link_rows n p nexts) after next → after ≡ overwritten (x ∷ link_rows n p nexts) note
  links-written put = note-written note x put (omega (arith, put.place, length-links p (omega arith)))
