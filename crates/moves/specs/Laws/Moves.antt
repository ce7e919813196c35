-- The three things that a pass does, by the j that it chose: it adds, or doubles, or does not move.
use Rattle.std.specs.Prelude.{ℕ, ◌+◌, ◌*◌, ◌≤◌, ◌<◌, ◌^◌, ◌≡◌, true, List, get_or, leb}
use Rattle.std.proofs.Common.{mul-le-mul_left, mul-le-mul_right, arith, ◌∙◌, ap, ⊎_elim}
use Rattle.std.proofs.Math.Path.{sym}
use Rattle.std.proofs.Math.Option.{none, some}
use borrow.Author.Tests.{eq-eqb, ne_eqb, lt-ltb, le-ltb, le-leb, lt-leb}
use Rattle.theory.specs.Moves.{moves}
use Rattle.theory.specs.Laws.Local.{move_by}
use Rattle.theory.specs.Laws.Finite.{order}
use Rattle.calls.specs.Calls.{share_after, table_after}
use Rattle.moves.specs.Loading.{volume_rows, front, added_rows, Addable}
use Rattle.moves.specs.Moves.{can_move, move_along, Movable}
use Rattle.moves.specs.Laws.Front.{overwritten-front}

module _ (share j : ℕ) (more double : List ℕ) where
  by-adds : 0 < j → move_by share j more double ≡ some (record { table = more; share = share + j })
  unfolding move_by
  by-adds h = rw (ne_eqb j 0 (λ e. omega arith), move_by)

  by-doubles : j ≤ 0 → 2 * share ≤ 1024 → move_by share j more double ≡ some (record { table = double; share = 2 * share })
  unfolding move_by
  by-doubles h b = rw (eq-eqb j 0 (omega arith), le-leb (2 * share) 1024 b, move_by)

  by-rests : j ≤ 0 → 1024 < 2 * share → move_by share j more double ≡ none
  unfolding move_by
  by-rests h b = rw (eq-eqb j 0 (omega arith), lt-leb (2 * share) 1024 b, move_by)

-- Whether there is a move, by the tests that the code makes.
pub can-add : (share j : ℕ) → 0 < j → true ≡ can_move share j
unfolding can_move
can-add share j h = rw (lt-ltb 0 j h)

pub can_double : (share j : ℕ) → j ≤ 0 → leb (2 * share) 1024 ≡ can_move share j
unfolding can_move
can_double share j h = rw (le-ltb 0 j h)

pub moves-by : (share j : ℕ) (more double : List ℕ) → moves (move_by share j more double) ≡ can_move share j
moves-by share j more double =
    ⊎_elim
    (λ h. ap moves (by-adds share j more double h) ∙ can-add share j h)
    (λ h.
    ⊎_elim
    (λ b. ap moves (by-rests share j more double h b) ∙ sym (lt-leb (2 * share) 1024 b) ∙ can_double share j h)
    (λ b. ap moves (by-doubles share j more double h b) ∙ sym (le-leb (2 * share) 1024 b) ∙ can_double share j h)
    (order 1024 (2 * share)))
    (order 0 j)

-- The share and the table after each, with a loading y.
module _ (size share j : ℕ) (y table : List ℕ) where
  abbrev Moved : ℕ → List ℕ → Type 0
  Moved share' table' =
      (share' ≡ share_after share (move_along size share j y table)) × (table' ≡ table_after table (move_along size share j y table))

  pub adds : 0 < j → Moved (share + j) (added_rows size j y table)
  unfolding added_rows
  adds h =
      let e = by-adds share j _ _ h in
      (sym (ap (share_after share) e), sym (ap (table_after table) e ∙ overwritten-front size _ table))

  pub doubles : j ≤ 0 → 2 * share ≤ 1024 → Moved (2 * share) (front size (λ i. 2 * get_or table i 0) table)
  doubles h b =
      let e = by-doubles share j _ _ h b in
      (sym (ap (share_after share) e), sym (ap (table_after table) e ∙ overwritten-front size _ table))

  rests : j ≤ 0 → 1024 < 2 * share → Moved share table
  rests h b = let e = by-rests share j _ _ h b in (sym (ap (share_after share) e), sym (ap (table_after table) e))

-- A table that may be moved: j·Y can be added to it,
module _ {n m p : ℕ} {nexts volumes : List (List ℕ)} {share j : ℕ} {table : List ℕ}
    (w : Movable n m p nexts volumes share j table) where
  pub movable-adds : Addable n m p nexts volumes j table
  movable-adds =
      record {
        few-nodes = w.few-nodes;
        few-links = w.few-links;
        few-commodities = w.few-commodities;
        has-rows = w.has-rows;
        next-link = w.next-link;
        holds = w.holds;
        fits = λ i h.
            let shares = mul-le-mul_right 65535 w.small-share in
            omega (arith, w.flows i h, mul-le-mul_left j (w.loads i h));
      }

  -- and it can be doubled where 2W is at most 1,024.
  pub movable-doubles : 2 * share ≤ 1024 → (i : ℕ) → i < p * m → 2 * get_or table i 0 < 2 ^ 32
  movable-doubles b i h = omega (arith, w.flows i h)

  pub moved-adds :
      0 < j → {table' : List ℕ} → table' ≡ added_rows (p * m) j (volume_rows n m p nexts volumes) table →
      Moved (p * m) share j (volume_rows n m p nexts volumes) table (share + j) table'
  moved-adds h e = let r = adds (p * m) share j (volume_rows n m p nexts volumes) table h in (r.0, e ∙ r.1)

  pub moved-doubles :
      j ≤ 0 → 2 * share ≤ 1024 → {table' : List ℕ} → table' ≡ front (p * m) (λ i. 2 * get_or table i 0) table →
      Moved (p * m) share j (volume_rows n m p nexts volumes) table (2 * share) table'
  moved-doubles h b e = let r = doubles (p * m) share j (volume_rows n m p nexts volumes) table h b in (r.0, e ∙ r.1)

  pub moved-rests : j ≤ 0 → 1024 < 2 * share → Moved (p * m) share j (volume_rows n m p nexts volumes) table share table
  moved-rests h b = rests (p * m) share j (volume_rows n m p nexts volumes) table h b
