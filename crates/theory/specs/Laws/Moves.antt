-- What a pass makes of a table: the cases of a move, the share after it, and what it keeps.
use Rattle.std.specs.Prelude.{ℕ, ◌+◌, ◌*◌, ◌≤◌, ◌<◌, ◌≡◌, refl, Bool, true, false, List, ◌↔◌, eqb, leb}
use Rattle.std.proofs.Common.{pos_of_ne-zero, ne_of_gt, arith, subst, eqb-true, leb-true, leb-false, eq-eqb, ne_eqb, le-leb}
use Rattle.std.proofs.Math.Option.{Option, none, some}
use Rattle.std.proofs.lemmas.Bool.{eqb-false, lt-leb}
use Rattle.theory.specs.Network.{Network, total_trips}
use Rattle.theory.specs.Flows.{total, times, Carries, totals_fit}
use Rattle.theory.specs.Routes.{loading}
use Rattle.theory.specs.Moves.{Shared, qualifies, chosen, added, doubled, move}
use Rattle.theory.specs.Laws.Tables.{carries-added, carries-doubled, totals_fit-added, totals_fit-doubled}
use Rattle.theory.specs.Laws.Choice.{chosen-le, chosen-qualifies}

-- Y of a pass: the loading at the judged table's times.
abbrev pub loading_of : Network → Shared → List ℕ
loading_of g x = loading g (times g x.share x.table)

-- The j of a pass.
abbrev pub chosen_of : Network → Shared → ℕ
chosen_of g x = chosen g x.share (total g x.table) (total g (loading_of g x))

-- The three things that a pass does: it adds j·Y, or doubles, or does not move.
pub data Pass (g : Network) (x : Shared) : Option Shared → Type 0 where
  adds :
      1 ≤ chosen_of g x → x.share + chosen_of g x ≤ 1024 →
      qualifies g x.share (total g x.table) (total g (loading_of g x)) (chosen_of g x) ≡ true →
      Pass g x (some (record { table = added g x.table (chosen_of g x) (loading_of g x); share = x.share + chosen_of g x }))
  doubles : chosen_of g x ≡ 0 → 2 * x.share ≤ 1024 → Pass g x (some (record { table = doubled g x.table; share = 2 * x.share }))
  rests : chosen_of g x ≡ 0 → 1024 < 2 * x.share → Pass g x none

-- What a pass does is one of them.
pub pass : (g : Network) (x : Shared) → Pass g x (move g x)
unfolding move
pass g x = go (eqb (chosen_of g x) 0) refl
  where
    s : ℕ → ℕ
    s = total g x.table

    y : ℕ → ℕ
    y = total g (loading_of g x)

    go : (b : Bool) → eqb (chosen_of g x) 0 ≡ b → Pass g x (move g x)
    go false e =
        let some-j : 1 ≤ chosen_of g x = pos_of_ne-zero (eqb-false (chosen_of g x) 0 e) in
        rw (e, move) (adds some-j (omega (arith, chosen-le g x.share s y)) (chosen-qualifies g x.share s y some-j))
    go true e = go_on (leb (2 * x.share) 1024) refl
      where
        none-chosen : chosen_of g x ≡ 0
        none-chosen = eqb-true (chosen_of g x) 0 e

        go_on : (b : Bool) → leb (2 * x.share) 1024 ≡ b → Pass g x (move g x)
        go_on true f = rw (e, f, move) (doubles none-chosen (leb-true (2 * x.share) 1024 f))
        go_on false f = rw (e, f, move) (rests none-chosen (leb-false (2 * x.share) 1024 f))

-- What a pass makes of a table that it moves.
pub moved : (g : Network) (x x' : Shared) → move g x ≡ some x' → Pass g x (some x')
moved g x x' e = subst (Pass g x) e (pass g x)

-- A move raises the share, to 1,024 at most.
pub move-share : (g : Network) (x x' : Shared) → 1 ≤ x.share → move g x ≡ some x' → (x.share < x'.share) × (x'.share ≤ 1024)
move-share g x x' some-share e = go x' (moved g x x' e)
  where
    go : (x' : Shared) → Pass g x (some x') → (x.share < x'.share) × (x'.share ≤ 1024)
    go x' (adds some-j fits q) = (omega arith, fits)
    go x' (doubles none-chosen fits) = (omega arith, fits)

-- The move, by the chosen j and the share: j·Y added where a j is chosen,
pub move-adds : (g : Network) (x : Shared) → 1 ≤ chosen_of g x →
    move g x ≡ some (record { table = added g x.table (chosen_of g x) (loading_of g x); share = x.share + chosen_of g x })
unfolding move
move-adds g x some-j = rw (ne_eqb (chosen_of g x) 0 (ne_of_gt some-j), move)

-- both doubled where none is and 2W is at most 1,024,
pub move-doubles : (g : Network) (x : Shared) → chosen_of g x ≡ 0 → 2 * x.share ≤ 1024 →
    move g x ≡ some (record { table = doubled g x.table; share = 2 * x.share })
unfolding move
move-doubles g x none-chosen fits = rw (eq-eqb (chosen_of g x) 0 none-chosen, le-leb (2 * x.share) 1024 fits, move)

-- and no move exactly where none is chosen and 2W is above 1,024.
pub move-none : (g : Network) (x : Shared) → (move g x ≡ none) ↔ ((chosen_of g x ≡ 0) × (1024 < 2 * x.share))
unfolding move
move-none g x = (
  λ e. go (subst (Pass g x) e (pass g x)),
  λ (none-chosen, over). rw (eq-eqb (chosen_of g x) 0 none-chosen, lt-leb (2 * x.share) 1024 over, move),
)
  where
    go : Pass g x none → (chosen_of g x ≡ 0) × (1024 < 2 * x.share)
    go (rests none-chosen over) = (none-chosen, over)

-- A move keeps a carrying table carrying at the new share, where Y carries at share 1.
pub move-carries : (g : Network) (x x' : Shared) → move g x ≡ some x' → Carries g x.share x.table → Carries g 1 (loading_of g x) →
    Carries g x'.share x'.table
move-carries g x x' e carries loads = go x' (moved g x x' e)
  where
    go : (x' : Shared) → Pass g x (some x') → Carries g x'.share x'.table
    go x' (adds some-j fits q) = carries-added g x.table (chosen_of g x) (loading_of g x) x.share carries loads
    go x' (doubles none-chosen fits) = carries-doubled g x.table x.share carries

-- A move keeps each link's total at most share × T, where Y's totals are at most T.
pub move-fits : (g : Network) (x x' : Shared) → move g x ≡ some x' → totals_fit g x.share x.table ≡ true →
    ((l : ℕ) → l < g.links → total g (loading_of g x) l ≤ total_trips g) → totals_fit g x'.share x'.table ≡ true
move-fits g x x' e fit within = go x' (moved g x x' e)
  where
    go : (x' : Shared) → Pass g x (some x') → totals_fit g x'.share x'.table ≡ true
    go x' (adds some-j fits q) = totals_fit-added g x.table (chosen_of g x) (loading_of g x) x.share fit within
    go x' (doubles none-chosen fits) = totals_fit-doubled g x.table x.share fit
