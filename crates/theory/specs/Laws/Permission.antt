-- Which links may carry a commodity.
use Rattle.std.specs.Prelude.{ℕ, ◌≡◌, Bool, true, false, List, eqb}
use Rattle.std.proofs.Math.Bool.{or-true}
use borrow.Author.Tests.{eq-eqb, ne_eqb, eqb-true}
use Rattle.theory.specs.Study.{head, closed, node_of, of_lorries, barred_to, may_use}
use Rattle.theory.specs.Laws.Cases.{on_test, true-false}

module _ (links : List (List ℕ)) (commodity l : ℕ) where
  -- A link that the commodity is barred from carries none of it.
  pub may-barred : barred_to links (of_lorries commodity) l ≡ true → may_use links commodity l ≡ false
  unfolding may_use
  may-barred off = rw off

  pub not-barred : may_use links commodity l ≡ true → barred_to links (of_lorries commodity) l ≡ false
  not-barred may =
      on_test (barred_to links (of_lorries commodity) l)
      (λ off. absurd (true-false may (may-barred off)))
      (λ on. on)

  -- Of the other links one whose head is open may carry it,
  pub may-open : barred_to links (of_lorries commodity) l ≡ false → (closed links l ≡ 1 → ⊥) → may_use links commodity l ≡ true
  unfolding may_use
  may-open on is_open = rw (on, ne_eqb (closed links l) 1 is_open)

  -- of one whose head is closed the head tells,
  pub own-only : barred_to links (of_lorries commodity) l ≡ false → closed links l ≡ 1 → may_use links commodity l ≡ eqb (head links l) (node_of commodity)
  unfolding may_use
  own-only on shut = rw (on, eq-eqb (closed links l) 1 shut)

  -- and so may one that leads to the destination itself.
  pub may-own : barred_to links (of_lorries commodity) l ≡ false → head links l ≡ node_of commodity → may_use links commodity l ≡ true
  unfolding may_use
  may-own on e = rw (on, eq-eqb (head links l) (node_of commodity) e, or-true)

  -- A link whose head is closed may carry no other.
  pub may-closed : closed links l ≡ 1 → may_use links commodity l ≡ true → head links l ≡ node_of commodity
  unfolding may_use
  may-closed shut may =
      eqb-true (head links l) (node_of commodity) (rw (not-barred may, eq-eqb (closed links l) 1 shut) at may)

-- Cars are barred from no link.
pub cars-not-barred : (links : List (List ℕ)) (lorries : Bool) (l : ℕ) → lorries ≡ false → barred_to links lorries l ≡ false
unfolding barred_to
cars-not-barred links lorries l cars = rw cars
