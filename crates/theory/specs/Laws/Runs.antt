-- A run's tables, and the count of those that it judges.
use Prim.Native.Nat.{ℕ, zero, suc, pred, ◌+◌, min, ◌≤◌, ◌<◌}
use Rattle.std.proofs.Math.Nat.{le_refl}
use Rattle.std.proofs.Common.{le_trans, add-one, arith, sym, ◌∙◌, ap}
use Rattle.std.specs.Prelude.{◌≡◌, Bool, true, false, not, ◌||◌, ◌⊎◌}
use Rattle.std.proofs.Math.Path.{refl}
use Rattle.std.proofs.lemmas.Bool.{false≢true}
use Rattle.std.proofs.Math.Logic.{inl, inr, ⊎_elim}
use Rattle.std.proofs.Math.Option.{Option, none, some}
use Rattle.theory.specs.Finite.{first}
use Rattle.theory.specs.Network.{Network}
use Rattle.theory.specs.Moves.{Shared, started, move, moves, after_moves, reaches, stops, judged, last_judged}
use Rattle.theory.specs.Laws.Finite.{order, first-none, first_some}
use Rattle.theory.specs.Laws.Moves.{move-share}

-- The first table is the start's,
pub first-table : (g : Network) → after_moves g 0 ≡ started g
unfolding after_moves
first-table g = refl

-- and each next one is what a pass makes of the one before, where it moves.
pub next-moved : (g : Network) (i : ℕ) (x : Shared) → move g (after_moves g i) ≡ some x → after_moves g (i + 1) ≡ x
unfolding after_moves
next-moved g i x e = rw (add-one, e, after_moves)

-- Where it does not move, the next one is the same.
pub next-rests : (g : Network) (i : ℕ) → move g (after_moves g i) ≡ none → after_moves g (i + 1) ≡ after_moves g i
unfolding after_moves
next-rests g i e = rw (add-one, e, after_moves)

-- What holds of the start's table, and of every table that a pass makes of one of which it holds, holds of a run's tables.
pub tables-have : (g : Network) (P : Shared → Type 0) → P (started g) → ((x x' : Shared) → P x → move g x ≡ some x' → P x') →
    (i : ℕ) → P (after_moves g i)
unfolding after_moves
tables-have g P p next zero = p
tables-have g P p next (suc i) = go (move g (after_moves g i)) refl (tables-have g P p next i)
  where
    go : (o : Option Shared) → move g (after_moves g i) ≡ o → P (after_moves g i) → P (elim o [ none ↦ after_moves g i | some x ↦ x ])
    go none e r = r
    go (some x) e r = next (after_moves g i) x r e

-- A share is 1 to 1,024,
pub record InRange (share : ℕ) : Type 0 where
  pub low : 1 ≤ share
  pub high : share ≤ 1024

-- and so are the shares of a run's tables.
pub shares-in-range : (g : Network) (i : ℕ) → InRange (after_moves g i).share
unfolding started
shares-in-range g =
    tables-have g (λ x. InRange x.share) (record { low = omega arith; high = omega arith }) (λ x x' r e.
    let rises = move-share g x x' r.low e in
    record { low = omega arith; high = rises.1 })

-- While every table before table i moves, table i has a share above i.
pub shares-grow : (g : Network) (i : ℕ) → ((k : ℕ) → k < i → moves (move g (after_moves g k)) ≡ true) → i < (after_moves g i).share
shares-grow g zero all-move = omega (arith, (shares-in-range g 0).low)
shares-grow g (suc i) all-move =
    go (move g (after_moves g i)) refl (all-move i (omega arith)) (shares-grow g i (λ k p. all-move k (omega arith)))
  where
    go : (o : Option Shared) → move g (after_moves g i) ≡ o → moves o ≡ true → i < (after_moves g i).share → suc i < (after_moves g (suc i)).share
    go none e m r = absurd (false≢true m)
    go (some x) e m r =
        let rises = move-share g (after_moves g i) x (shares-in-range g i).low e in
        let there : after_moves g (suc i) ≡ x = ap (after_moves g) (sym (add-one i)) ∙ next-moved g i x e in
        rw there (omega arith)

-- A table that does not stop the run has too large a gap and moves,
pub goes_on : (g : Network) (excess : ℕ) (x : Shared) → stops g excess x ≡ false →
    (reaches g excess x ≡ false) × (moves (move g x) ≡ true)
unfolding stops
goes_on g excess x = go (reaches g excess x) (moves (move g x))
  where
    go : (a b : Bool) → (a || not b) ≡ false → (a ≡ false) × (b ≡ true)
    go true b h = (h, absurd (false≢true (sym h)))
    go false true h = (refl, refl)
    go false false h = (refl, sym h)

-- and one that stops it reaches the excess or does not move.
pub stops-by : (g : Network) (excess : ℕ) (x : Shared) → stops g excess x ≡ true →
    (reaches g excess x ≡ true) ⊎ (move g x ≡ none)
unfolding stops
stops-by g excess x = go (reaches g excess x) (move g x)
  where
    go : (a : Bool) (o : Option Shared) → (a || not (moves o)) ≡ true → (a ≡ true) ⊎ (o ≡ none)
    go true o h = inl refl
    go false none h = inr refl
    go false (some x) h = absurd (false≢true h)

-- What the count of judged tables is: the smallest k from 1 to the budget at which table k stops the run, or else the budget. Table k is
-- `after_moves` at k - 1.
pub record Judged (g : Network) (budget excess k : ℕ) : Type 0 where
  pub at_least : 1 ≤ k
  pub at_most : k ≤ budget
  pub earlier : (i : ℕ) → i + 1 < k → stops g excess (after_moves g i) ≡ false
  pub ends : (stops g excess (after_moves g (pred k)) ≡ true) ⊎ (k ≡ budget)

module _ (g : Network) (budget excess : ℕ) where
  abbrev stops_at : ℕ → Bool
  stops_at i = stops g excess (after_moves g i)

  -- The count is such a k,
  pub judged-has : 1 ≤ budget → Judged g budget excess (judged g budget excess)
  unfolding judged
  judged-has some-budget = go (first budget stops_at) refl
    where
      go : (o : Option ℕ) → first budget stops_at ≡ o → Judged g budget excess (judged g budget excess)
      go none e =
          rw (e, judged)
          (record {
            at_least = some-budget;
            at_most = le_refl budget;
            earlier = λ i p. first-none budget stops_at e i (omega arith);
            ends = inr refl;
          })
      go (some i) e =
          let found = first_some budget stops_at i e in
          rw (e, judged)
          (record {
            at_least = omega arith;
            at_most = found.below;
            earlier = λ k p. found.lower k (omega arith);
            ends = inl found.fits;
          })

  -- no smaller number is one beside it,
  not-smaller : (k k' : ℕ) → Judged g budget excess k → Judged g budget excess k' → k < k' → ⊥
  not-smaller k k' h h' p = ⊎_elim stopped (λ e. omega (arith, h'.at_most)) h.ends
    where
      stopped : stops_at (pred k) ≡ true → ⊥
      stopped e = false≢true (sym (h'.earlier (pred k) (omega (arith, h.at_least))) ∙ e)

  -- and so it is the only one.
  pub judged-is : (k : ℕ) → Judged g budget excess k → judged g budget excess ≡ k
  judged-is k h =
      let is = judged-has (le_trans h.at_least h.at_most) in
      let not-less : judged g budget excess < k → ⊥ = not-smaller (judged g budget excess) k is h in
      let not_more : k < judged g budget excess → ⊥ = not-smaller k (judged g budget excess) h is in
      omega arith

  -- A smaller budget judges the same tables, as far as it goes.
  pub judged-fewer : (k : ℕ) → 1 ≤ k → k ≤ budget → Judged g k excess (min k (judged g budget excess))
  judged-fewer k least few = go (order k (judged g budget excess))
    where
      is : Judged g budget excess (judged g budget excess)
      is = judged-has (le_trans least few)

      go : (k < judged g budget excess) ⊎ (judged g budget excess ≤ k) → Judged g k excess (min k (judged g budget excess))
      go (inl p) =
          let smaller : min k (judged g budget excess) ≡ k = omega arith in
          rw smaller (record { at_least = least; at_most = le_refl k; earlier = λ i q. is.earlier i (omega arith); ends = inr refl })
      go (inr p) =
          let smaller : min k (judged g budget excess) ≡ judged g budget excess = omega arith in
          rw smaller
          (record {
            at_least = is.at_least;
            at_most = p;
            earlier = is.earlier;
            ends = ⊎_elim inl (λ e. inr (omega arith)) is.ends;
          })

  -- With a budget of 1,024 or more the last judged table stops the run: 'spent' cannot occur.
  pub last-stops : 1024 ≤ budget → stops g excess (last_judged g budget excess) ≡ true
  unfolding last_judged
  last-stops enough = ⊎_elim (λ e. e) (λ e. go e (stops_at (pred count)) refl) is.ends
    where
      count : ℕ
      count = judged g budget excess

      is : Judged g budget excess count
      is = judged-has (omega arith)

      go : count ≡ budget → (b : Bool) → stops_at (pred count) ≡ b → stops_at (pred count) ≡ true
      go e true f = f
      go e false f =
          absurd
          (omega (
            arith,
            shares-grow g budget (λ i p. (goes_on g excess (after_moves g i) (none-stops i p (order (i + 1) count))).1),
            (shares-in-range g budget).high,
          ))
        where
          none-stops : (i : ℕ) → i < budget → (i + 1 < count) ⊎ (count ≤ i + 1) → stops_at i ≡ false
          none-stops i p (inl q) = is.earlier i q
          none-stops i p (inr q) = let here : i ≡ pred count = omega arith in ap stops_at here ∙ f
