-- Demand 3 of runs: when a run ends 'reached', and how many tables it judged.
use Rattle.std.specs.Prelude.{ℕ, zero, suc, pred, ◌+◌, ◌*◌, ◌≤◌, ◌<◌, ◌≡◌, refl, Bool, true, false, cond, List, ◌↔◌, ◌⊎◌, leb}
use Rattle.std.proofs.Common.{arith, sym, ◌∙◌, ap, true≢false, inl, inr, ⊎_elim, leb-true, le-leb}
use Rattle.std.proofs.Math.Option.{Option, none, some}
use Rattle.theory.specs.Network.{Network, total_trips}
use Rattle.theory.specs.Cost.{gap}
use Rattle.theory.specs.Moves.{Shared, move, moves, reaches, stops, judged, last_judged}
use Rattle.theory.specs.Laws.Cases.{on_test}
use Rattle.theory.specs.Laws.Runs.{Judged, judged-has, last-stops, stops-by}
use Rattle.calls.specs.Study.{network_of}
use Rattle.calls.specs.Calls.{run_number, ending_at, run_answer}
use Rattle.calls.specs.declared.Ending.{Ending}
use Rattle.calls.specs.declared.Ending.TheVariants as ending
use Rattle.calls.specs.Laws.Questions.{run-both}
use Rattle.calls.specs.Laws.Networks.{budget-range}
use Rattle.calls.specs.Laws.Calls.{run-accepted}

-- 'Reached' is the first case of an ending, and no other case.
reached-when : (a b : Bool) → (cond a ending.Reached (cond b ending.Spent ending.Finest) ≡ ending.Reached) ↔ (a ≡ true)
reached-when true b = (λ e. refl, λ e. refl)
reached-when false true = (λ e. let z : ◌≡◌ {A = ℕ} 0 1 = cc in absurd (omega arith), λ e. absurd (true≢false (sym e)))
reached-when false false = (λ e. let z : ◌≡◌ {A = ℕ} 0 1 = cc in absurd (omega arith), λ e. absurd (true≢false (sym e)))

ending-reached : (g : Network) (excess : ℕ) (x : Shared)
    → (ending_at g excess x ≡ ending.Reached) ↔ (gap g x.share x.table ≤ excess * x.share * total_trips g)
unfolding ending_at reaches
ending-reached g excess x =
    let when = reached-when (leb (gap g x.share x.table) (excess * x.share * total_trips g)) (moves (move g x)) in
    (λ e. leb-true _ _ (when.0 e), λ p. when.1 (le-leb _ _ p))

module _ (file table : List ℕ) (budget excess : ℕ) (r : run_number file table budget ≡ 0) where
  -- An accepted run ends 'reached' exactly when the gap it returns is at most excess × W × total trips, W being the share it returns.
  pub reached-exactly : ((run_answer file table budget excess).ending ≡ ending.Reached)
      ↔ ((run_answer file table budget excess).gap ≤ excess * (run_answer file table budget excess).share * total_trips (network_of file))
  reached-exactly = rw (run-accepted file table budget excess r) (ending-reached (network_of file) excess (last_judged (network_of file) budget excess))

  -- Its count is the smallest k at which table k's gap is at most excess × W × T, or a pass does not move table k, or k is the budget; so
  -- it is at least 1 and never above the budget.
  pub counted : Judged (network_of file) budget excess (run_answer file table budget excess).judged
  counted =
      rw (run-accepted file table budget excess r)
      (judged-has (network_of file) budget excess (budget-range budget (run-both file table budget r).1).0)

-- Where the last judged table stops the run, the ending is not 'spent'.
not-spent : (g : Network) (excess : ℕ) (x : Shared) → stops g excess x ≡ true → ending_at g excess x ≡ ending.Spent → ⊥
unfolding ending_at
not-spent g excess x s e = ⊎_elim (λ a. by-reach a) (λ a. by_move (reaches g excess x) (rw a at e)) (stops-by g excess x s)
  where
    by-reach : reaches g excess x ≡ true → ⊥
    by-reach a = let f : ending.Reached ≡ ending.Spent = rw a at e in let z : ◌≡◌ {A = ℕ} 0 1 = cc in omega arith

    by_move : (b : Bool) → cond b ending.Reached ending.Finest ≡ ending.Spent → ⊥
    by_move true f = let z : ◌≡◌ {A = ℕ} 0 1 = cc in omega arith
    by_move false f = let z : ◌≡◌ {A = ℕ} 0 1 = cc in omega arith

-- At budget 1,024 'spent' cannot occur.
pub never-spent : (file table : List ℕ) (excess : ℕ) → run_number file table 1024 ≡ 0 → (run_answer file table 1024 excess).ending ≡ ending.Spent → ⊥
never-spent file table excess r e =
    not-spent (network_of file) excess (last_judged (network_of file) 1024 excess)
    (last-stops (network_of file) 1024 excess (omega arith))
    (rw (run-accepted file table 1024 excess r) at e)
