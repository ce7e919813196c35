-- Serving one desk: a run with as large a budget as the turns that it may have.
use Rattle.std.specs.Prelude.{◌≡◌, ◌≢◌, ℕ, zero, suc, pred, ◌≤◌, ◌<◌, min, Bool, true, false, ◌&&◌, cond, List, ltb, eqb, refl}
use Rattle.std.proofs.Common.{arith, sym, ◌∙◌, ap, ⊎_elim, true≢false, lt-ltb, ne_eqb}
use Rattle.std.proofs.lemmas.Bool.{le-ltb}
use Rattle.theory.specs.Laws.Finite.{order}
use Rattle.theory.specs.Moves.{after_moves}
use Rattle.calls.specs.Study.{network_of}
use Rattle.calls.specs.Questions.{budget_fits}
use Rattle.calls.specs.Calls.{overwritten, start_number, run_number, run_answer, run_table}
use Rattle.calls.specs.Desks.{Desk, turns_to_end, desk_answer, desk_table}
use Rattle.calls.specs.declared.Ending.TheVariants as ending
use Rattle.calls.specs.declared.RunAnswer.{RunAnswer}
use Rattle.calls.specs.Laws.Calls.{refused_run, run-accepted, run-refused, run-kept}
use Rattle.calls.specs.Laws.Questions.{run-number, run-both}
use Rattle.calls.specs.Laws.Networks.{budget-range, range-budget}
use Rattle.calls.specs.Laws.Desks.{is_spent, refused-ends, refused-answer, refused-table, ended-answer, ended-table, ends-some, ends-most}
use Rattle.calls.specs.Laws.Desks.{fewer-same, fewer-table, fewer-spent, fewer-accepted, fewer-judged, waiting-answer, waiting-table, waiting-holds, waiting-share, waiting-earlier, alone-spent}
use Rattle.assignment.specs.declared.Course.{Course}
use Rattle.assignment.specs.Runs.{Running, SetsOut}
use Rattle.desks.specs.Seats.{desk_of, Waits, Open, cut_off, course_of, course_from}

or-zero : (n : ℕ) → cond (eqb n 0) 0 n ≡ n
or-zero zero = refl
or-zero (suc n) = rw (ne_eqb (suc n) 0 (λ e. omega (arith, e)))

module _ (file table : List ℕ) (budget excess : ℕ) where
  abbrev d : Desk
  d = desk_of file table budget excess

  -- A desk whose run is refused answers its refusal, however many turns it may have.
  pub refused-desk : (turns number : ℕ) → number ≡ run_number file table budget → (number ≡ 0 → ⊥)
      → (refused_run number ≡ desk_answer d turns) × (table ≡ desk_table d turns)
  refused-desk turns zero e refused = absurd (refused refl)
  refused-desk turns (suc number) e refused = (
    sym (refused-answer file table budget excess number turns (sym e)),
    sym (refused-table file table budget excess number turns (sym e)),
  )

  pub refused-alone : (turns : ℕ) → (run_number file table budget ≡ 0 → ⊥)
      → (run_answer file table budget excess ≡ desk_answer d turns) × (run_table file table budget excess ≡ desk_table d turns)
  refused-alone turns refused = go (run_number file table budget) refl
    where
      go : (n : ℕ) → run_number file table budget ≡ n
          → (run_answer file table budget excess ≡ desk_answer d turns) × (run_table file table budget excess ≡ desk_table d turns)
      go zero e = absurd (refused e)
      go (suc n) e =
          let none = refused-ends file table budget excess n e in (
            sym (ended-answer file table budget excess turns (omega arith)),
            sym (ended-table file table budget excess turns (omega arith)),
          )

  -- Of a budget that question 13 accepts, the run's number is the start's.
  pub number-starts : budget_fits budget ≡ true → run_number file table budget ≡ start_number file table
  number-starts fits = rw (run-number file table budget, fits) (or-zero (start_number file table))

  cut-kept : (a : RunAnswer) → (a.judged < budget → is_spent a.ending ≡ false) → cut_off a budget ≡ a
  cut-kept a none = ⊎_elim (λ p. rw (none p) (go (ltb a.judged budget))) (λ p. rw (le-ltb a.judged budget p)) (order a.judged budget)
    where
      go : (b : Bool) → cond (b && false) (record a { ending = ending.Waiting }) a ≡ a
      go true = refl
      go false = refl

  cut-waits : (a : RunAnswer) → a.judged < budget → a.ending ≡ ending.Spent → cut_off a budget ≡ record a { ending = ending.Waiting }
  cut-waits a few spent =
      let is : is_spent a.ending ≡ true = ap is_spent spent in
      rw (lt-ltb a.judged budget few, is)

  -- Until it has had so many turns, of at least one, it is served by a run of as large a budget, and no larger than its own.
  abbrev pub Served : ℕ → Type 0
  Served until =
      (cut_off (run_answer file table (min budget until) excess) budget ≡ desk_answer d until)
      × (run_table file table (min budget until) excess ≡ desk_table d until)

  served-accepted : run_number file table budget ≡ 0 → (until : ℕ) → 1 ≤ until → Served until
  served-accepted accepted until some-turns = ⊎_elim waits ended (order until (turns_to_end d))
    where
      most : turns_to_end d ≤ budget
      most = ends-most file table budget excess accepted

      least : 1 ≤ turns_to_end d
      least = ends-some file table budget excess accepted

      waits : until < turns_to_end d → Served until
      waits p =
          let few : until ≤ budget = omega (arith, most) in
          let same : min budget until ≡ until = omega arith in
          let a = run_answer file table until excess in
          let counted : a.judged ≡ min until (turns_to_end d) =
          ap (λ r. r.judged) (run-accepted file table until excess (fewer-accepted file table budget excess accepted until some-turns few))
          ∙ fewer-judged file table budget excess accepted until some-turns few
          in
          let spent = fewer-spent file table budget excess accepted until some-turns few p in
          rw same (
            cut-waits a (omega (arith, counted, most)) spent ∙ sym (waiting-answer file table budget excess accepted until some-turns few p),
            sym (waiting-table file table budget excess accepted until some-turns few p),
          )

      ended : turns_to_end d ≤ until → Served until
      ended p =
          let some-budget : 1 ≤ min budget until = omega (arith, most, least) in
          let few : min budget until ≤ budget = omega arith in
          let enough : turns_to_end d ≤ min budget until = omega (arith, most) in (
            ap (λ a. cut_off a budget) (fewer-same file table budget excess accepted (min budget until) some-budget few enough)
                ∙ cut-kept (run_answer file table budget excess) (alone-unspent accepted)
                ∙ sym (ended-answer file table budget excess until p),
            fewer-table file table budget excess accepted (min budget until) some-budget few enough
                ∙ sym (ended-table file table budget excess until p),
          )
        where
          alone-unspent : run_number file table budget ≡ 0 → (run_answer file table budget excess).judged < budget → is_spent (run_answer file table budget excess).ending ≡ false
          alone-unspent e h = alone-spent file table budget excess e (omega (arith, ap (λ a. a.judged) (run-accepted file table budget excess e)))

  pub served : budget_fits budget ≡ true → (until : ℕ) → 1 ≤ until → Served until
  served fits until some-turns = go (run_number file table budget) refl
    where
      refused : (n : ℕ) → run_number file table budget ≡ suc n → Served until
      refused n e =
          let number = number-starts fits in
          let range = budget-range budget fits in
          let few : (1 ≤ min budget until) × (min budget until ≤ 1024) = (omega (arith, range.0), omega (arith, range.1)) in
          let there : run_number file table (min budget until) ≡ suc n =
          rw (run-number file table (min budget until), range-budget (min budget until) few.0 few.1) (or-zero (start_number file table)) ∙ sym number ∙ e
          in
          let a = run-refused file table (min budget until) excess n there in (
            ap (λ r. cut_off r budget) a ∙ cut-kept (refused_run (suc n)) (λ h. refl) ∙ sym (refused-answer file table budget excess n until e),
            run-kept file table (min budget until) excess (λ z. omega (arith, there, z)) ∙ sym (refused-table file table budget excess n until e),
          )

      go : (n : ℕ) → run_number file table budget ≡ n → Served until
      go zero e = served-accepted e until some-turns
      go (suc n) e = refused n e

  -- A run of that budget goes on where the desk stands.
  pub open-sets-out : (a : RunAnswer) (until : ℕ) → Open d a until → SetsOut file table (course_of a (min budget until) excess)
  open-sets-out a until o = go a.judged refl
    where
      accepted : turns_to_end d ≢ 0 → run_number file table budget ≡ 0
      accepted some-turns = start (run_number file table budget) refl
        where
          start : (n : ℕ) → run_number file table budget ≡ n → run_number file table budget ≡ 0
          start zero e = e
          start (suc n) e = absurd (some-turns (refused-ends file table budget excess n e))

      under-way : (moves : ℕ) → a.judged ≡ suc moves → Waits d a → Running file table (min budget until) excess moves table a.share
      under-way moves e w =
          let yes' = accepted (λ z. omega (arith, w.unfinished, z)) in
          let most = ends-most file table budget excess yes' in
          let some-turns : 1 ≤ a.judged = omega arith in
          let few : a.judged ≤ budget = omega (arith, w.unfinished) in
          let last : pred a.judged ≡ moves = ap pred e in
          record {
            table_is =
                w.table_is
                ∙ waiting-holds file table budget excess yes' a.judged some-turns few w.unfinished
                ∙ ap (λ k. overwritten (after_moves (network_of file) k).table table) last;
            share-is =
                ap (λ r. r.share) w.answer-is
                ∙ waiting-share file table budget excess yes' a.judged some-turns few w.unfinished
                ∙ ap (λ k. (after_moves (network_of file) k).share) last;
            earlier = λ k p. waiting-earlier file table budget excess yes' a.judged some-turns few w.unfinished k (omega (arith, last));
            within = omega (arith, o.onward some-turns, w.unfinished, most);
          }

      go : (judged : ℕ) → a.judged ≡ judged → SetsOut file table (course_from judged a (min budget until) excess)
      go zero e = record { fresh = λ r. (refl, refl); under-way = λ r. absurd (true≢false (sym r)) }
      go (suc moves) e = record {
        fresh = λ r. absurd (true≢false r);
        under-way = λ r. under-way moves e (o.waits (omega arith));
      }

  -- A budget that question 13 refuses is refused however many turns it may have.
  pub unfit-refused : budget_fits budget ≡ false → run_number file table budget ≡ 0 → ⊥
  unfit-refused unfit e = true≢false (sym (run-both file table budget e).1 ∙ unfit)

  -- Whatever it sets out from, a course asks for its budget and excess.
  pub course-asks : (a : RunAnswer) (bound : ℕ) (course : Course) → course ≡ course_of a bound excess
      → (run_answer file table course.budget course.excess ≡ run_answer file table bound excess) × (run_table file table course.budget course.excess ≡ run_table file table bound excess)
  course-asks a bound course e =
      let (asks-budget, asks-excess) = from a.judged in
      let budget-is : course.budget ≡ bound = ap (λ x. x.budget) e ∙ asks-budget in
      let excess-is : course.excess ≡ excess = ap (λ x. x.excess) e ∙ asks-excess in
      (rw (budget-is, excess-is) refl, rw (budget-is, excess-is) refl)
    where
      from : (judged : ℕ) → ((course_from judged a bound excess).budget ≡ bound) × ((course_from judged a bound excess).excess ≡ excess)
      from zero = (refl, refl)
      from (suc moves) = (refl, refl)
