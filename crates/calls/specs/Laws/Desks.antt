-- (A.8) What a desk answers and holds after its turns, by runs of smaller budgets.
use Rattle.std.specs.Prelude.{ℕ, zero, suc, pred, ◌≤◌, ◌<◌, ◌≡◌, min, Bool, true, false, cond, List, [], ◌∷◌, length, replicate, ltb, refl}
use Rattle.std.proofs.Common.{arith, sym, ◌∙◌, ap, ⊎_elim, le_trans, le-leb, lt-ltb, ne_eqb}
use Rattle.std.proofs.lemmas.Bool.{lt-leb, le-ltb}
use Rattle.theory.specs.Finite.{tabulate}
use Rattle.theory.specs.Network.{Network}
use Rattle.theory.specs.Moves.{Shared, table_size, started, move, moves, after_moves, reaches, stops, judged, last_judged}
use Rattle.theory.specs.Laws.Finite.{order}
use Rattle.theory.specs.Laws.Runs.{Judged, judged-has, judged-is, judged-fewer, goes_on, stops-by}
use Rattle.calls.specs.Study.{network_of}
use Rattle.study.specs.Questions.{first_no}
use Rattle.study.specs.Laws.{within-true}
use Rattle.calls.specs.Questions.{table_holds, desks_fit, allowance_fits, desks_questions, ask}
use Rattle.calls.specs.Calls.{overwritten, start_table, run_number, ending_at, run_answer, run_table}
use Rattle.calls.specs.Desks.{Desk, desk_at, turns_to_end, turns_of, desk_turns, unserved, desk_answer, desk_table, no_answer, seat_answer, seat_table, desks_number, desks_answer, desks_table}
use Rattle.calls.specs.declared.DesksAnswer.{DesksAnswer}
use Rattle.calls.specs.declared.Ending.{Ending}
use Rattle.calls.specs.declared.Ending.TheVariants as ending
use Rattle.calls.specs.Laws.Calls.{refused_run, run-accepted, run-written, run-refused, run-kept, start-written}
use Rattle.calls.specs.Laws.Questions.{Passed, check-passed, start-number, start-both, run-number, run-both}
use Rattle.calls.specs.Laws.Networks.{budget-range, range-budget, holds-length}
use Rattle.calls.specs.Laws.Tables.{run_length, started-length, overwritten-length, overwritten-twice}

-- The endings of one case.
abbrev pub is_spent : Ending → Bool
is_spent ending.Refused = false
is_spent ending.Reached = false
is_spent ending.Finest = false
is_spent ending.Spent = true
is_spent ending.Waiting = false

abbrev pub is_waiting : Ending → Bool
is_waiting ending.Refused = false
is_waiting ending.Reached = false
is_waiting ending.Finest = false
is_waiting ending.Spent = false
is_waiting ending.Waiting = true

-- A run that judged a table last ends 'spent' exactly where that table does not stop it; no run is waiting.
ending-spent : (g : Network) (excess : ℕ) (x : Shared) → stops g excess x ≡ false → ending_at g excess x ≡ ending.Spent
unfolding ending_at
ending-spent g excess x e = let (r, m) = goes_on g excess x e in rw (r, m)

ending-stopped : (g : Network) (excess : ℕ) (x : Shared) → stops g excess x ≡ true → is_spent (ending_at g excess x) ≡ false
unfolding ending_at
ending-stopped g excess x e = ⊎_elim (λ r. rw r) (λ m. by-move (reaches g excess x) (ap moves m)) (stops-by g excess x e)
  where
    by-move : (b : Bool) → moves (move g x) ≡ false → is_spent (cond b ending.Reached (cond (moves (move g x)) ending.Spent ending.Finest)) ≡ false
    by-move true m = refl
    by-move false m = rw m

ending-waits : (g : Network) (excess : ℕ) (x : Shared) → is_waiting (ending_at g excess x) ≡ false
unfolding ending_at
ending-waits g excess x = go (reaches g excess x) (moves (move g x))
  where
    go : (a b : Bool) → is_waiting (cond a ending.Reached (cond b ending.Spent ending.Finest)) ≡ false
    go true b = refl
    go false true = refl
    go false false = refl

module _ (file table : List ℕ) (budget excess : ℕ) where
  abbrev g : Network
  g = network_of file

  abbrev d : Desk
  d = record { file = file; table = table; budget = budget; excess = excess }

  -- A desk that has ended answers and holds what its run by itself does.
  pub ended-answer : (turns : ℕ) → turns_to_end d ≤ turns → desk_answer d turns ≡ run_answer file table budget excess
  unfolding desk_answer
  ended-answer turns h = rw (le-leb (turns_to_end d) turns h)

  pub ended-table : (turns : ℕ) → turns_to_end d ≤ turns → desk_table d turns ≡ run_table file table budget excess
  unfolding desk_table
  ended-table turns h = rw (le-leb (turns_to_end d) turns h)

  -- A desk whose run is refused has ended at once.
  pub refused-ends : (number : ℕ) → run_number file table budget ≡ suc number → turns_to_end d ≡ 0
  unfolding turns_to_end
  refused-ends number e = ap (λ a. a.judged) (run-refused file table budget excess number e)

  pub refused-answer : (number turns : ℕ) → run_number file table budget ≡ suc number → desk_answer d turns ≡ refused_run (suc number)
  refused-answer number turns e = ended-answer turns (omega (arith, refused-ends number e)) ∙ run-refused file table budget excess number e

  pub refused-table : (number turns : ℕ) → run_number file table budget ≡ suc number → desk_table d turns ≡ table
  refused-table number turns e = ended-table turns (omega (arith, refused-ends number e)) ∙ run-kept file table budget excess (λ z. omega (arith, e, z))

  module _ (accepted : run_number file table budget ≡ 0) where
    -- A run by itself is spent only with its whole budget.
    pub alone-spent : judged g budget excess < budget → is_spent (run_answer file table budget excess).ending ≡ false
    unfolding last_judged
    alone-spent h =
        ap (λ a. is_spent a.ending) (run-accepted file table budget excess accepted)
        ∙ ⊎_elim (ending-stopped g excess (last_judged g budget excess)) (λ e. absurd (omega arith)) (judged-has g budget excess (budget-range budget (run-both file table budget accepted).1).0).ends

    budget-fits : (1 ≤ budget) × (budget ≤ 1024)
    budget-fits = budget-range budget (run-both file table budget accepted).1

    ends-judged : turns_to_end d ≡ judged g budget excess
    unfolding turns_to_end
    ends-judged = ap (λ a. a.judged) (run-accepted file table budget excess accepted)

    ends-are : Judged g budget excess (turns_to_end d)
    ends-are = rw ends-judged (judged-has g budget excess budget-fits.0)

    pub ends-some : 1 ≤ turns_to_end d
    ends-some = ends-are.at_least

    pub ends-most : turns_to_end d ≤ budget
    ends-most = ends-are.at_most

    -- Before it has a turn, its table is as started.
    pub unserved-answer : desk_answer d 0 ≡ unserved
    unfolding desk_answer
    unserved-answer = rw (lt-leb (turns_to_end d) 0 ends-some)

    pub unserved-table : desk_table d 0 ≡ start_table file table
    unfolding desk_table
    unserved-table = rw (lt-leb (turns_to_end d) 0 ends-some)

    -- A run of the same study with a budget that is no larger.
    module _ (turns : ℕ) (some-turns : 1 ≤ turns) (few : turns ≤ budget) where
      pub fewer-accepted : run_number file table turns ≡ 0
      fewer-accepted =
          rw (run-number file table turns, (run-both file table budget accepted).0, range-budget turns some-turns (le_trans few budget-fits.1))

      pub fewer-judged : judged g turns excess ≡ min turns (turns_to_end d)
      fewer-judged = judged-is g turns excess (min turns (turns_to_end d)) (rw ends-judged (judged-fewer g budget excess turns some-turns few))

      -- It ends as the desk's run where that judges no more,
      pub fewer-same : turns_to_end d ≤ turns → run_answer file table turns excess ≡ run_answer file table budget excess
      unfolding last_judged
      fewer-same h =
          let count : judged g turns excess ≡ judged g budget excess = fewer-judged ∙ (let e : min turns (turns_to_end d) ≡ turns_to_end d = omega arith in e) ∙ ends-judged in
          run-accepted file table turns excess fewer-accepted
          ∙ rw count refl
          ∙ sym (run-accepted file table budget excess accepted)

      pub fewer-table : turns_to_end d ≤ turns → run_table file table turns excess ≡ run_table file table budget excess
      unfolding last_judged
      fewer-table h =
          let count : judged g turns excess ≡ judged g budget excess = fewer-judged ∙ (let e : min turns (turns_to_end d) ≡ turns_to_end d = omega arith in e) ∙ ends-judged in
          run-written file table turns excess fewer-accepted
          ∙ rw count refl
          ∙ sym (run-written file table budget excess accepted)

      -- where the last table that it judges is one that does not stop the desk's run, it is spent,
      pub fewer-spent : turns < turns_to_end d → (run_answer file table turns excess).ending ≡ ending.Spent
      unfolding last_judged
      fewer-spent h =
          let count : judged g turns excess ≡ turns = fewer-judged ∙ (let e : min turns (turns_to_end d) ≡ turns = omega arith in e) in
          ap (λ a. a.ending) (run-accepted file table turns excess fewer-accepted)
          ∙ rw count (ending-spent g excess (after_moves g (pred turns)) (ends-are.earlier (pred turns) (omega arith)))

      -- and that is what a desk that waits answers and holds.
      pub waiting-answer : turns < turns_to_end d → desk_answer d turns ≡ record (run_answer file table turns excess) { ending = ending.Waiting }
      unfolding desk_answer
      waiting-answer h = rw (lt-leb (turns_to_end d) turns h, ne_eqb turns 0 (λ e. omega (arith, e)))

      pub waiting-table : turns < turns_to_end d → desk_table d turns ≡ run_table file table turns excess
      unfolding desk_table
      waiting-table h = rw (lt-leb (turns_to_end d) turns h, ne_eqb turns 0 (λ e. omega (arith, e)))

      -- Its table is the one that a run under way judged last, at its share, and none before stops the run.
      module _ (waits : turns < turns_to_end d) where
        waiting-last : last_judged g turns excess ≡ after_moves g (pred turns)
        unfolding last_judged
        waiting-last = ap (λ k. after_moves g (pred k)) (fewer-judged ∙ (let e : min turns (turns_to_end d) ≡ turns = omega arith in e))

        pub waiting-holds : desk_table d turns ≡ overwritten (after_moves g (pred turns)).table table
        waiting-holds = waiting-table waits ∙ run-written file table turns excess fewer-accepted ∙ ap (λ x. overwritten x.table table) waiting-last

        pub waiting-share : (desk_answer d turns).share ≡ (after_moves g (pred turns)).share
        waiting-share =
            ap (λ a. a.share) (waiting-answer waits)
            ∙ ap (λ a. a.share) (run-accepted file table turns excess fewer-accepted)
            ∙ ap (λ x. x.share) waiting-last

        pub waiting-earlier : (k : ℕ) → k < pred turns → stops g excess (after_moves g k) ≡ false
        waiting-earlier k h = ends-are.earlier k (omega arith)

  -- A desk's count is its turns, up to those that it takes to end, and it waits until then.
  pub desk-judged : (turns : ℕ) → (desk_answer d turns).judged ≡ min (turns_to_end d) turns
  unfolding turns_to_end
  desk-judged turns = go (run_number file table budget) refl
    where
      waits : run_number file table budget ≡ 0 → turns < turns_to_end d → (t : ℕ) → turns ≡ t → (desk_answer d t).judged ≡ min (turns_to_end d) t
      waits accepted h zero e = ap (λ a. a.judged) (unserved-answer accepted) ∙ omega arith
      waits accepted h (suc t) e =
          let some-turns : 1 ≤ suc t = omega arith in
          let few : suc t ≤ budget = omega (arith, ends-most accepted) in
          ap (λ a. a.judged) (waiting-answer accepted (suc t) some-turns few (omega arith))
          ∙ ap (λ a. a.judged) (run-accepted file table (suc t) excess (fewer-accepted accepted (suc t) some-turns few))
          ∙ fewer-judged accepted (suc t) some-turns few
          ∙ omega arith

      ended : turns_to_end d ≤ turns → (desk_answer d turns).judged ≡ min (turns_to_end d) turns
      ended h = ap (λ a. a.judged) (ended-answer turns h) ∙ (let e : turns_to_end d ≡ min (turns_to_end d) turns = omega arith in e)

      go : (n : ℕ) → run_number file table budget ≡ n → (desk_answer d turns).judged ≡ min (turns_to_end d) turns
      go zero e = ⊎_elim (λ h. waits e h turns refl) ended (order turns (turns_to_end d))
      go (suc n) e = ended (omega (arith, refused-ends n e))

  pub desk-waits : (turns : ℕ) → is_waiting (desk_answer d turns).ending ≡ ltb turns (turns_to_end d)
  desk-waits turns = go (run_number file table budget) refl
    where
      waits : run_number file table budget ≡ 0 → turns < turns_to_end d → (t : ℕ) → turns ≡ t → is_waiting (desk_answer d t).ending ≡ true
      waits accepted h zero e = ap (λ a. is_waiting a.ending) (unserved-answer accepted)
      waits accepted h (suc t) e =
          ap (λ a. is_waiting a.ending) (waiting-answer accepted (suc t) (omega arith) (omega (arith, ends-most accepted)) (omega arith))

      alone : (n : ℕ) → run_number file table budget ≡ n → is_waiting (run_answer file table budget excess).ending ≡ false
      alone zero e =
          ap (λ a. is_waiting a.ending) (run-accepted file table budget excess e) ∙ ending-waits g excess (last_judged g budget excess)
      alone (suc n) e = ap (λ a. is_waiting a.ending) (run-refused file table budget excess n e)

      ended : (n : ℕ) → run_number file table budget ≡ n → turns_to_end d ≤ turns → is_waiting (desk_answer d turns).ending ≡ ltb turns (turns_to_end d)
      ended n e h = ap (λ a. is_waiting a.ending) (ended-answer turns h) ∙ alone n e ∙ sym (le-ltb turns (turns_to_end d) h)

      go : (n : ℕ) → run_number file table budget ≡ n → is_waiting (desk_answer d turns).ending ≡ ltb turns (turns_to_end d)
      go zero e = ⊎_elim (λ h. waits e h turns refl ∙ sym (lt-ltb turns (turns_to_end d) h)) (ended zero e) (order turns (turns_to_end d))
      go (suc n) e = ended (suc n) e (omega (arith, refused-ends n e))

-- A run reads of a table that it is lent no more than its length,
module _ (file table other : List ℕ) (as-long : length other ≡ length table) (budget : ℕ) where
  pub number-again : run_number file other budget ≡ run_number file table budget
  unfolding table_holds
  number-again = rw (run-number file other budget, run-number file table budget, start-number file other, start-number file table, as-long)

  pub answer-again : (excess : ℕ) → run_answer file other budget excess ≡ run_answer file table budget excess
  unfolding run_answer
  answer-again excess = rw (number-again, run_answer)

-- and so leaves what it would have left in the table before anything was written there.
pub table-again : (file table : List ℕ) (budget excess : ℕ) (written : List ℕ) → run_number file table budget ≡ 0 → length written ≡ table_size (network_of file)
    → run_table file (overwritten written table) budget excess ≡ run_table file table budget excess
unfolding last_judged
table-again file table budget excess written accepted size =
    let starts = start-both file table (run-both file table budget accepted).0 in
    let long = holds-length (network_of file) table starts.1 in
    let last = run_length file (check-passed file starts.0) (pred (judged (network_of file) budget excess)) in
    let as-long = overwritten-length written table (omega arith) in
    run-written file (overwritten written table) budget excess (number-again file table (overwritten written table) as-long budget ∙ accepted)
    ∙ overwritten-twice (last_judged (network_of file) budget excess).table written table (last ∙ sym size)
    ∙ sym (run-written file table budget excess accepted)

-- A desk that was served before answers and holds what it would have without that.
module _ (file table : List ℕ) (budget excess turns : ℕ) where
  abbrev h : Network
  h = network_of file

  abbrev first : Desk
  first = record { file = file; table = table; budget = budget; excess = excess }

  abbrev later : Desk
  later = record first { table = desk_table first turns }

  -- What stands in its table was written over as many numbers as a table of the study has.
  module _ (accepted : run_number file table budget ≡ 0) where
    Written : Type 0
    Written = (x : List ℕ) × ((length x ≡ table_size h) × (desk_table first turns ≡ overwritten x table))

    study : Passed file
    study = check-passed file (start-both file table (run-both file table budget accepted).0).0

    written-over : Written
    unfolding last_judged Written
    written-over = ⊎_elim (λ p. waits p turns refl) ended (order turns (turns_to_end first))
      where
        ended : turns_to_end first ≤ turns → Written
        ended p = (
          (last_judged h budget excess).table,
          (run_length file study (pred (judged h budget excess)), ended-table file table budget excess turns p ∙ run-written file table budget excess accepted),
        )

        waits : turns < turns_to_end first → (t : ℕ) → turns ≡ t → Written
        waits p zero e = (
          (started h).table,
          (started-length file study, ap (desk_table first) e ∙ unserved-table file table budget excess accepted ∙ start-written file table (run-both file table budget accepted).0),
        )
        waits p (suc t) e = (
          (after_moves h (pred turns)).table,
          (run_length file study (pred turns), waiting-holds file table budget excess accepted turns (omega arith) (omega (arith, ends-most file table budget excess accepted)) p),
        )

    table-long : table_size h ≤ length table
    table-long = holds-length h table (start-both file table (run-both file table budget accepted).0).1

    written-length : length (desk_table first turns) ≡ length table
    unfolding Written
    written-length = let (x, (size, e)) = written-over in ap length e ∙ overwritten-length x table (omega (arith, table-long))

    -- Written over, the table is what it would have been.
    module _ (x : List ℕ) (size : length x ≡ table_size h) where
      abbrev other : List ℕ
      other = overwritten x table

      other-long : length other ≡ length table
      other-long = overwritten-length x table (omega (arith, table-long))

      abbrev over : Desk
      over = record first { table = other }

      over-accepted : run_number file other budget ≡ 0
      over-accepted = number-again file table other other-long budget ∙ accepted

      over-ends : turns_to_end over ≡ turns_to_end first
      unfolding turns_to_end
      over-ends = ap (λ a. a.judged) (answer-again file table other other-long budget excess)

      over-again : (t : ℕ) → desk_table over t ≡ desk_table first t
      over-again t = ⊎_elim (λ p. waits p t refl) ended (order t (turns_to_end first))
        where
          ended : turns_to_end first ≤ t → desk_table over t ≡ desk_table first t
          ended p =
              ended-table file other budget excess t (omega (arith, over-ends))
              ∙ table-again file table budget excess x accepted size
              ∙ sym (ended-table file table budget excess t p)

          waits : t < turns_to_end first → (k : ℕ) → t ≡ k → desk_table over k ≡ desk_table first k
          waits p zero e =
              let starts = (run-both file table budget accepted).0 in
              let over-starts = (run-both file other budget over-accepted).0 in
              unserved-table file other budget excess over-accepted
              ∙ start-written file other over-starts
              ∙ overwritten-twice (started h).table x table (started-length file study ∙ sym size)
              ∙ sym (start-written file table starts)
              ∙ sym (unserved-table file table budget excess accepted)
          waits p (suc k) e =
              let some-turns : 1 ≤ suc k = omega arith in
              let few : suc k ≤ budget = omega (arith, ends-most file table budget excess accepted) in
              waiting-table file other budget excess over-accepted (suc k) some-turns few (omega (arith, over-ends))
              ∙ table-again file table (suc k) excess x (fewer-accepted file table budget excess accepted (suc k) some-turns few) size
              ∙ sym (waiting-table file table budget excess accepted (suc k) some-turns few (omega arith))

  desk-length : length (desk_table first turns) ≡ length table
  desk-length = go (run_number file table budget) refl
    where
      go : (n : ℕ) → run_number file table budget ≡ n → length (desk_table first turns) ≡ length table
      go zero e = written-length e
      go (suc n) e = ap length (refused-table file table budget excess n turns e)

  pub ends-again : turns_to_end later ≡ turns_to_end first
  unfolding turns_to_end
  ends-again = ap (λ a. a.judged) (answer-again file table (desk_table first turns) desk-length budget excess)

  pub desk-answer-again : (t : ℕ) → desk_answer later t ≡ desk_answer first t
  unfolding desk_answer
  desk-answer-again t =
      rw (ends-again, answer-again file table (desk_table first turns) desk-length budget excess, answer-again file table (desk_table first turns) desk-length t excess)

  pub desk-table-again : (t : ℕ) → desk_table later t ≡ desk_table first t
  unfolding Written
  desk-table-again t = go (run_number file table budget) refl
    where
      again : (e : run_number file table budget ≡ 0) → Written e → desk_table later t ≡ desk_table first t
      again e (x, (size, written)) =
          ap (λ before. desk_table (record first { table = before }) t) written ∙ over-again e x size t

      go : (n : ℕ) → run_number file table budget ≡ n → desk_table later t ≡ desk_table first t
      go zero e = again e (written-over e)
      go (suc n) e = ap (λ other. desk_table (record first { table = other }) t) (refused-table file table budget excess n turns e)

-- The number of the call: 24 where the desks do not fit, and then 25 where the allowance does not.
pub desks-number : (count allowance : ℕ) → desks_number count allowance ≡ cond (desks_fit count) (cond (allowance_fits allowance) 0 25) 24
unfolding desks_number desks_questions
desks-number count allowance = go (desks_fit count) (allowance_fits allowance)
  where
    go : (a b : Bool) → first_no (ask 24 a ∷ ask 25 b ∷ []) ≡ cond a (cond b 0 25) 24
    go true true = refl
    go true false = refl
    go false b = refl

-- It is accepted with 1 to 8 desks.
pub desks-range : (count allowance : ℕ) → desks_number count allowance ≡ 0 → (1 ≤ count) × (count ≤ 8) × (1 ≤ allowance) × (allowance ≤ 8192)
unfolding desks_fit allowance_fits
desks-range count allowance e = go (desks_fit count) refl (allowance_fits allowance) refl (sym (desks-number count allowance) ∙ e)
  where
    go : (a : Bool) → desks_fit count ≡ a → (b : Bool) → allowance_fits allowance ≡ b → ◌≡◌ {A = ℕ} (cond a (cond b 0 25) 24) 0
        → (1 ≤ count) × (count ≤ 8) × (1 ≤ allowance) × (allowance ≤ 8192)
    go true f true h z = (let d = within-true 1 8 count f in let a = within-true 1 8192 allowance h in (d.0, d.1, a.0, a.1))
    go true f false h z = absurd (omega arith)
    go false f b h z = absurd (omega arith)

-- The call, accepted and refused.
abbrev pub refused_desks : ℕ → DesksAnswer
refused_desks number = record { refusal = number; turns = 0; seats = replicate 8 no_answer }

module _ (desks : List Desk) (count allowance : ℕ) where
  pub desks-accepted : desks_number count allowance ≡ 0 → (let turns = desk_turns desks count allowance in
      desks_answer desks count allowance ≡ record { refusal = 0; turns = length turns; seats = tabulate 8 (seat_answer desks count (λ seat. turns_of seat turns)) })
  unfolding desks_answer
  desks-accepted e = rw (e, desks_answer)

  pub desks-refused : (number : ℕ) → desks_number count allowance ≡ suc number → desks_answer desks count allowance ≡ refused_desks (suc number)
  unfolding desks_answer
  desks-refused number e = rw (e, desks_answer)

  pub desks-written : (seat : ℕ) → desks_number count allowance ≡ 0
      → desks_table desks count allowance seat ≡ seat_table desks count (λ other. turns_of other (desk_turns desks count allowance)) seat
  unfolding desks_table
  desks-written seat e = rw e

  pub desks-kept : (seat : ℕ) → (desks_number count allowance ≡ 0 → ⊥) → desks_table desks count allowance seat ≡ (desk_at desks seat).table
  unfolding desks_table
  desks-kept seat refused = rw (ne_eqb (desks_number count allowance) 0 refused)
