-- The turns of a run, and what it answers where it ends.
use Rattle.std.specs.Prelude.{◌≡◌, ℕ, pred, ◌+◌, ◌*◌, ◌<◌, ◌≤◌, Bool, true, false, cond, ◌⊎◌, List, length, ◌==◌, ◌≢◌, nat_le, slice_index, refl}
use Rattle.std.proofs.Common.{add-one, mul-le-mul, arith, sym, ◌∙◌, subst, true≢false, inl, inr, ⊎_elim, eqb-true}
use Rattle.std.proofs.Math.Path.{ap}
use Rattle.std.proofs.Math.Option.{Option, none, some}
use Rattle.std.proofs.lemmas.Bool.{eqb-false}
use Rattle.theory.specs.Finite.{sum}
use Rattle.theory.specs.Network.{Network, total_trips}
use Rattle.theory.specs.Study.{network}
use Rattle.theory.specs.Flows.{over}
use Rattle.theory.specs.Cost.{cost, gap}
use Rattle.theory.specs.Moves.{Shared, table_size, started, move, moves, after_moves, reaches, stops, judged, last_judged}
use Rattle.theory.specs.Laws.Finite.{below_suc}
use Rattle.theory.specs.Laws.Local.{cost-same, over-same, gap_same, move_same}
use Rattle.theory.specs.Laws.Runs.{first-table, next-moved, judged-is}
use Rattle.calls.specs.Study.{network_of}
use Rattle.calls.specs.Calls.{overwritten, start_number, run_number, run_answer, run_table, ending_at, share_after, table_after}
use Rattle.calls.specs.declared.RunAnswer.{RunAnswer}
use Rattle.calls.specs.Laws.Questions.{Passed, check-passed, start-both, run-both}
use Rattle.calls.specs.Laws.Calls.{run-accepted, run-written}
use Rattle.calls.specs.Laws.Networks.{budget-range, holds-length, length-holds, few-trips}
use Rattle.calls.specs.Laws.Tables.{run_length, run-passes, overwritten-front, overwritten-length, overwritten-twice, overwritten-passes}
use Rattle.questions.specs.Laws.Questions.{total_of}
use Rattle.judging.specs.Study.{Study, study_of, Ready, Judgeable, move_of, step_of, share_after_step, table_after_step}
use Rattle.judging.specs.Judged.{Turned}
use Rattle.judging.specs.declared.Standing.{Standing}
use Rattle.judging.specs.declared.Turn.{Turn}
use Rattle.judging.specs.declared.Step.{Step}
use Rattle.judging.specs.declared.Step.TheVariants as step
use Rattle.assignment.specs.Answers.{ending_of, ended_answer}
use Rattle.refusals.specs.Parts.{PartsOf, study_in}
use Rattle.assignment.specs.declared.Course.{Course}
use Rattle.assignment.specs.Runs.{Running, Begun, SetsOut}
use Rattle.refusals.specs.Laws.Parts.{study-is, network-is, parts-sized, ready, judgeable}

-- What the definitions read of a table that stands in the first numbers of a lent one.
module _ (file before : List ℕ) (study : Passed file) (i : ℕ) where
  abbrev g : Network
  g = network_of file

  abbrev x : Shared
  x = after_moves g i

  abbrev lent : List ℕ
  lent = overwritten x.table before

  front : (k : ℕ) → k < table_size g → slice_index lent k ≡ slice_index x.table k
  front k p = sym (overwritten-front x.table before k (omega (arith, run_length file study i)))

  pub gap-lent : gap g x.share lent ≡ gap g x.share x.table
  gap-lent = gap_same g lent x.table front x.share

  pub cost-lent : cost g x.share lent ≡ cost g x.share x.table
  cost-lent = cost-same g lent x.table front x.share

  pub over-lent : over g x.share lent ≡ over g x.share x.table
  over-lent = over-same g lent x.table front x.share

  move-lent : move_of (network_of file) lent x.share ≡ move g x
  move-lent = move_same g lent x.table front x.share

  -- The run's test of its gap, by excess × T.
  reaches-lent : (excess limit : ℕ) → limit ≡ excess * total_trips g → nat_le (gap g x.share lent) (limit * x.share) ≡ reaches g excess x
  unfolding reaches
  reaches-lent excess limit e =
      let same : limit * x.share ≡ excess * x.share * total_trips g = omega (arith, ap (λ t. t * x.share) e) in
      rw (gap-lent, same)

  -- A turn goes on from the lent table as from the run's own.
  pub step-lent : (excess limit : ℕ) → limit ≡ excess * total_trips g → (last : Bool)
      → step_of g lent x.share limit last
      ≡ cond (reaches g excess x) step.Reached (cond (moves (move g x)) (cond last step.Spent step.Moved) step.Finest)
  unfolding step_of
  step-lent excess limit e last = rw (reaches-lent excess limit e, move-lent)

-- What the tests of a turn say, by its step.
data Tested (reached moved last : Bool) : Step → Type 0 where
  at-reached : reached ≡ true → Tested reached moved last step.Reached
  at-finest : reached ≡ false → moved ≡ false → Tested reached moved last step.Finest
  at-spent : reached ≡ false → moved ≡ true → last ≡ true → Tested reached moved last step.Spent
  at_moved : reached ≡ false → moved ≡ true → last ≡ false → Tested reached moved last step.Moved

tested : (reached moved last : Bool) → Tested reached moved last (cond reached step.Reached (cond moved (cond last step.Spent step.Moved) step.Finest))
tested true moved last = at-reached refl
tested false false last = at-finest refl refl
tested false true true = at-spent refl refl refl
tested false true false = at_moved refl refl refl

-- Which tables stop a run.
goes-on-when : (g : Network) (excess : ℕ) (x : Shared) → reaches g excess x ≡ false → moves (move g x) ≡ true → stops g excess x ≡ false
unfolding stops
goes-on-when g excess x r t = rw (r, t)

stops-when-reached : (g : Network) (excess : ℕ) (x : Shared) → reaches g excess x ≡ true → stops g excess x ≡ true
unfolding stops
stops-when-reached g excess x r = rw r

stops-when-finest : (g : Network) (excess : ℕ) (x : Shared) → reaches g excess x ≡ false → moves (move g x) ≡ false → stops g excess x ≡ true
unfolding stops
stops-when-finest g excess x r t = rw (r, t)

-- The numbers and the table of a run that ended at table i + 1.
pub record Ended (file before : List ℕ) (budget excess i : ℕ) (last : Step) : Type 0 where
  pub count : judged (network_of file) budget excess ≡ i + 1
  pub table : last_judged (network_of file) budget excess ≡ after_moves (network_of file) i
  pub ending : ending_at (network_of file) excess (after_moves (network_of file) i) ≡ ending_of last

module _ (file before : List ℕ) (budget excess : ℕ) (accepted : run_number file before budget ≡ 0) where
  -- A run that is not refused begins with the start's table, at share 1.
  pub run-begins : Running file before budget excess 0 (overwritten (started (network_of file)).table before) 1
  unfolding started
  run-begins =
      record {
        table_is = ap (λ y. overwritten y.table before) (sym (first-table (network_of file)));
        share-is = ap (λ y. y.share) (sym (first-table (network_of file)));
        earlier = λ k p. absurd (omega arith);
        within = (budget-range budget (run-both file before budget accepted).1).0;
      }

  run-starts : start_number file before ≡ 0
  run-starts = (run-both file before budget accepted).0

  pub run-study : Passed file
  run-study = check-passed file (start-both file before run-starts).0

  module _ (limit : ℕ) (limit_is : limit ≡ excess * total_trips (network_of file)) (i : ℕ) (table : List ℕ) (share : ℕ)
      (running : Running file before budget excess i table share) where
    -- Its table can be judged,
    pub running-judgeable : Judgeable (study_in file) table share
    running-judgeable =
        let y = after_moves (network_of file) i in
        let size = run_length file run-study i in
        let long = holds-length (network_of file) before (start-both file before run-starts).1 in
        let same = overwritten-length y.table before (omega arith) in
        rw (running.table_is, running.share-is)
        (judgeable file (overwritten y.table before) y.share run-study
        (length-holds (network_of file) (overwritten y.table before) (omega arith))
        (overwritten-passes file run-study y.table before y.share size (run-passes file run-study i)))

    turn-tested : (last : Bool) → Tested (reaches (network_of file) excess (after_moves (network_of file) i)) (moves (move (network_of file) (after_moves (network_of file) i))) last (step_of (network_of file) table share limit last)
    turn-tested last =
        rw (running.table_is, running.share-is, step-lent file before run-study i excess limit limit_is last)
        (tested (reaches (network_of file) excess (after_moves (network_of file) i)) (moves (move (network_of file) (after_moves (network_of file) i))) last)

    -- and where a turn moves it, the run goes on with the table that it leaves.
    pub running-on : step_of (network_of file) table share limit (i + 1 == budget) ≡ step.Moved
        → Running file before budget excess (i + 1) (table_after table (move_of (network_of file) table share)) (share_after share (move_of (network_of file) table share))
    running-on e = go (move h y) refl (subst (Tested (reaches h excess y) (moves (move h y)) (i + 1 == budget)) e (turn-tested (i + 1 == budget)))
      where
        h : Network
        h = network_of file

        y : Shared
        y = after_moves h i

        next-is : move_of (network_of file) table share ≡ move h y
        next-is = rw (running.table_is, running.share-is) (move-lent file before run-study i)

        on : (z : Shared) → move h y ≡ some z → reaches h excess y ≡ false → (i + 1 == budget) ≡ false
            → Running file before budget excess (i + 1) (table_after table (some z)) (share_after share (some z))
        on z m r more =
            let there : after_moves h (i + 1) ≡ z = next-moved h i z m in
            let size = run_length file run-study (i + 1) in
            record {
              table_is =
                  rw (running.table_is, there)
                  (overwritten-twice z.table y.table before (ap (λ q. length q.table) (sym there) ∙ size ∙ sym (run_length file run-study i)));
              share-is = ap (λ q. q.share) (sym there);
              earlier = λ k p. ⊎_elim (running.earlier k) (λ q. rw q (goes-on-when h excess y r (ap moves m))) (below_suc i k (omega arith));
              within = omega (arith, running.within, eqb-false (i + 1) budget more);
            }

        go : (o : Option Shared) → move h y ≡ o → Tested (reaches h excess y) (moves (move h y)) (i + 1 == budget) step.Moved
            → Running file before budget excess (i + 1) (table_after table (move_of (network_of file) table share)) (share_after share (move_of (network_of file) table share))
        go none m (at_moved r t more) = absurd (true≢false (sym t ∙ ap moves m))
        go (some z) m (at_moved r t more) = rw (next-is, m) (on z m r more)

    -- Where it does not, the run has ended at this table.
    pub running-ends : (last : Step) → step_of (network_of file) table share limit (i + 1 == budget) ≡ last → (last ≢ step.Moved) → Ended file before budget excess i last
    unfolding ending_at last_judged
    running-ends last e stays = go last (subst (Tested (reaches h excess y) (moves (move h y)) (i + 1 == budget)) e (turn-tested (i + 1 == budget))) stays
      where
        h : Network
        h = network_of file

        y : Shared
        y = after_moves h i

        counts : (stops h excess y ≡ true) ⊎ (i + 1 ≡ budget) → judged h budget excess ≡ i + 1
        counts ends =
            judged-is h budget excess (i + 1)
            (record {
              at_least = omega arith;
              at_most = omega (arith, running.within);
              earlier = λ k p. running.earlier k (omega arith);
              ends = rw (ap pred (add-one i)) ends;
            })

        at : judged h budget excess ≡ i + 1 → after_moves h (pred (judged h budget excess)) ≡ y
        at c = ap (λ k. after_moves h (pred k)) (c ∙ add-one i)

        made : (s : Step) → judged h budget excess ≡ i + 1 → ending_at h excess y ≡ ending_of s → Ended file before budget excess i s
        made s c d = record { count = c; table = at c; ending = d }

        go : (s : Step) → Tested (reaches h excess y) (moves (move h y)) (i + 1 == budget) s → (s ≢ step.Moved) → Ended file before budget excess i s
        go _ (at-reached r) n = made step.Reached (counts (inl (stops-when-reached h excess y r))) (rw r)
        go _ (at-finest r t) n = made step.Finest (counts (inl (stops-when-finest h excess y r t))) (rw (r, t))
        go _ (at-spent r t l) n = made step.Spent (counts (inr (eqb-true (i + 1) budget l))) (rw (r, t))
        go _ (at_moved r t l) n = absurd (n refl)

    -- What the run answers and leaves then.
    pub ended-answer : (last : Step) → Ended file before budget excess i last
        → run_answer file before budget excess
        ≡ ended_answer last (i + 1) share (gap (network_of file) share table) (cost (network_of file) share table) (over (network_of file) share table)
    ended-answer last e =
        rw (
          run-accepted file before budget excess accepted,
          e.count,
          e.table,
          e.ending,
          running.table_is,
          running.share-is,
          gap-lent file before run-study i,
          cost-lent file before run-study i,
          over-lent file before run-study i,
        )

    pub ended-table : (last : Step) → Ended file before budget excess i last → run_table file before budget excess ≡ table
    ended-table last e =
        run-written file before budget excess accepted ∙ ap (λ q. overwritten q.table before) e.table ∙ sym running.table_is

-- A turn that does not move leaves the table.
step_stays : (last : Step) (table : List ℕ) (next : Option Shared) → (last ≢ step.Moved) → table_after_step last table next ≡ table
step_stays step.Reached table next stays = refl
step_stays step.Finest table next stays = refl
step_stays step.Spent table next stays = refl
step_stays step.Moved table next stays = absurd (stays refl)

-- What a turn's step, share and table afterwards are.
module _ (file before : List ℕ) (budget excess : ℕ) (accepted : run_number file before budget ≡ 0) (limit : ℕ)
    (limit_is : limit ≡ excess * total_trips (network_of file)) (i : ℕ) (table : List ℕ) (share : ℕ)
    (running : Running file before budget excess i table share) (last : Step) (after : List ℕ)
    (taken : last ≡ step_of (network_of file) table share limit (i + 1 == budget))
    (left : after ≡ table_after_step last table (move_of (network_of file) table share)) where
  pub turn-moves : (share' : ℕ) → share' ≡ share_after_step last share (move_of (network_of file) table share) → last ≡ step.Moved
      → Running file before budget excess (i + 1) after share'
  turn-moves share' e moved =
      let on = running-on file before budget excess accepted limit limit_is i table share running (sym taken ∙ moved) in
      rw (left, e, moved) on

  module _ (stays : last ≡ step.Moved → ⊥) where
    pub turn-same : after ≡ table
    turn-same = left ∙ step_stays last table (move_of (network_of file) table share) stays

    end : Ended file before budget excess i last
    end = running-ends file before budget excess accepted limit limit_is i table share running last (sym taken) stays

    pub turn-answers : (gap' cost' over' : ℕ) (answer : RunAnswer) → gap' ≡ gap (network_of file) share table
        → cost' ≡ cost (network_of file) share after → over' ≡ over (network_of file) share after
        → answer ≡ ended_answer last (i + 1) share gap' cost' over'
        → answer ≡ run_answer file before budget excess
    turn-answers gap' cost' over' answer judged-gap judged-cost judged-over e =
        e
        ∙ rw (judged-gap, judged-cost, judged-over, turn-same)
        (sym (ended-answer file before budget excess accepted limit limit_is i table share running last end))

    pub turn-leaves : after ≡ run_table file before budget excess
    turn-leaves = turn-same ∙ sym (ended-table file before budget excess accepted limit limit_is i table share running last end)

-- The turns begin with what the start left.
pub begun-running : (file before : List ℕ) (budget excess : ℕ) {table : List ℕ} → Begun file before budget table → Running file before budget excess 0 table 1
begun-running file before budget excess begun = rw begun.started (run-begins file before budget excess begun.accepted)

-- The table that a run judges first is where it sets out.
pub sets-out : (file before : List ℕ) (at : Course) {table : List ℕ} → run_number file before at.budget ≡ 0 → SetsOut file before at
    → table ≡ cond at.resumed before (overwritten (started (network_of file)).table before) → Running file before at.budget at.excess at.moves table at.share
sets-out file before at {table} accepted h e = go at.resumed refl e
  where
    go : (b : Bool) → at.resumed ≡ b → table ≡ cond b before (overwritten (started (network_of file)).table before) → Running file before at.budget at.excess at.moves table at.share
    go true r f = rw f (h.under-way r)
    go false r f =
        let (unmoved, one) = h.fresh r in
        rw (unmoved, one) (begun-running file before at.budget at.excess (record { accepted = accepted; started = f }))

-- The parts of the file of an accepted run.
module _ {file : List ℕ} {n : ℕ} {link_list : List (List ℕ)} {commodity_list entries : List ℕ} (parts : PartsOf file 0 n link_list commodity_list entries)
    (before : List ℕ) (budget excess : ℕ) (accepted : run_number file before budget ≡ 0) where
  abbrev d : Study
  d = study_of n link_list commodity_list entries

  pub run-ready : Ready d
  run-ready = rw (study-is parts) (ready file (run-study file before budget excess accepted))

  -- The limit is excess × T, and fits.
  module _ {total : ℕ} (total-is : total ≡ sum (length entries) (λ i. slice_index entries i)) where
    trips-are : total ≡ total_trips (network_of file)
    trips-are = total-is ∙ total_of (parts-sized parts) ∙ ap total_trips (network-is parts)

    pub limit_is : excess * total ≡ excess * total_trips (network_of file)
    limit_is = ap (λ t. excess * t) trips-are

    pub limit-fits : excess ≤ 65535 → excess * total ≤ 65535 * 65535
    limit-fits h =
        let few = few-trips file (run-study file before budget excess accepted).described in
        mul-le-mul {n₁ = excess} {m₁ = total} {n₂ = 65535} {m₂ = 65535} h (omega (arith, trips-are))

  -- The table of a run under way can be judged,
  module _ (limit i : ℕ) (table : List ℕ) (share : ℕ) (limit-was : limit ≡ excess * total_trips (network_of file))
      (running : Running file before budget excess i table share) where
    pub turn-judgeable : Judgeable d table share
    turn-judgeable =
        rw (study-is parts) (running-judgeable file before budget excess accepted limit limit-was i table share running)

    -- and a turn goes by the network of the parts, which is the file's.
    module _ {at : Standing} {r : Turn} {after : List ℕ} (share-was : at.share ≡ share) (limit-at : at.limit ≡ limit)
        (last-is : at.last ≡ (i + 1 == budget)) (turned : Turned (network n link_list commodity_list entries) table at r after) where
      taken : r.step ≡ step_of (network_of file) table share limit (i + 1 == budget)
      taken = rw (← network-is parts, ← share-was, ← limit-at, ← last-is) turned.step_is

      left : after ≡ table_after_step r.step table (move_of (network_of file) table share)
      left = rw (← network-is parts, ← share-was) turned.table_is

      pub turn-runs : r.step ≡ step.Moved → Running file before budget excess (i + 1) after r.share
      turn-runs moved =
          turn-moves file before budget excess accepted limit limit-was i table share running r.step after taken left r.share
          (rw (← network-is parts, ← share-was) turned.share-is) moved

      module _ (stays : r.step ≡ step.Moved → ⊥) where
        pub still-judgeable : Judgeable d after share
        still-judgeable =
            rw (turn-same file before budget excess accepted limit limit-was i table share running r.step after taken left stays) turn-judgeable

        pub turn-ends : {cost' over' : ℕ} {answer : RunAnswer} → cost' ≡ cost (network n link_list commodity_list entries) share after →
            over' ≡ over (network n link_list commodity_list entries) share after →
            answer ≡ ended_answer r.step (i + 1) share r.gap cost' over' →
            (answer ≡ run_answer file before budget excess) × (after ≡ run_table file before budget excess)
        turn-ends {cost'} {over'} {answer} cost-is over-is e = (
          turn-answers file before budget excess accepted limit limit-was i table share running r.step after taken left stays r.gap cost' over' answer
              (rw (← network-is parts, ← share-was) turned.gap_is)
              (rw (← network-is parts) cost-is)
              (rw (← network-is parts) over-is)
              e,
          turn-leaves file before budget excess accepted limit limit-was i table share running r.step after taken left stays,
        )
