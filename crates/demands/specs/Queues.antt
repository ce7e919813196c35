-- A.8: what each seat of several desks answers and holds, and the order of their turns.
use Rattle.std.specs.Prelude.{ℕ, zero, suc, ◌*◌, ◌≤◌, ◌<◌, ◌≡◌, refl, List, ◌++◌, length, get_or}
use Rattle.std.proofs.Common.{arith, ◌∙◌, ap, ⊎_elim, lt-ltb}
use Rattle.std.proofs.lemmas.Bool.{le-ltb}
use Rattle.theory.specs.Laws.Conserving.{Carried}
use Rattle.theory.specs.Laws.Finite.{order, get_d_tabulate}
use Rattle.calls.specs.Study.{network_of}
use Rattle.calls.specs.Calls.{start_table, run_number, run_answer, run_table}
use Rattle.calls.specs.Desks.{Desk, desk_at, turns_to_end, ends_after, turns_of, desk_turns, unserved, desk_answer, desk_table, no_answer, seat_answer, desks_number, desks_answer, desks_table}
use Rattle.calls.specs.declared.Ending.TheVariants as ending
use Rattle.calls.specs.declared.RunAnswer.{RunAnswer}
use Rattle.calls.specs.Laws.Calls.{refused_run}
use Rattle.calls.specs.Laws.Questions.{run-both}
use Rattle.calls.specs.Laws.Desks.{refused_desks, desks-accepted, desks-refused, desks-written, desks-kept, desks-range, desk-judged, ended-answer, ended-table, refused-ends, refused-answer, refused-table}
use Rattle.calls.specs.Laws.Desks.{ends-most, unserved-answer, unserved-table, fewer-accepted, waiting-answer, waiting-table}
use Rattle.calls.specs.Laws.Turns.{Taken, taken, within-eight}
use Rattle.demands.specs.Refusals.{refused-answer as refusal-is}
use Rattle.demands.specs.Results.{start-carried, run-carried}

-- A refusal of the whole call.
pub record DesksRefused (desks : List Desk) (count allowance : ℕ) : Type 0 where
  pub answer : desks_answer desks count allowance ≡ refused_desks (desks_number count allowance)
  pub unchanged : (seat : ℕ) → desks_table desks count allowance seat ≡ (desk_at desks seat).table

pub refused-desks : (desks : List Desk) (count allowance : ℕ) → (desks_number count allowance ≡ 0 → ⊥) → DesksRefused desks count allowance
refused-desks desks count allowance refused =
    record {
      answer = refusal-is (desks_answer desks count allowance) refused_desks (desks_number count allowance) (desks-refused desks count allowance) refused;
      unchanged = λ seat. desks-kept desks count allowance seat refused;
    }

-- What a seat answers.
abbrev pub answer_of : List Desk → ℕ → ℕ → ℕ → RunAnswer
answer_of desks count allowance seat = get_or (desks_answer desks count allowance).seats seat no_answer

-- The turns of a seat, and those that its desk takes to end.
abbrev pub turns_at : List Desk → ℕ → ℕ → ℕ → ℕ
turns_at desks count allowance seat = turns_of seat (desk_turns desks count allowance)

-- What a seat answers and holds: as a run, or as a waiting one.
pub record AsRun (d : Desk) (budget : ℕ) (a : RunAnswer) (table : List ℕ) : Type 0 where
  pub answer : a ≡ run_answer d.file d.table budget d.excess
  pub table_is : table ≡ run_table d.file d.table budget d.excess

pub record AsWaiting (d : Desk) (turns : ℕ) (a : RunAnswer) (table : List ℕ) : Type 0 where
  pub run : run_number d.file d.table turns ≡ 0
  pub answer : a ≡ record (run_answer d.file d.table turns d.excess) { ending = ending.Waiting }
  pub table_is : table ≡ run_table d.file d.table turns d.excess

pub record AsStarted (d : Desk) (a : RunAnswer) (table : List ℕ) : Type 0 where
  pub answer : a ≡ unserved
  pub table_is : table ≡ start_table d.file d.table

pub record AsRefused (d : Desk) (number turns : ℕ) (a : RunAnswer) (table : List ℕ) : Type 0 where
  pub no-turn : turns ≡ 0
  pub answer : a ≡ refused_run number
  pub unchanged : table ≡ d.table

pub record AsNothing (d : Desk) (a : RunAnswer) (table : List ℕ) : Type 0 where
  pub answer : a ≡ no_answer
  pub unchanged : table ≡ d.table

module _ (desks : List Desk) (count allowance : ℕ) where
  -- The order of the turns.
  pub served-within : (seat : ℕ) → seat < 8 → (recent earlier : List ℕ) → desk_turns desks count allowance ≡ recent ++ earlier
      → turns_of seat earlier < ends_after desks count seat → 8 ≤ length recent → 1 ≤ turns_of seat recent
  unfolding desk_turns
  served-within seat h recent earlier e unfinished long =
      within-eight (ends_after desks count) allowance seat h earlier unfinished (8 * allowance) recent e long

  pub turns-taken : Taken (ends_after desks count) allowance (desk_turns desks count allowance)
  unfolding desk_turns
  turns-taken = taken (ends_after desks count) allowance

  module _ (accepted : desks_number count allowance ≡ 0) where
    pub total-turns : (desks_answer desks count allowance).turns ≡ length (desk_turns desks count allowance)
    total-turns = ap (λ a. a.turns) (desks-accepted desks count allowance accepted)

    seat-answers : (seat : ℕ) → seat < 8 → answer_of desks count allowance seat ≡ seat_answer desks count (turns_at desks count allowance) seat
    seat-answers seat h =
        ap (λ a. get_or a.seats seat no_answer) (desks-accepted desks count allowance accepted)
        ∙ get_d_tabulate 8 (seat_answer desks count (turns_at desks count allowance)) no_answer seat h

    -- A seat without a desk.
    pub without-desk : (seat : ℕ) → count ≤ seat → seat < 8 → AsNothing (desk_at desks seat) (answer_of desks count allowance seat) (desks_table desks count allowance seat)
    without-desk seat beyond h =
        record {
          answer = seat-answers seat h ∙ rw (le-ltb seat count beyond) refl;
          unchanged = desks-written desks count allowance seat accepted ∙ rw (le-ltb seat count beyond) refl;
        }

    module _ (seat : ℕ) (below : seat < count) where
      abbrev d : Desk
      d = desk_at desks seat

      abbrev turns : ℕ
      turns = turns_at desks count allowance seat

      in-range : seat < 8
      in-range = let range = desks-range count allowance accepted in omega (arith, range.1)

      desk-answers : answer_of desks count allowance seat ≡ desk_answer d turns
      desk-answers = seat-answers seat in-range ∙ rw (lt-ltb seat count below) refl

      desk-holds : desks_table desks count allowance seat ≡ desk_table d turns
      desk-holds = desks-written desks count allowance seat accepted ∙ rw (lt-ltb seat count below) refl

      pub ended-as-run : turns ≡ turns_to_end d → AsRun d d.budget (answer_of desks count allowance seat) (desks_table desks count allowance seat)
      ended-as-run e =
          record {
            answer = desk-answers ∙ ended-answer d.file d.table d.budget d.excess turns (omega arith);
            table_is = desk-holds ∙ ended-table d.file d.table d.budget d.excess turns (omega arith);
          }

      accepted-run : turns < turns_to_end d → run_number d.file d.table d.budget ≡ 0
      accepted-run h = go (run_number d.file d.table d.budget) refl
        where
          go : (n : ℕ) → run_number d.file d.table d.budget ≡ n → run_number d.file d.table d.budget ≡ 0
          go zero e = e
          go (suc n) e = absurd (omega (arith, refused-ends d.file d.table d.budget d.excess n e))

      pub waits-as-run : 1 ≤ turns → turns < turns_to_end d → AsWaiting d turns (answer_of desks count allowance seat) (desks_table desks count allowance seat)
      waits-as-run some-turns h =
          let run = accepted-run h in
          let few : turns ≤ d.budget = omega (arith, ends-most d.file d.table d.budget d.excess run) in
          record {
            run = fewer-accepted d.file d.table d.budget d.excess run turns some-turns few;
            answer = desk-answers ∙ waiting-answer d.file d.table d.budget d.excess run turns some-turns few h;
            table_is = desk-holds ∙ waiting-table d.file d.table d.budget d.excess run turns some-turns few h;
          }

      pub unserved-as-started : turns ≡ 0 → 0 < turns_to_end d → AsStarted d (answer_of desks count allowance seat) (desks_table desks count allowance seat)
      unserved-as-started none h =
          let run = accepted-run (omega arith) in
          record {
            answer = desk-answers ∙ ap (desk_answer d) none ∙ unserved-answer d.file d.table d.budget d.excess run;
            table_is = desk-holds ∙ ap (desk_table d) none ∙ unserved-table d.file d.table d.budget d.excess run;
          }

      pub refused-alone : (number : ℕ) → run_number d.file d.table d.budget ≡ suc number
          → AsRefused d (suc number) turns (answer_of desks count allowance seat) (desks_table desks count allowance seat)
      refused-alone number e =
          let each = turns-taken.each seat in-range in
          let none : ends_after desks count seat ≡ 0 = rw (lt-ltb seat count below) (refused-ends d.file d.table d.budget d.excess number e) in
          record {
            no-turn = omega arith;
            answer = desk-answers ∙ refused-answer d.file d.table d.budget d.excess number turns e;
            unchanged = desk-holds ∙ refused-table d.file d.table d.budget d.excess number turns e;
          }

      -- Its count is its turns,
      pub counts-turns : (answer_of desks count allowance seat).judged ≡ turns
      counts-turns =
          let each = turns-taken.each seat in-range in
          let same : ends_after desks count seat ≡ turns_to_end d = rw (lt-ltb seat count below) refl in
          ap (λ a. a.judged) desk-answers ∙ desk-judged d.file d.table d.budget d.excess turns ∙ omega arith

      -- and what it holds carries the trips at the share that it answers.
      pub desk-carried : run_number d.file d.table d.budget ≡ 0 → Carried (network_of d.file) (answer_of desks count allowance seat).share (desks_table desks count allowance seat)
      desk-carried run = rw (desk-answers, desk-holds) (⊎_elim (λ h. waits turns refl h) ended (order turns (turns_to_end d)))
        where
          ended : turns_to_end d ≤ turns → Carried (network_of d.file) (desk_answer d turns).share (desk_table d turns)
          ended h =
              rw (ended-answer d.file d.table d.budget d.excess turns h, ended-table d.file d.table d.budget d.excess turns h)
              (run-carried d.file d.table d.budget d.excess run)

          waits : (t : ℕ) → turns ≡ t → turns < turns_to_end d → Carried (network_of d.file) (desk_answer d turns).share (desk_table d turns)
          waits zero e h =
              rw (e, unserved-answer d.file d.table d.budget d.excess run, unserved-table d.file d.table d.budget d.excess run)
              (start-carried d.file d.table (run-both d.file d.table d.budget run).0)
          waits (suc t) e h =
              let some-turns : 1 ≤ turns = omega arith in
              let few : turns ≤ d.budget = omega (arith, ends-most d.file d.table d.budget d.excess run) in
              rw (waiting-answer d.file d.table d.budget d.excess run turns some-turns few h, waiting-table d.file d.table d.budget d.excess run turns some-turns few h)
              (run-carried d.file d.table turns d.excess (fewer-accepted d.file d.table d.budget d.excess run turns some-turns few))
