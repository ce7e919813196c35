-- The table that an accepted run leaves passes the audit's questions at the share that the run answers.
use Rattle.std.specs.Prelude.{ℕ, zero, suc, pred, ◌≤◌, ◌≡◌, refl, List, length}
use Rattle.std.proofs.Common.{arith, sym, ◌∙◌, ap}
use Rattle.theory.specs.Network.{Network}
use Rattle.theory.specs.Moves.{Shared, table_size, judged, last_judged}
use Rattle.calls.specs.Study.{network_of}
use Rattle.calls.specs.Calls.{overwritten, start_number, table_number, run_number, run_answer, run_table}
use Rattle.calls.specs.Laws.Questions.{Passed, SharePassed, check-passed, start-both, both-start, run-both, both-table}
use Rattle.calls.specs.Laws.Networks.{holds-length, length-holds}
use Rattle.calls.specs.Laws.Calls.{run-accepted, run-written, run-refused}
use Rattle.calls.specs.Laws.Tables.{overwritten-length, overwritten-passes, run-passes, run_length}

module _ (file table : List ℕ) (budget excess : ℕ) where
  -- An answer without a refusal is an accepted run's.
  pub answer-accepted : (run_answer file table budget excess).refusal ≡ 0 → run_number file table budget ≡ 0
  answer-accepted e = go (run_number file table budget) refl
    where
      go : (number : ℕ) → run_number file table budget ≡ number → number ≡ 0
      go zero h = refl
      go (suc number) h = sym (ap (λ a. a.refusal) (run-refused file table budget excess number h)) ∙ e

  module _ (accepted : run_number file table budget ≡ 0) where
    abbrev g : Network
    g = network_of file

    abbrev last : Shared
    last = last_judged g budget excess

    start-accepted : start_number file table ≡ 0
    start-accepted = (run-both file table budget accepted).0

    study : Passed file
    study = check-passed file (start-both file table start-accepted).0

    table-long : table_size g ≤ length table
    table-long = holds-length g table (start-both file table start-accepted).1

    last-length : length last.table ≡ table_size g
    unfolding last_judged
    last-length = run_length file study (pred (judged g budget excess))

    last-passes : SharePassed file last.table last.share
    unfolding last_judged
    last-passes = run-passes file study (pred (judged g budget excess))

    pub run-audited : table_number file (run_table file table budget excess) (run_answer file table budget excess).share ≡ 0
    run-audited =
        let after = overwritten last.table table in
        let same_length = overwritten-length last.table table (omega (arith, last-length, table-long)) in
        let holds = length-holds g after (omega (arith, same_length, table-long)) in
        rw (run-written file table budget excess accepted, run-accepted file table budget excess accepted)
        (both-table file after last.share (both-start file after (start-both file table start-accepted).0 holds)
        (overwritten-passes file study last.table table last.share last-length last-passes))
