-- Demand 2: earlier table contents play no part in a start or a run, and every table that a call leaves conserves.
use Prim.Native.Nat.{ℕ, zero, suc, pred, ◌+◌, ◌*◌, ◌≤◌, ◌<◌}
use Rattle.std.proofs.Common.{arith, sym, ◌∙◌, ap, take_at, drop_at}
use Rattle.std.specs.Prelude.{◌≡◌, refl, true, false, cond, List, [], ◌∷◌, ◌++◌, length, take, drop}
use Rattle.std.proofs.Math.Option.{Option, none, some}
use Rattle.theory.specs.Network.{Network}
use Rattle.theory.specs.Moves.{Shared, table_size, started, move, after_moves, judged, last_judged}
use Rattle.theory.specs.Laws.Conserving.{Carried, carries-carried}
use Rattle.calls.specs.Study.{network_of}
use Rattle.calls.specs.Calls.{overwritten, start_number, start_table, table_number, pass_answer, pass_table, run_number, run_answer, run_table}
use Rattle.calls.specs.Sequence.{Call, after_start, after_call}
use Rattle.calls.specs.Laws.Questions.{Passed, SharePassed, check-passed, start-both, run-both, table-both}
use Rattle.calls.specs.Laws.Reach.{passed-carries}
use Rattle.calls.proofs.Accepted.{pass-accepted}
use Rattle.calls.specs.Laws.Calls.{start-written, pass-table, run-accepted, run-written}
use Rattle.calls.specs.Laws.Tables.{started-length, run_length, run-passes, overwritten-passes}
use Rattle.demands.specs.Sequences.{start-auditable, call-auditable}

-- A table that the audit's questions accept balances at every node other than the destination: what leaves equals what enters plus the
-- trips that begin there. And it is permitted: no link carries flow that it may not carry.
pub auditable-carried : (file table : List ℕ) (share : ℕ) → table_number file table share ≡ 0 → Carried (network_of file) share table
auditable-carried file table share e =
    carries-carried (network_of file) share table (passed-carries file table share (table-both file table share e).1)

-- Lent memory after a call that writes it anew, as the table after a start or a run: first numbers that its earlier contents play no part
-- in, then the later numbers as they were.
pub record Fresh (size : ℕ) (new before after : List ℕ) : Type 0 where
  pub first-numbers : take size after ≡ new
  pub later-numbers : drop size after ≡ drop size before

pub overwritten-fresh : (size : ℕ) (new before : List ℕ) → length new ≡ size → Fresh size new before (overwritten new before)
unfolding overwritten
overwritten-fresh size new before e =
    record {
      first-numbers = take_at new (drop (length new) before) size e;
      later-numbers = drop_at new (drop (length new) before) size e ∙ ap (λ i. drop i before) e;
    }

module _ (file table : List ℕ) where
  pub start-fresh : start_number file table ≡ 0 → Fresh (table_size (network_of file)) (started (network_of file)).table table (start_table file table)
  start-fresh s =
      rw (start-written file table s)
      (overwritten-fresh (table_size (network_of file)) (started (network_of file)).table table (started-length file (check-passed file (start-both file table s).0)))

  pub start-carried : start_number file table ≡ 0 → Carried (network_of file) 1 (start_table file table)
  unfolding after_start
  start-carried s = auditable-carried file (start_table file table) 1 (start-auditable file table s)

module _ (file table : List ℕ) (budget excess : ℕ) where
  run-study : run_number file table budget ≡ 0 → Passed file
  run-study r = check-passed file (start-both file table (run-both file table budget r).0).0

  pub run-fresh : run_number file table budget ≡ 0
      → Fresh (table_size (network_of file)) (last_judged (network_of file) budget excess).table table (run_table file table budget excess)
  unfolding last_judged
  run-fresh r =
      rw (run-written file table budget excess r)
      (overwritten-fresh (table_size (network_of file)) (last_judged (network_of file) budget excess).table table
      (run_length file (run-study r) (pred (judged (network_of file) budget excess))))

  -- The answer of a run does not depend on the table's contents at all.
  pub run-same-answer : (other : List ℕ) → run_number file table budget ≡ 0 → run_number file other budget ≡ 0
      → run_answer file table budget excess ≡ run_answer file other budget excess
  run-same-answer other r s = run-accepted file table budget excess r ∙ sym (run-accepted file other budget excess s)

  pub run-carried : run_number file table budget ≡ 0
      → Carried (network_of file) (run_answer file table budget excess).share (run_table file table budget excess)
  unfolding last_judged
  run-carried r =
      let g = network_of file in
      let study = run-study r in
      let i = pred (judged g budget excess) in
      rw (run-accepted file table budget excess r, run-written file table budget excess r)
      (carries-carried g (after_moves g i).share (overwritten (after_moves g i).table table)
      (passed-carries file (overwritten (after_moves g i).table table) (after_moves g i).share
      (overwritten-passes file study (after_moves g i).table table (after_moves g i).share (run_length file study i) (run-passes file study i))))
