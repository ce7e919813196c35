-- The three demands of the model group, in the vocabulary of document 01's definitions (crate `calls`). Every public call's contract says
-- that it answers and leaves exactly what those definitions give, for all bytes, tables and numbers and with no `requires`, so what is
-- proved here of the definitions holds of the calls. Each proof is a citation.
use Rattle.std.specs.Prelude.{ℕ, ◌+◌, ◌*◌, ◌≤◌, ◌≡◌, false, List, ◌∷◌, ◌++◌, ◌↔◌, take}
use Rattle.study.specs.Questions.{Question, first_no}
use Rattle.study.specs.Laws.{AllYes, no-refusal}
use Rattle.theory.specs.Network.{total_trips}
use Rattle.theory.specs.Flows.{Carries}
use Rattle.theory.specs.Cost.{cost}
use Rattle.theory.specs.Moves.{Shared, table_size, started, last_judged}
use Rattle.theory.specs.Laws.Conserving.{Carried}
use Rattle.theory.specs.Laws.Runs.{Judged}
use Rattle.calls.specs.Study.{network_of}
use Rattle.calls.specs.Questions.{packed_size}
use Rattle.calls.specs.Calls.{check_number, pack_number, pack_output, start_number, start_table, table_number, audit_answer, pass_number, take_back_number, run_number, run_answer, run_table, page_number, page_slice}
use Rattle.calls.specs.Desks.{Desk, desks_number}
use Rattle.calls.specs.Sequence.{Call, after_start, after_calls}
use Rattle.calls.specs.declared.Ending.TheVariants as ending
use Rattle.calls.specs.Laws.Questions.{Described, check-passed, start-both, table-both}
use Rattle.calls.specs.Laws.Networks.{share-range}
use Rattle.calls.specs.Laws.Calls.{refused_audit, audit-accepted, pack-kept, page-kept}
use Rattle.demands.specs.Packing.{pack-reads-back, pack-twice}
use Rattle.demands.specs.Packing.Same.{SameStudy}
use Rattle.demands.specs.Refusals.{first-failing, PassRefused, TakeBackRefused, RunRefused, refused-start, refused-audit, refused-pass, refused-take-back, refused-run}
use Rattle.demands.specs.Queues.{DesksRefused, refused-desks}
use Rattle.demands.specs.Results.{Fresh, start-fresh, run-fresh, start-carried, run-carried, auditable-carried}
use Rattle.demands.specs.RunEndings.{reached-exactly, counted}
use Rattle.demands.specs.Sequences.{start-auditable, calls-auditable}
use Rattle.demands.specs.Unreachable.{unreachable-exactly}
use Rattle.calls.specs.Laws.Tables.{table-bound}

-- Demand 1. What fails one of its call's questions is refused under the number of the first it fails, with every other number zero and
-- all lent memory unchanged; all else is accepted. (The number of each call is `first_no` of its list in `calls/specs/Questions.antt`. That
-- each call comes to an end is part of what the check proves of every function.)
pub record Demand1 : Type 0 where
  pub first : (before : List Question) (question : Question) (after : List Question) → AllYes before → question.yes ≡ false → first_no (before ++ question ∷ after) ≡ question.number
  pub accepted : (questions : List Question) → AllYes questions → first_no questions ≡ 0
  pub pack : (file output : List ℕ) → (pack_number file output ≡ 0 → ⊥) → pack_output file output ≡ output
  pub start : (file table : List ℕ) → (start_number file table ≡ 0 → ⊥) → start_table file table ≡ table
  pub pass : (file table : List ℕ) (share : ℕ) (note : List ℕ) → (pass_number file table share note ≡ 0 → ⊥) → PassRefused file table share note
  pub take_back : (file table : List ℕ) (share : ℕ) (note : List ℕ) → (take_back_number file table share note ≡ 0 → ⊥) → TakeBackRefused file table share note
  pub audit : (file table : List ℕ) (share : ℕ) → (table_number file table share ≡ 0 → ⊥) → audit_answer file table share ≡ refused_audit (table_number file table share)
  pub run : (file table : List ℕ) (budget excess : ℕ) → (run_number file table budget ≡ 0 → ⊥) → RunRefused file table budget excess
  pub page : (file table : List ℕ) (share : ℕ) (page : List ℕ) → (page_number file table share page ≡ 0 → ⊥) → page_slice file table share page ≡ page
  pub desks : (desks : List Desk) (count allowance : ℕ) → (desks_number count allowance ≡ 0 → ⊥) → DesksRefused desks count allowance

pub demand-1 : Demand1
demand-1 =
    record {
      first = first-failing;
      accepted = no-refusal;
      pack = pack-kept;
      start = refused-start;
      pass = refused-pass;
      take_back = refused-take-back;
      audit = refused-audit;
      run = refused-run;
      page = page-kept;
      desks = refused-desks;
    }

-- Demand 2. Every result equals the definitions: that is the calls' contracts. Earlier table contents play no part in a start or a run;
-- at every node other than the destination, what leaves equals what enters plus the trips that begin there, and no link carries flow that it
-- may not carry; a study that passes the earlier questions is refused as unreachable exactly when no permitted table at any share of at least
-- 1 can carry its trips; packing a study and reading it back gives the same study.
pub record Demand2 : Type 0 where
  pub fresh_start : (file table : List ℕ) → start_number file table ≡ 0 → Fresh (table_size (network_of file)) (started (network_of file)).table table (start_table file table)
  pub fresh-run : (file table : List ℕ) (budget excess : ℕ) → run_number file table budget ≡ 0
      → Fresh (table_size (network_of file)) (last_judged (network_of file) budget excess).table table (run_table file table budget excess)
  pub start-conserves : (file table : List ℕ) → start_number file table ≡ 0 → Carried (network_of file) 1 (start_table file table)
  pub run-conserves : (file table : List ℕ) (budget excess : ℕ) → run_number file table budget ≡ 0
      → Carried (network_of file) (run_answer file table budget excess).share (run_table file table budget excess)
  pub accepted-conserves : (file table : List ℕ) (share : ℕ) → table_number file table share ≡ 0 → Carried (network_of file) share table
  pub unreachable : (file : List ℕ) → Described file
      → (check_number file ≡ 11) ↔ ((share : ℕ) (table : List ℕ) → 1 ≤ share → Carries (network_of file) share table → ⊥)
  pub packing : (file output : List ℕ) → pack_number file output ≡ 0 → SameStudy (take (packed_size file) (pack_output file output)) file
  pub packing-again : (file output again : List ℕ) → pack_number file output ≡ 0
      → pack_output (take (packed_size file) (pack_output file output)) again ≡ pack_output file again

pub demand-2 : Demand2
demand-2 =
    record {
      fresh_start = start-fresh;
      fresh-run = run-fresh;
      start-conserves = start-carried;
      run-conserves = run-carried;
      accepted-conserves = auditable-carried;
      unreachable = unreachable-exactly;
      packing = pack-reads-back;
      packing-again = pack-twice;
    }

-- The bound of demand 3: with W, C and G of our table and a rival of share V and cost K, W × K + 64 × V × G is at least V × C.
abbrev pub Bounds : List ℕ → ℕ → ℕ → ℕ → Type 0
Bounds file w c g =
    (v : ℕ) (rival : List ℕ) → 1 ≤ v → Carries (network_of file) v rival → v * c ≤ w * cost (network_of file) v rival + 64 * v * g

-- What an audit answers of a table at a share: it accepts it, and its cost and gap bound every rival.
pub record Certified (file : List ℕ) (x : Shared) : Type 0 where
  pub accepted : (audit_answer file x.table x.share).refusal ≡ 0
  pub bounds : Bounds file x.share (audit_answer file x.table x.share).cost (audit_answer file x.table x.share).gap

pub certified : (file table : List ℕ) (share : ℕ) → table_number file table share ≡ 0 → Certified file (record { table = table; share = share })
certified file table share e =
    let parts = table-both file table share e in
    let study = check-passed file (start-both file table parts.0).0 in
    record {
      accepted = rw (audit-accepted file table share e);
      bounds = rw (audit-accepted file table share e) (λ v rival some-share. table-bound file study table share (share-range share parts.1.share-fits).0 v rival);
    }

-- Demand 3, whole: for every list of passes and audits from a fresh start, of any length, refused ones included, whatever share each is
-- handed, and whatever note each pass is lent (one that is too short is refused 12), the audit after the list at the share reached accepts
-- the table, and its cost and gap bound every rival. The same holds for every table that the audit accepts. An accepted run ends 'reached'
-- exactly when its gap is at most excess × W × total trips, and its count is document 01's, at most the budget.
pub record Demand3 : Type 0 where
  pub list : (file before : List ℕ) → start_number file before ≡ 0 → (calls : List Call) → Certified file (after_calls file (after_start file before) calls)
  pub table : (file table : List ℕ) (share : ℕ) → table_number file table share ≡ 0 → Certified file (record { table = table; share = share })
  pub reached : (file table : List ℕ) (budget excess : ℕ) → run_number file table budget ≡ 0
      → ((run_answer file table budget excess).ending ≡ ending.Reached)
      ↔ ((run_answer file table budget excess).gap ≤ excess * (run_answer file table budget excess).share * total_trips (network_of file))
  pub count : (file table : List ℕ) (budget excess : ℕ) → run_number file table budget ≡ 0
      → Judged (network_of file) budget excess (run_answer file table budget excess).judged

pub demand-3 : Demand3
demand-3 =
    record {
      list = λ file before s calls. certified file _ _ (calls-auditable file calls (after_start file before) (start-auditable file before s));
      table = certified;
      reached = reached-exactly;
      count = counted;
    }
