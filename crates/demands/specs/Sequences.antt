-- Demand 3's list of calls: whatever passes and audits follow a start, the table passes the audit's questions at the share reached.
use Rattle.std.specs.Prelude.{ℕ, zero, suc, ◌+◌, ◌*◌, ◌≤◌, ◌<◌, ◌≡◌, Bool, true, false, cond, length}
use Rattle.std.proofs.Common.{arith, sym, ◌∙◌, ap}
use Rattle.std.proofs.Math.Path.{refl}
use mathlib.Core.List.{List, [], ◌∷◌}
use Rattle.std.proofs.Math.Option.{Option, none, some}
use Rattle.std.proofs.Math.Dec.{eqb-suc-zero}
use Rattle.theory.specs.Moves.{Shared, table_size, started, move}
use Rattle.calls.specs.Study.{network_of}
use Rattle.calls.specs.Calls.{overwritten, start_number, start_table, table_number, share_after, table_after, pass_number, pass_answer, pass_table}
use Rattle.calls.specs.Sequence.{Call, after_start, after_call, after_calls}
use Rattle.calls.specs.Laws.Questions.{Passed, SharePassed, check-passed, start-both, both-start, table-both, both-table, pass-both}
use Rattle.calls.specs.Laws.Networks.{holds-length, length-holds}
use Rattle.calls.proofs.Accepted.{pass-accepted}
use Rattle.calls.specs.Laws.Calls.{refused_pass, start-written, pass-table, pass-refused, pass_kept}
use Rattle.calls.specs.Laws.Tables.{started-passes, started-length, moved_passes, moved_length, overwritten-passes, overwritten-length}

module _ (file : List ℕ) where
  -- A table written over a lent one that passes question 12 passes the audit's questions, if it passes 14 to 16 at its share.
  overwritten-accepted : (new old : List ℕ) (share : ℕ) → start_number file old ≡ 0 → length new ≡ table_size (network_of file) → SharePassed file new share
      → table_number file (overwritten new old) share ≡ 0
  overwritten-accepted new old share s size p =
      let parts = start-both file old s in
      let long = holds-length (network_of file) old parts.1 in
      let kept-length = overwritten-length new old (omega arith) in
      both-table file (overwritten new old) share
      (both-start file (overwritten new old) parts.0 (length-holds (network_of file) (overwritten new old) (omega arith)))
      (overwritten-passes file (check-passed file parts.0) new old share size p)

  -- The audit's questions pass of a table at a share.
  abbrev pub Auditable : Shared → Type 0
  Auditable x = table_number file x.table x.share ≡ 0

  pub start-auditable : (table : List ℕ) → start_number file table ≡ 0 → Auditable (after_start file table)
  unfolding after_start
  start-auditable table s =
      let study = check-passed file (start-both file table s).0 in
      rw (start-written file table s)
      (overwritten-accepted (started (network_of file)).table table 1 s (started-length file study) (started-passes file study))

  -- What an accepted pass leaves, with the share that it answers.
  pub after-move : (x : Shared) (next : Option Shared) → Auditable x → move (network_of file) x ≡ next
      → Auditable (record { table = table_after x.table next; share = share_after x.share next })
  after-move x none a e = a
  after-move x (some x') a e =
      let parts = table-both file x.table x.share a in
      let study = check-passed file (start-both file x.table parts.0).0 in
      overwritten-accepted x'.table x.table x'.share parts.0 (moved_length file study x x' e) (moved_passes file study x x' parts.1 e)

  pub call-auditable : (x : Shared) (call : Call) → Auditable x → Auditable (after_call file x call)
  unfolding after_call
  call-auditable x (Call.audit share) a = a
  call-auditable x (Call.pass share note) a = go (pass_number file x.table share note) refl
    where
      judged-table : Shared
      judged-table = record { table = x.table; share = share }

      go : (number : ℕ) → pass_number file x.table share note ≡ number → Auditable (after_call file x (Call.pass share note))
      go zero e =
          rw (pass-accepted file x.table share note e, pass-table file x.table share note e)
          (after-move judged-table (move (network_of file) judged-table) (pass-both file x.table share note e).0 refl)
      go (suc number) e =
          rw (pass-refused file x.table share note number e, pass_kept file x.table share note (λ z. omega arith), eqb-suc-zero number) a

  pub calls-auditable : (calls : List Call) (x : Shared) → Auditable x → Auditable (after_calls file x calls)
  unfolding after_calls
  calls-auditable [] x a = a
  calls-auditable (call ∷ rest) x a = calls-auditable rest (after_call file x call) (call-auditable x call a)
