-- What an accepted pass answers. The theorem stands here and not beside the other laws of calls, so that a wrong definition is refused where it falls.
use Rattle.std.specs.Prelude.{ℕ, suc, ◌≡◌, List}
use Rattle.std.proofs.Math.Option.{Option}
use Rattle.std.proofs.Common.{ne_eqb}
use Rattle.theory.specs.Flows.{over}
use Rattle.theory.specs.Cost.{cost, gap}
use Rattle.theory.specs.Moves.{Shared, started, move, judged, last_judged}
use Rattle.theory.specs.Notes.{note_of, taken_back}
use Rattle.calls.specs.Study.{network_of}
use Rattle.calls.specs.Pack.{packed}
use Rattle.calls.specs.Page.{page_of}
use Rattle.calls.specs.declared.Ending.TheVariants as ending
use Rattle.calls.specs.declared.Outcome.TheVariants as outcome
use Rattle.calls.specs.declared.RunAnswer.{RunAnswer}
use Rattle.calls.specs.declared.PassAnswer.{PassAnswer}
use Rattle.calls.specs.declared.AuditAnswer.{AuditAnswer}
use Rattle.calls.specs.declared.TakeBackAnswer.{TakeBackAnswer}
use Rattle.calls.specs.Calls.{overwritten, unless_refused, pack_number, pack_output, start_number, start_table, table_number, audit_answer, pass_outcome, share_after, table_after, note_after, pass_number, pass_answer, pass_table, pass_note}
use Rattle.calls.specs.Calls.{run_number, ending_at, run_answer, run_table, page_number, page_slice, take_back_number, take_back_answer, take_back_table}

module _ (file table : List ℕ) (share : ℕ) (note : List ℕ) where
  abbrev judged_table : Shared
  judged_table = record { table = table; share = share }

  abbrev next_of : Option Shared
  next_of = move (network_of file) judged_table

  pub pass-accepted : pass_number file table share note ≡ 0
      → pass_answer file table share note
      ≡ record {
        refusal = 0;
        outcome = pass_outcome next_of;
        gap = gap (network_of file) share table;
        cost = cost (network_of file) share table;
        share = share_after share next_of;
        over = over (network_of file) share table;
      }
  unfolding pass_answer
  pass-accepted e = rw (e, pass_answer)
