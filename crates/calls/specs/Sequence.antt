-- Document 01's list of demand 3: it begins with a start that is not refused, and each later call is a pass or an audit with the same
-- study bytes, and with the flow table as the call before left it.
use Rattle.std.specs.Prelude.{ℕ, cond, List, [], ◌∷◌, eqb}
use Rattle.theory.specs.Moves.{Shared}
use Rattle.calls.specs.Calls.{start_table, pass_answer, pass_table}

-- A later call, with the share that it is handed, which may be anything, and a pass with the note that it is lent (A.6), likewise.
pub data Call : Type 0 where
  pass : ℕ → List ℕ → Call
  audit : ℕ → Call

-- The flow table and the share reached after the start: 1.
unfoldable pub after_start : List ℕ → List ℕ → Shared
after_start file table = record { table = start_table file table; share = 1 }

-- After one more call: a pass leaves its table, and the new share that it answers unless it is refused; an audit changes nothing.
unfoldable pub after_call : List ℕ → Shared → Call → Shared
after_call file x (pass share note) =
    let answer = pass_answer file x.table share note in
    record { table = pass_table file x.table share note; share = cond (eqb answer.refusal 0) answer.share x.share }
after_call file x (audit share) = x

-- After a list of calls.
unfoldable pub after_calls : List ℕ → Shared → List Call → Shared
after_calls file x [] = x
after_calls file x (call ∷ rest) = after_calls file (after_call file x call) rest
