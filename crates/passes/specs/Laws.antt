-- What a pass and a taking back of a decoded file ask, answer and leave.
use Rattle.std.specs.Prelude.{ℕ, zero, suc, ◌*◌, ◌≤◌, ◌<◌, ◌≡◌, refl, Bool, true, false, ◌&&◌, cond, List, eqb, leb, length}
use Rattle.std.proofs.Common.{arith, sym, ◌∙◌, ap}
use Rattle.std.proofs.Math.Option.{Option, none, some}
use borrow.Author.Tests.{ne_eqb, leb-true}
use Rattle.theory.specs.Network.{Network}
use Rattle.theory.specs.Moves.{Shared, moves}
use Rattle.theory.specs.Notes.{note_size, note_leads, can_take_back, taken_back}
use Rattle.theory.specs.Study.{network}
use Rattle.theory.specs.Classes.{car_count}
use Rattle.theory.specs.Laws.Cases.{on_test}
use Rattle.calls.specs.Study.{network_of}
use Rattle.calls.specs.Questions.{note_holds}
use Rattle.calls.specs.Calls.{overwritten, table_number, pass_outcome, pass_number, pass_answer, pass_table, pass_note, take_back_number, take_back_answer, take_back_table}
use Rattle.calls.proofs.Accepted.{pass-accepted}
use Rattle.calls.specs.Laws.Calls.{refused_pass, refused_take_back, pass-refused, pass-table, pass-note, take-back-accepted, take-back-refused, take-back-written, take-back-kept}
use Rattle.calls.specs.Laws.Questions.{pass-both, take-back-number}
use Rattle.calls.specs.declared.PassAnswer.{PassAnswer}
use Rattle.calls.specs.declared.TakeBackAnswer.{TakeBackAnswer}
use Rattle.judging.specs.Study.{study_of, Judgeable, move_of}
use Rattle.judging.specs.Laws.Classes.{few-commodities}
use Rattle.judging.specs.Laws.Study.{holds_rows}
use Rattle.judging.specs.declared.Passed.{Passed}
use Rattle.judging.specs.Judged.{PassedOn}
use Rattle.notes.specs.declared.Taken.{Taken}
use Rattle.notes.specs.Taken.{Takeable, Tested, TakenOn}
use Rattle.refusals.specs.Parts.{PartsOf}
use Rattle.refusals.specs.Laws.Parts.{network-is, note-size-is}
use Rattle.refusals.specs.Laws.Ready.{table-ready}
use Rattle.passes.specs.Answers.{outcome_of}

-- The outcome of a pass, by whether there is a move.
outcome-moves : (next : Option Shared) → outcome_of (moves next) ≡ pass_outcome next
outcome-moves none = refl
outcome-moves (some x) = refl

-- A refusal is the number of the first question that refuses, and 0 in every other field.
module _ (file table : List ℕ) (share : ℕ) (note : List ℕ) where
  pub pass-refusal : (number : ℕ) → number ≡ pass_number file table share note → (number ≡ 0 → ⊥) → refused_pass number ≡ pass_answer file table share note
  pass-refusal zero e refused = absurd (refused refl)
  pass-refusal (suc number) e refused = sym (pass-refused file table share note number (sym e))

  take-back-refusal : (number : ℕ) → take_back_number file table share note ≡ number → (number ≡ 0 → ⊥) → refused_take_back number ≡ take_back_answer file table share note
  take-back-refusal zero e refused = absurd (refused refl)
  take-back-refusal (suc number) e refused = sym (take-back-refused file table share note number e)

  -- Taking back is refused where a pass is.
  module _ {number : ℕ} (is : number ≡ pass_number file table share note) (refused : number ≡ 0 → ⊥) where
    number_is : take_back_number file table share note ≡ number
    number_is =
        rw (take-back-number file table share note, sym is) (rw (ne_eqb number 0 refused))

    pub back-refused : refused_take_back number ≡ take_back_answer file table share note
    back-refused = take-back-refusal number number_is refused

    pub back-kept : table ≡ take_back_table file table share note
    back-kept = sym (take-back-kept file table share note (λ e. refused (sym number_is ∙ e)))

  -- An accepted pass: what it asks of the judging, and what it answers and leaves.
  module _ {opening n : ℕ} {link_list : List (List ℕ)} {commodity_list entries : List ℕ} (parts : PartsOf file opening n link_list commodity_list entries)
      (accepted : pass_number file table share note ≡ 0) where
    abbrev g : Network
    g = network n link_list commodity_list entries

    pub table-accepted : table_number file table share ≡ 0
    table-accepted = (pass-both file table share note accepted).0

    pub pass-ready : Judgeable (study_of n link_list commodity_list entries) table share
    pass-ready = table-ready file table parts share table-accepted

    pub note-room : length commodity_list * n < length note
    unfolding note_holds
    note-room =
        let holds = leb-true (note_size (network_of file)) (length note) (pass-both file table share note accepted).1 in
        omega (arith, note-size-is parts)

    module _ (p : Passed) (after noted : List ℕ) (on : PassedOn g table share note p after noted) where
      pub pass-answers : ◌≡◌ {A = PassAnswer} (record { refusal = 0; outcome = outcome_of p.moved; gap = p.gap; cost = p.cost; share = p.share; over = p.over })
          (pass_answer file table share note)
      pass-answers =
          rw (on.moved-is, on.share-is, on.gap_is, on.cost-is, on.over-is, outcome-moves (move_of g table share), network-is parts)
          (sym (pass-accepted file table share note accepted))

      pub pass-leaves : after ≡ pass_table file table share note
      pass-leaves = on.table_is ∙ rw (network-is parts) (sym (pass-table file table share note accepted))

      pub pass-notes : noted ≡ pass_note file table share note
      pass-notes = on.note-is ∙ rw (network-is parts) (sym (pass-note file table share note accepted))

    -- The same of a taking back.
    pub takeable : Takeable n link_list commodity_list entries table note
    takeable =
        let judgeable = pass-ready in
        record {
          few-nodes = judgeable.ready.few-nodes;
          few-links = judgeable.ready.few-links;
          few-commodities = few-commodities judgeable.ready;
          trips-long = judgeable.ready.trips-long;
          sound = judgeable.ready.sound;
          few-trips = judgeable.ready.few-trips;
          holds = holds_rows (study_of n link_list commodity_list entries) table judgeable.holds;
          note-holds = note-room;
        }

    pub few-cars : car_count commodity_list ≤ 32
    few-cars = pass-ready.ready.few-cars

    abbrev x : Shared
    x = record { table = table; share = share }

    back-number : take_back_number file table share note ≡ cond (note_leads g note && can_take_back g x note) 0 (cond (note_leads g note) 22 21)
    back-number = rw (take-back-number file table share note, accepted, network-is parts) (go (note_leads (network_of file) note) (can_take_back (network_of file) x note))
      where
        go : (leads can : Bool) → ◌≡◌ {A = ℕ} (cond leads (cond can 0 22) 21) (cond (leads && can) 0 (cond leads 22 21))
        go true true = refl
        go true false = refl
        go false can = refl

    -- A refusal's number is not 0.
    number-some : (leads : Bool) → ◌≡◌ {A = ℕ} (cond leads 22 21) 0 → ⊥
    number-some true e = omega arith
    number-some false e = omega arith

    module _ (taken : Taken) (after : List ℕ) (on : TakenOn g table share note taken after) where
      pub back-answers : ◌≡◌ {A = TakeBackAnswer} (record { refusal = taken.refusal; share = taken.share }) (take_back_answer file table share note)
      back-answers =
          on_test (note_leads g note && can_take_back g x note)
          (λ e.
          let to = on.taken e in
          rw (to.refusal_is, to.share-is, network-is parts) (sym (take-back-accepted file table share note (back-number ∙ rw e))))
          (λ e.
          let refused = on.refused e in
          rw (refused.refusal_is, refused.share-is)
          (take-back-refusal (cond (note_leads g note) 22 21) (back-number ∙ rw e) (number-some (note_leads g note))))

      pub back-leaves : after ≡ take_back_table file table share note
      back-leaves =
          on_test (note_leads g note && can_take_back g x note)
          (λ e. (on.taken e).table_is ∙ rw (network-is parts) (sym (take-back-written file table share note (back-number ∙ rw e))))
          (λ e.
          (on.refused e).table_is
          ∙ sym (take-back-kept file table share note (λ z. number-some (note_leads g note) (sym (back-number ∙ ap (λ t. cond t 0 (cond (note_leads g note) 22 21)) e) ∙ z))))
