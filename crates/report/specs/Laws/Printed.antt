-- What is printed, by the run that an input asks for.
use Rattle.std.specs.Prelude.{ℕ, ◌-◌, ◌≤◌, ◌<◌, ◌≡◌, List, ◌++◌, length, take, drop}
use Rattle.std.proofs.Common.{arith, ◌∙◌, ap, length-drop, take_all}
use Rattle.std.proofs.Math.Path.{sym}
use Rattle.std.proofs.Math.Logic.{⊎_elim}
use borrow.Author.Tests.{le-leb, lt-leb, eq-eqb, ne_eqb}
use Rattle.study.specs.Bytes.{u16}
use Rattle.theory.specs.Laws.Finite.{order}
use Rattle.calls.specs.Study.{network_of}
use Rattle.calls.specs.Page.{page_of}
use Rattle.calls.specs.Calls.{table_number, run_answer, run_table}
use Rattle.calls.specs.declared.RunAnswer.{RunAnswer}
use Rattle.calls.specs.Laws.Calls.{refused_run}
use Rattle.listing.specs.Listing.{listing, printed, printed_page}
use Rattle.report.specs.Respond.{input_answer, table_left, Ran, refusal_line, listed, Written}
use Rattle.report.specs.Laws.Runs.{answer-accepted, run-audited}

-- Bytes that equal written ones are written.
pub written_as : {before bytes same after : List ℕ} {size : ℕ} → bytes ≡ same → (size ≡ length bytes) × (after ≡ bytes ++ drop size before) →
    Written before same after size
written_as {before} {size = size} e w =
    record { counted = w.0 ∙ ap length e; held = w.1 ∙ ap (λ xs. xs ++ drop size before) e }

-- The listing of a refusal is its line.
pub refused-line : (answer : RunAnswer) (m : ℕ) (flow time : ℕ → ℕ) → (answer.refusal ≡ 0 → ⊥) → listing answer m flow time ≡ refusal_line answer.refusal
unfolding listing
refused-line answer m flow time refused = rw (ne_eqb answer.refusal 0 refused)

-- The part of a slice behind its first four bytes.
study-part : (input : List ℕ) → take (length input - 4) (drop 4 input) ≡ drop 4 input
study-part input = take_all (length input - 4) (drop 4 input) (omega (arith, length-drop 4 input))

module _ (input table : List ℕ) where
  -- Fewer than four bytes count as refusal 1,
  answer-short : length input < 4 → input_answer input table ≡ refused_run 1
  unfolding input_answer
  answer-short h = rw (lt-leb 4 (length input) h)

  pub ran-short : {answer : RunAnswer} → length input < 4 → answer ≡ refused_run 1 → Ran input table answer table
  unfolding table_left
  ran-short h e = record { answered = e ∙ sym (answer-short h); left = rw (lt-leb 4 (length input) h) }

  -- and more are a budget, an excess and a study.
  answer-long : 4 ≤ length input → input_answer input table ≡ run_answer (drop 4 input) table (u16 input 0) (u16 input 2)
  unfolding input_answer
  answer-long h = rw (le-leb 4 (length input) h)

  left-long : 4 ≤ length input → table_left input table ≡ run_table (drop 4 input) table (u16 input 0) (u16 input 2)
  unfolding table_left
  left-long h = rw (le-leb 4 (length input) h)

  pub ran-long : {budget excess : ℕ} {answer : RunAnswer} {after : List ℕ} → 4 ≤ length input → budget ≡ u16 input 0 → excess ≡ u16 input 2 →
      (answer ≡ run_answer (take (length input - 4) (drop 4 input)) table budget excess)
      × (after ≡ run_table (take (length input - 4) (drop 4 input)) table budget excess) → Ran input table answer after
  ran-long long budget-is excess-is run =
      record {
        answered = run.0 ∙ rw (study-part input, budget-is, excess-is) (sym (answer-long long));
        left = run.1 ∙ rw (study-part input, budget-is, excess-is) (sym (left-long long));
      }

  module _ {answer : RunAnswer} {after : List ℕ} (r : Ran input table answer after) where
    -- A refused run prints its line,
    pub printed-refused : (answer.refusal ≡ 0 → ⊥) → refusal_line answer.refusal ≡ printed input table
    unfolding printed
    printed-refused refused =
        ⊎_elim (λ short. rw (lt-leb 4 (length input) short, r.answered, answer-short short))
        (λ long.
        let e = r.answered ∙ answer-long long in
        rw (le-leb 4 (length input) long, ← e) (sym (refused-line answer _ _ _ refused)))
        (order (length input) 4)

    pub page-refused : (answer.refusal ≡ 0 → ⊥) → refusal_line answer.refusal ≡ printed_page input table
    unfolding printed_page
    page-refused refused =
        ⊎_elim (λ short. rw (lt-leb 4 (length input) short, r.answered, answer-short short))
        (λ long.
        let e = r.answered ∙ answer-long long in
        rw (le-leb 4 (length input) long, ← e, ne_eqb answer.refusal 0 refused))
        (order (length input) 4)

    -- and an accepted one, whose input has a study, the listing or the page of the table that it left, which can be audited.
    module _ (accepted : answer.refusal ≡ 0) where
      pub input-long : 4 ≤ length input
      input-long =
          ⊎_elim (λ short. absurd (let one = ap (λ a. a.refusal) (r.answered ∙ answer-short short) in omega arith)) (λ long. long) (order (length input) 4)

      is-run : answer ≡ run_answer (drop 4 input) table (u16 input 0) (u16 input 2)
      is-run = r.answered ∙ answer-long input-long

      is-left : after ≡ run_table (drop 4 input) table (u16 input 0) (u16 input 2)
      is-left = r.left ∙ left-long input-long

      pub printed-accepted : listed (take (length input - 4) (drop 4 input)) after answer ≡ printed input table
      unfolding printed listed
      printed-accepted = rw (study-part input, le-leb 4 (length input) input-long, is-left, is-run)

      pub page-accepted : page_of (network_of (take (length input - 4) (drop 4 input))) answer.share after ≡ printed_page input table
      unfolding printed_page
      page-accepted = rw (study-part input, le-leb 4 (length input) input-long, is-left, ← is-run, eq-eqb answer.refusal 0 accepted)

      pub ran-audited : table_number (take (length input - 4) (drop 4 input)) after answer.share ≡ 0
      ran-audited =
          let number = answer-accepted (drop 4 input) table (u16 input 0) (u16 input 2) (ap (λ a. a.refusal) (sym is-run) ∙ accepted) in
          rw (study-part input, is-left, is-run) (run-audited (drop 4 input) table (u16 input 0) (u16 input 2) number)

-- What is promised of a response: the text is written, and the table is what the run left.
pub responded : {before text same out left end : List ℕ} {size : ℕ} → Written before text out size → text ≡ same → left ≡ end →
    (size ≡ length same) × ((out ≡ same ++ drop size before) × (left ≡ end))
responded {before} {size = size} w e l = (w.counted ∙ ap length e, (w.held ∙ ap (λ xs. xs ++ drop size before) e, l))
