-- Check's number, from the questions of the file and those of its rows.
use mathlib.Core.List.{List, ◌++◌, append-nil}
use Rattle.std.proofs.Math.Logic.{inl, inr, ⊎_elim}
use Rattle.std.specs.Prelude.{◌≡◌, refl, ℕ, ◌*◌, ◌≤◌, length, take}
use Rattle.std.proofs.Common.{sym, ◌∙◌, eq-eqb, ne_eqb}
use Rattle.std.proofs.Math.Path.{ap}
use Rattle.study.specs.Laws.{after-opening}
use Rattle.study.specs.Questions.{Question, first_no, refusal}
use Rattle.study.specs.Sections.{nodes, destinations, lorry_destinations, destination_part, closed_part, barred_part}
use Rattle.study.specs.Fields.{destination}
use Rattle.theory.specs.Finite.{tabulate}
use Rattle.theory.specs.Study.{lorries_to}
use Rattle.theory.specs.Laws.Finite.{get_d_tabulate, tabulate-cong}
use Rattle.calls.specs.Study.{link_rows, destination_nodes, commodities, trip_entries}
use Rattle.calls.specs.Questions.{study_questions, check_questions}
use Rattle.calls.specs.Calls.{check_number}
use Rattle.calls.specs.Laws.Networks.{links-length}
use Rattle.calls.specs.Laws.Commodities.{nodes-long, entries-long, all-or-none}
use Rattle.questions.specs.Sized.{Sized, CommoditiesOf}
use Rattle.network.specs.declared.decoding.Opening.{Opening}
use Rattle.network.specs.Decoded.{Decoded}
use Rattle.network.specs.Laws.Decoding.{counts, few-commodities, destinations-held}

-- Questions 6 to 11 of a file, with 19 and 23.
abbrev questions_of : List ℕ → List Question
questions_of file =
    study_questions (nodes file) (link_rows file) (destination_nodes file) (closed_part file) (barred_part file) (commodities file) (trip_entries file)

-- Check's number: that of questions 1 to 5 where one of these refuses the file, and else that of 6 to 11.
module _ (file : List ℕ) where
  pub check-refused : (refusal file ≡ 0 → ⊥) → check_number file ≡ refusal file
  unfolding check_number check_questions
  check-refused refused = after-opening file (questions_of file) ∙ rw (ne_eqb (refusal file) 0 refused)

  pub check-opened : refusal file ≡ 0 → check_number file ≡ first_no (questions_of file)
  unfolding check_number check_questions
  check-opened e = after-opening file (questions_of file) ∙ rw (eq-eqb (refusal file) 0 e)

-- Its study is of the size that these questions ask for, and its commodities are given by its destinations.
module _ (file : List ℕ) where
  pub sized : Sized (nodes file) (link_rows file) (commodities file) (trip_entries file)
  sized =
      let known = counts file refl refl refl in
      record {
        few-nodes = known.nodes-most;
        few-links = rw (links-length file) known.links-most;
        few-commodities = few-commodities file;
        entries-long = entries-long file;
      }

  pub commodities-of : CommoditiesOf (destination_nodes file) (commodities file)
  unfolding commodities destination_nodes tabulate
  commodities-of =
      ⊎_elim
      (λ (none : lorry_destinations file ≡ 0). inl (ap (λ lorries. destination_nodes file ++ lorries) (rw none refl) ∙ append-nil (destination_nodes file)))
      (λ (same : lorry_destinations file ≡ destinations file).
      inr
      (rw (same, nodes-long file)
      (ap (λ lorries. destination_nodes file ++ lorries)
      (tabulate-cong (destinations file) _ _ (λ k h. ap lorries_to (sym (get_d_tabulate (destinations file) (destination (destination_part file)) 0 k h)))))))
      (all-or-none file)

  pub few-destinations : length (destination_nodes file) ≤ 32
  few-destinations = rw (nodes-long file) (counts file refl refl refl).destinations-most

-- So it is of the rows that decoding leaves,
module _ {file : List ℕ} {opening : Opening} {link_array : List (List ℕ)} {node_array entry_array : List ℕ} (d : Decoded file opening link_array node_array entry_array) where
  pub decoded-sized : Sized opening.nodes (take opening.links link_array) (take opening.commodities node_array) (take (opening.commodities * opening.nodes) entry_array)
  decoded-sized = rw (d.entries-held, d.commodities-held, d.links-held, d.nodes-are) (sized file)

  pub decoded-commodities :
      (length (take opening.destinations (take opening.commodities node_array)) ≤ 32)
      × CommoditiesOf (take opening.destinations (take opening.commodities node_array)) (take opening.commodities node_array)
  decoded-commodities = (rw (destinations-held d) (few-destinations file), rw (destinations-held d, d.commodities-held) (commodities-of file))

-- and so is its number.
pub check-decoded :
    {file closed barred : List ℕ} {opening : Opening} {link_array : List (List ℕ)} {node_array entry_array : List ℕ} {number : ℕ} →
    Decoded file opening link_array node_array entry_array → opening.refusal ≡ 0 → closed ≡ closed_part file → barred ≡ barred_part file →
    number ≡ first_no (study_questions opening.nodes (take opening.links link_array)
    (take opening.destinations (take opening.commodities node_array)) closed barred
    (take opening.commodities node_array) (take (opening.commodities * opening.nodes) entry_array)) →
    number ≡ check_number file
check-decoded {file} d accepted closed_is barred-is number_is =
    number_is
    ∙ rw (d.entries-held, closed_is, barred-is, destinations-held d, d.commodities-held, d.links-held, d.nodes-are) (sym (check-opened file (sym d.refusal_is ∙ accepted)))
