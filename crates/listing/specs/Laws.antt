-- The laws of the listing's definitions. Nothing here needs to be believed: the check proves it.
use Rattle.std.specs.Prelude.{ℕ, ◌<◌, ◌≡◌, List, ◌++◌}
use Rattle.std.proofs.Common.{eq-eqb, ne_eqb}
use Rattle.theory.specs.Laws.Finite.{rows-cong}
use Rattle.calls.specs.declared.Ending.TheVariants as ending
use Rattle.calls.specs.declared.RunAnswer.{RunAnswer}
use Rattle.listing.specs.Listing.{ending_word, number_line, link_line, listing}
use Rattle.listing.specs.Lines.{answer_lines, link_lines, listing_of}

-- The two forms of a listing.
module _ (answer : RunAnswer) (m : ℕ) (flows times : List ℕ) where
  pub refused-listing : (answer.refusal ≡ 0 → ⊥) → listing_of answer m flows times ≡ number_line (ending_word ending.Refused) answer.refusal
  unfolding listing
  refused-listing h = rw (ne_eqb _ _ h)

  pub accepted-listing : answer.refusal ≡ 0 → listing_of answer m flows times ≡ answer_lines answer ++ link_lines m flows times
  unfolding listing answer_lines link_lines
  accepted-listing h = rw (eq-eqb _ _ h)

-- A listing depends on the flows and times of its m links alone.
pub listing-cong : (answer : RunAnswer) (m : ℕ) (flow flow' time time' : ℕ → ℕ) → ((l : ℕ) → l < m → flow l ≡ flow' l) → ((l : ℕ) → l < m → time l ≡ time' l) → listing answer m flow time ≡ listing answer m flow' time'
unfolding listing
listing-cong answer m flow flow' time time' f t =
    rw (rows-cong m (λ l. link_line l (flow l) (time l)) (λ l. link_line l (flow' l) (time' l)) (λ l h. rw (f l h, t l h)))
