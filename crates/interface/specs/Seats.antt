-- The numbers of eight seats, one after the other.
use Rattle.std.specs.Prelude.{ℕ, ◌≡◌, refl, List, [], ◌∷◌, ◌++◌, length, map, get_or, slice_set}
use Rattle.std.proofs.Common.{arith, ◌∙◌, ap, append-nil}
use Rattle.std.specs.List.{flat_map}
use Rattle.std.proofs.Math.ListN.{drop_of_length-le}
use borrow.Rule.Slice.PartMut.{put_mid}
use Rattle.theory.specs.Finite.{tabulate}
use Rattle.calls.specs.Desks.{no_answer}
use Rattle.calls.specs.declared.RunAnswer.{RunAnswer}
use Rattle.desks.specs.Laws.Standing.{list-is}
use Rattle.interface.specs.Numbers.{seat_numbers}

-- Eight seats are their eight answers.
pub eight-seats : (seats : List RunAnswer) → length seats ≡ 8
    → (let at : ℕ → List ℕ = λ i. seat_numbers (get_or seats i no_answer) in
    map seat_numbers seats ≡ at 0 ∷ at 1 ∷ at 2 ∷ at 3 ∷ at 4 ∷ at 5 ∷ at 6 ∷ at 7 ∷ [])
unfolding tabulate
eight-seats seats long = ap (map seat_numbers) (list-is 8 seats no_answer (λ i. get_or seats i no_answer) long (λ i p. refl))

-- Rows one after the other.
pub rows-joined : (seats : List RunAnswer) → flat_map (λ x. x) (map seat_numbers seats) ≡ flat_map seat_numbers seats
rows-joined [] = refl
rows-joined (a ∷ seats) = ap (λ rest. seat_numbers a ++ rest) (rows-joined seats)

-- The first of 57 numbers, and the others behind it.
pub first-put : (answer : List ℕ) (first : ℕ) (rest numbers : List ℕ) → length answer ≡ 57 → rest ≡ numbers
    → put_mid 1 56 (slice_set answer 0 first) rest ≡ first ∷ numbers
first-put [] first rest numbers long e = absurd (omega arith)
first-put (a ∷ answer) first rest numbers long e =
    ap (λ l. first ∷ (rest ++ l)) (drop_of_length-le answer {i = 56} (omega arith)) ∙ ap (λ l. first ∷ l) (append-nil rest ∙ e)
