-- The listing of document 01's sample, byte for byte, and a refusal's line.
use Rattle.std.specs.Prelude.{ℕ, ◌≡◌, refl, [], ◌∷◌, ◌++◌, get_or}
use Rattle.theory.specs.Finite.{rows}
use Rattle.calls.specs.declared.Ending.TheVariants as ending
use Rattle.calls.specs.declared.RunAnswer.{RunAnswer}
use Rattle.text.specs.Decimal.{digits_within, decimal}
use Rattle.listing.specs.Listing.{ending_word, judged_word, share_word, gap_word, cost_word, over_word, link_word, number_line, link_line, listing}

-- What a run of the sample study answers.
abbrev answer : RunAnswer
answer = record { refusal = 0; ending = ending.Reached; judged = 5; share = 9; gap = 0; cost = 13104; over = 0 }

abbrev refused : RunAnswer
refused = record { refusal = 11; ending = ending.Refused; judged = 0; share = 0; gap = 0; cost = 0; over = 0 }

-- The total flow and the time of its links.
abbrev flow : ℕ → ℕ
flow l = get_or (16 ∷ 2 ∷ []) l 0

abbrev time : ℕ → ℕ
time l = get_or (15 ∷ 15 ∷ []) l 0

-- "reached", "judged 5", "share 9", "gap 0", "cost 13104", "over 0", "link 0 16 15" and "link 1 2 15", a line each
sample : listing answer 2 flow time
    ≡ 114 ∷ 101 ∷ 97 ∷ 99 ∷ 104 ∷ 101 ∷ 100 ∷ 10 ∷ []
    ++ (106 ∷ 117 ∷ 100 ∷ 103 ∷ 101 ∷ 100 ∷ 32 ∷ 53 ∷ 10 ∷ [])
    ++ (115 ∷ 104 ∷ 97 ∷ 114 ∷ 101 ∷ 32 ∷ 57 ∷ 10 ∷ [])
    ++ (103 ∷ 97 ∷ 112 ∷ 32 ∷ 48 ∷ 10 ∷ [])
    ++ (99 ∷ 111 ∷ 115 ∷ 116 ∷ 32 ∷ 49 ∷ 51 ∷ 49 ∷ 48 ∷ 52 ∷ 10 ∷ [])
    ++ (111 ∷ 118 ∷ 101 ∷ 114 ∷ 32 ∷ 48 ∷ 10 ∷ [])
    ++ (108 ∷ 105 ∷ 110 ∷ 107 ∷ 32 ∷ 48 ∷ 32 ∷ 49 ∷ 54 ∷ 32 ∷ 49 ∷ 53 ∷ 10 ∷ [])
    ++ (108 ∷ 105 ∷ 110 ∷ 107 ∷ 32 ∷ 49 ∷ 32 ∷ 50 ∷ 32 ∷ 49 ∷ 53 ∷ 10 ∷ [])
unfolding digits_within decimal ending_word judged_word share_word gap_word cost_word over_word link_word number_line link_line listing rows
sample = refl

-- "refused 11"
refusal : listing refused 2 flow time ≡ 114 ∷ 101 ∷ 102 ∷ 117 ∷ 115 ∷ 101 ∷ 100 ∷ 32 ∷ 49 ∷ 49 ∷ 10 ∷ []
unfolding digits_within decimal ending_word number_line listing
refusal = refl
