-- The digits of numbers at the ends of their ranges, hundredths, and columns.
use Rattle.std.specs.Prelude.{◌≡◌, refl, [], ◌∷◌}
use Rattle.text.specs.Decimal.{digits_within, decimal, hundredths}

decimal-0 : decimal 0 ≡ 48 ∷ []
unfolding digits_within decimal
decimal-0 = refl

decimal-9 : decimal 9 ≡ 57 ∷ []
unfolding digits_within decimal
decimal-9 = refl

decimal-10 : decimal 10 ≡ 49 ∷ 48 ∷ []
unfolding digits_within decimal
decimal-10 = refl

decimal-most : decimal 18446744073709551615
    ≡ 49 ∷ 56 ∷ 52 ∷ 52 ∷ 54 ∷ 55 ∷ 52 ∷ 52 ∷ 48 ∷ 55 ∷ 51 ∷ 55 ∷ 48 ∷ 57 ∷ 53 ∷ 53 ∷ 49 ∷ 54 ∷ 49 ∷ 53 ∷ []
unfolding digits_within decimal
decimal-most = refl

-- "0.00", "0.05", "0.99", "1.00" and "12.34"
hundredths-0 : hundredths 0 ≡ 48 ∷ 46 ∷ 48 ∷ 48 ∷ []
unfolding digits_within decimal hundredths
hundredths-0 = refl

hundredths-5 : hundredths 5 ≡ 48 ∷ 46 ∷ 48 ∷ 53 ∷ []
unfolding digits_within decimal hundredths
hundredths-5 = refl

hundredths-99 : hundredths 99 ≡ 48 ∷ 46 ∷ 57 ∷ 57 ∷ []
unfolding digits_within decimal hundredths
hundredths-99 = refl

hundredths-100 : hundredths 100 ≡ 49 ∷ 46 ∷ 48 ∷ 48 ∷ []
unfolding digits_within decimal hundredths
hundredths-100 = refl

hundredths-1234 : hundredths 1234 ≡ 49 ∷ 50 ∷ 46 ∷ 51 ∷ 52 ∷ []
unfolding digits_within decimal hundredths
hundredths-1234 = refl
