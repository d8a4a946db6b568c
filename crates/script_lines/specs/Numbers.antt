-- Which words are numbers, and the number of 32 bits that each stands for.
use Rattle.std.specs.Prelude.{◌≡◌, ◌⊎◌, ℕ, List, ℤ, pos, negsuc, Some, None, Ok, Err, Option, Result, FitsSigned}
use Rattle.std.specs.Global.{Vec}
use Rattle.std.specs.List.{AllZip, Any}
use Rattle.std.specs.Int.{int_min, int_max, w64}
use Rattle.std.specs.Str.Parse.{IsNumeral, without_leading_sign, signed_digits_value}
use Rattle.script_lines.specs.declared.faults.LineFault.{LineFault}
use Rattle.script_lines.specs.declared.faults.LineFault.TheVariants.{Memory, TooLarge}

-- the smallest and the largest number of 32 bits with a sign
abbrev pub lowest : ℤ
lowest = negsuc 2147483647

abbrev pub highest : ℤ
highest = pos 2147483647

-- n itself, or the end that it lies beyond
abbrev pub nearest : ℤ → ℤ
nearest n = int_max lowest (int_min n highest)

-- the word is decimal digits, perhaps after a sign, and the number fits 64 bits with a sign
abbrev pub IsNumber : List ℕ → Type 0
IsNumber w = IsNumeral 10 (without_leading_sign w) × FitsSigned w64 (signed_digits_value 10 w)

-- what a word that is a number stands for; a word that is none stands for none
abbrev pub StandsFor : List ℕ → Option ℤ → Type 0
StandsFor w (Some n) = IsNumber w × (n ≡ nearest (signed_digits_value 10 w))
StandsFor w None = IsNumber w → ⊥

-- each word is a number, and stands for the one of the list that has its place
abbrev pub StandFor : List (List ℕ) → List ℤ → Type 0
StandFor = AllZip (λ w n. StandsFor w (Some n))

-- the word is decimal digits, perhaps after a sign, and the number does not fit 64 bits with a sign
abbrev pub IsTooLarge : List ℕ → Type 0
IsTooLarge w = IsNumeral 10 (without_leading_sign w) × (FitsSigned w64 (signed_digits_value 10 w) → ⊥)

-- one of the words is a number that is too large
abbrev pub OneIsTooLarge : List (List ℕ) → Type 0
OneIsTooLarge = Any IsTooLarge

-- The fault of a word that is no number. Digits alone, perhaps after a sign, are too large, and anything else is wrong.
abbrev pub WhyNone : LineFault → List ℕ → LineFault → Type 0
WhyNone wrong w f = ((f ≡ wrong) × (IsNumeral 10 (without_leading_sign w) → ⊥)) ⊎ ((f ≡ TooLarge) × IsNumeral 10 (without_leading_sign w))

-- The words are read as the numbers that they stand for. They are refused only if one stands for none, or if memory runs
-- out; then with a fault of its own.
abbrev pub NumbersRead : LineFault → List (List ℕ) → Result (Vec ℤ) LineFault → Type 0
NumbersRead wrong ws (Ok v) = StandFor ws v.items
NumbersRead wrong ws (Err f) = (f ≡ Memory) ⊎ Any (λ w. StandsFor w None × WhyNone wrong w f) ws
