-- Texts of decimal digits alone.
use Rattle.std.specs.Prelude.{◌≡◌, ℕ, List, [], ◌∷◌, true}
use Rattle.std.proofs.Common.{refl}
use Rattle.std.specs.Char.{digit_value, is_digit}
use Rattle.std.specs.List.{list_all}
use Rattle.std.specs.Str.Parse.{AllDigits}
use Rattle.std.proofs.lemmas.Bool.{and_parts, and_from, ltb-true, lt-ltb}

pub digits_of_all : (cs : List ℕ) → list_all (λ c. is_digit c 10) cs ≡ true → AllDigits 10 cs
digits_of_all [] h = tt
digits_of_all (c ∷ cs) h =
    let p = and_parts (is_digit c 10) (list_all (λ b. is_digit b 10) cs) h in (ltb-true (digit_value c) 10 p.0, digits_of_all cs p.1)

pub all_of_digits : (cs : List ℕ) → AllDigits 10 cs → list_all (λ c. is_digit c 10) cs ≡ true
all_of_digits [] h = refl
all_of_digits (c ∷ cs) (l, rest) = and_from (is_digit c 10) (list_all (λ b. is_digit b 10) cs) (lt-ltb (digit_value c) 10 l) (all_of_digits cs rest)
