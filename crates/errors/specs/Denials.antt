-- The numbers of the denials, the order in which they are answered, and which of several is answered.
use Rattle.std.specs.Prelude.{◌≡◌, ℕ, suc, ◌<◌, ◌==◌, true, List, [], ◌∷◌, ◌++◌, codes, decimal, is_ok, Err, Result, if◌then◌else◌}
use Rattle.errors.specs.declared.denial.Denial.{Denial}
use Rattle.errors.specs.declared.denial.Denial.TheVariants.{ShortTable, OutsideLimits, BrokenRule, LeftRecursion, FaultyChain, FaultyTape, NoRuleOpen, StateOutside, WrongRule, TooManyRules, NoLeafFree, WrongSearch, WrongReport, SetValue}

abbrev pub denial_number : Denial → ℕ
denial_number ShortTable = 1
denial_number OutsideLimits = 2
denial_number BrokenRule = 3
denial_number LeftRecursion = 4
denial_number FaultyChain = 5
denial_number FaultyTape = 6
denial_number NoRuleOpen = 7
denial_number StateOutside = 8
denial_number WrongRule = 9
denial_number TooManyRules = 10
denial_number NoLeafFree = 11
denial_number WrongSearch = 12
denial_number WrongReport = 13
denial_number SetValue = 14

-- what is printed of a denial
abbrev pub denial_text : Denial → List ℕ
denial_text d = codes "denied " ++ decimal (denial_number d)

-- The denials in the order in which they are answered: that of their numbers.
abbrev pub in_order : List Denial
in_order =
    ShortTable ∷ OutsideLimits ∷ BrokenRule ∷ LeftRecursion ∷ FaultyChain ∷ FaultyTape ∷ NoRuleOpen
    ∷ StateOutside ∷ WrongRule ∷ TooManyRules ∷ NoLeafFree ∷ WrongSearch ∷ WrongReport ∷ SetValue ∷ []

-- the place of d in a list of denials, from 0
abbrev pub place_in : List Denial → Denial → ℕ
place_in [] d = 0
place_in (e ∷ es) d = if denial_number e == denial_number d then 0 else suc (place_in es d)

-- d comes before e in the order
abbrev pub IsBefore : Denial → Denial → Type 0
IsBefore d e = place_in in_order d < place_in in_order e

-- Of the denials that fit, d comes first in the order.
pub record First (Fits : Denial → Type 0) (d : Denial) : Type 0 where
  pub fits : Fits d
  pub none_before : (e : Denial) → IsBefore e d → Fits e → ⊥

-- The answer r denies with d exactly if d is the first denial that fits, and accepts exactly if none fits.
pub record DeniesFirst {X : Type 0} (Fits : Denial → Type 0) (r : Result X Denial) : Type 0 where
  pub denied : (d : Denial) → r ≡ Err d → First Fits d
  pub first : (d : Denial) → First Fits d → r ≡ Err d
  pub accepted : is_ok r ≡ true → (d : Denial) → Fits d → ⊥
  pub none : ((d : Denial) → Fits d → ⊥) → is_ok r ≡ true
