-- Which numbers an interval holds, and when a list of intervals is the one way to write a set.
use Rattle.std.specs.Prelude.{ℕ, Bool, true, ◌&&◌, ◌||◌, List, [], ◌∷◌, ℤ, pos, negsuc, ◌+ℤ◌, int_le, int_lt}
use Rattle.std.specs.List.{list_any}
use Rattle.interval_set.specs.declared.interval.Interval.{Interval}

-- from a to b
abbrev pub from_to : ℤ → ℤ → Interval
from_to a b = record { a = a; b = b }

-- x lies in the interval
abbrev pub inside : Interval → ℤ → Bool
inside i x = int_le i.a x && int_le x i.b

-- x lies in one of the intervals
abbrev pub has : List Interval → ℤ → Bool
has is x = list_any (λ i. inside i x) is

-- the smallest and the largest number that a set can hold
abbrev pub smallest : ℤ
smallest = negsuc 1

abbrev pub largest : ℤ
largest = pos 255

-- how many numbers there are from the one to the other
abbrev pub numbers : ℕ
numbers = 258

-- an interval that may be added: an empty one, or one that lies within -2..255
abbrev pub addable : Interval → Bool
addable i = int_lt i.b i.a || (int_le smallest i.a && int_le i.b largest)

-- Each interval begins at low or later, is not empty and ends by the largest number;
-- the next begins past the number after its end.
abbrev pub rising_from : ℤ → List Interval → Bool
rising_from low [] = true
rising_from low (i ∷ is) =
    int_le low i.a && (int_le i.a i.b && (int_le i.b largest && rising_from (i.b +ℤ pos 2) is))

abbrev pub rising : List Interval → Bool
rising is = rising_from smallest is
