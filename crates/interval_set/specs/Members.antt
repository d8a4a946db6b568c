-- What a set holds, and what its operations do to that.
use Rattle.std.specs.Prelude.{◌≡◌, ℕ, zero, suc, ◌+◌, Bool, true, false, cond, not, ◌&&◌, ◌||◌, List, ℤ, pos, ◌+ℤ◌, ◌≤ℤ◌, Some, None, Ok, Err, Decides, Option, Result}
use Rattle.std.specs.Ordering.{int_eq}
use Rattle.std.specs.Cmp.{IsPartialEquivalence, int_eq_equiv, partial_equiv_from_equiv, on_per, and_per}
use Rattle.errors.specs.declared.denial.Denial.{Denial}
use Rattle.errors.specs.declared.denial.Denial.TheVariants.{SetValue}
use Rattle.fixed_vec.specs.Items.{items}
use Rattle.interval_set.specs.declared.interval.Interval.{Interval}
use Rattle.interval_set.specs.declared.set.IntervalSet.{IntervalSet}
use Rattle.interval_set.specs.Intervals.{inside, has, addable, smallest}

-- the set's intervals, in their order
abbrev pub intervals : IntervalSet → List Interval
intervals s = items s.intervals

-- x is one of the set's numbers
abbrev pub holds : IntervalSet → ℤ → Bool
holds s x = has (intervals s) x

-- the two sets hold the same numbers
abbrev pub Same : IntervalSet → IntervalSet → Type 0
Same s t = (x : ℤ) → holds s x ≡ holds t x

-- How many of the n numbers from -2 on pass the test.
abbrev pub how_many : ℕ → (ℤ → Bool) → ℕ
how_many zero p = 0
how_many (suc n) p = how_many n p + cond (p (smallest +ℤ pos n)) 1 0

-- The interval's numbers are added; one with a number outside -2..255 is denied, and then nothing
-- changes.
abbrev pub Added : IntervalSet → Interval → Result (Unit {0}) Denial → IntervalSet → Type 0
Added before i (Ok u) after =
    (addable i ≡ true) × ((x : ℤ) → holds after x ≡ (holds before x || inside i x))
Added before i (Err d) after = (addable i ≡ false) × (d ≡ SetValue) × (after ≡ before)

-- The numbers of the interval that the set does not hold.
abbrev pub Complement : IntervalSet → Interval → Result IntervalSet Denial → Type 0
Complement s i (Ok out) =
    (addable i ≡ true) × ((x : ℤ) → holds out x ≡ (inside i x && not (holds s x)))
Complement s i (Err d) = (addable i ≡ false) × (d ≡ SetValue)

-- The smallest number of the set, if it holds any.
abbrev pub Smallest : IntervalSet → Option ℤ → Type 0
Smallest s None = (x : ℤ) → holds s x ≡ false
Smallest s (Some m) = (holds s m ≡ true) × ((x : ℤ) → holds s x ≡ true → m ≤ℤ x)

-- Two sets that hold the same numbers have the same intervals.
abbrev pub Canonical : Type 0
Canonical = (s t : IntervalSet) → Same s t → intervals s ≡ intervals t

-- two intervals have the same ends
abbrev pub same_ends : Interval → Interval → Bool
same_ends i j = int_eq i.a j.a && int_eq i.b j.b

-- which is symmetric and transitive
pub same_ends_laws : IsPartialEquivalence same_ends
same_ends_laws = and_per (on_per (λ i. i.a) ints) (on_per (λ i. i.b) ints)
  where
    ints : IsPartialEquivalence int_eq
    ints = partial_equiv_from_equiv int_eq_equiv

-- What a comparison answers: whether the sets hold the same numbers, which is whether they have the
-- same intervals.
pub record Equal (s t : IntervalSet) (r : Bool) : Type 0 where
  pub members : Decides r (Same s t)
  pub lists : Decides r (intervals s ≡ intervals t)
