-- Rising lists of intervals: what holds of their parts, of their numbers and of their length.
use Rattle.std.proofs.Common.{◌≡◌, ℕ, zero, suc, ◌+◌, ◌*◌, ◌<◌, Bool, true, false, List, [], ◌∷◌, ◌++◌, length, get_or, drop, ℤ, pos, ◌+ℤ◌, ◌≤ℤ◌, sym, refl, ap, ◌∙◌, inl, inr, arith}
use lib.Signed.{le_z}
use Rattle.std.proofs.lemmas.List.{drop_more, length_push}
use Rattle.std.proofs.lemmas.Int.{ints}
use Rattle.std.proofs.lemmas.Bool.{and_parts, and_from, or_cases, or_left, true≢false, cases_Bool}
use Rattle.interval_set.specs.declared.interval.Interval.{Interval}
use Rattle.interval_set.specs.Intervals.{inside, has, smallest, largest, rising_from, rising}

-- two tests that follow from one another have one answer
pub same_tests : (s t : Bool) → (s ≡ true → t ≡ true) → (t ≡ true → s ≡ true) → s ≡ t
same_tests true t f g = sym (f refl)
same_tests false true f g = g refl
same_tests false false f g = refl

-- a number of an interval, as two orders
pub record Between (i : Interval) (x : ℤ) : Type 0 where
  pub low : i.a ≤ℤ x
  pub high : x ≤ℤ i.b

pub between : (i : Interval) (x : ℤ) → inside i x ≡ true → Between i x
between i x e = let p = and_parts (le_z i.a x) (le_z x i.b) e in record { low = omega (arith, ints, p.0); high = omega (arith, ints, p.1) }

pub inside_from : (i : Interval) (x : ℤ) → i.a ≤ℤ x → x ≤ℤ i.b → inside i x ≡ true
inside_from i x l h = and_from (le_z i.a x) (le_z x i.b) (sym (omega (arith, ints))) (sym (omega (arith, ints)))

pub not_inside : (i : Interval) (x : ℤ) → (Between i x → ⊥) → inside i x ≡ false
not_inside i x never = elim (cases_Bool (inside i x)) [ inl t ↦ absurd (never (between i x t)) | inr f ↦ f ]

-- an interval that is not empty and lies within the numbers from low to the largest
pub record Fit (low : ℤ) (i : Interval) : Type 0 where
  pub from : low ≤ℤ i.a
  pub non_empty : i.a ≤ℤ i.b
  pub by : i.b ≤ℤ largest

pub fit : (low : ℤ) (i : Interval) (is : List Interval) → rising_from low (i ∷ is) ≡ true → Fit low i
fit low i is e =
    let p = and_parts (le_z low i.a) _ e in
    let q = and_parts (le_z i.a i.b) _ p.1 in
    let r = and_parts (le_z i.b largest) _ q.1 in
    record { from = omega (arith, ints, p.0); non_empty = omega (arith, ints, q.0); by = omega (arith, ints, r.0) }

pub rest : (low : ℤ) (i : Interval) (is : List Interval) → rising_from low (i ∷ is) ≡ true → rising_from (i.b +ℤ pos 2) is ≡ true
rest low i is e = (and_parts (le_z i.b largest) _ (and_parts (le_z i.a i.b) _ (and_parts (le_z low i.a) _ e).1).1).1

pub risen : (low : ℤ) (i : Interval) (is : List Interval) → Fit low i → rising_from (i.b +ℤ pos 2) is ≡ true → rising_from low (i ∷ is) ≡ true
risen low i is f r =
    and_from (le_z low i.a) _ (sym (omega (arith, ints)))
    (and_from (le_z i.a i.b) _ (sym (omega (arith, ints))) (and_from (le_z i.b largest) _ (sym (omega (arith, ints))) r))

-- what rises from low rises from anything lower
pub lower : (low down : ℤ) (is : List Interval) → down ≤ℤ low → rising_from low is ≡ true → rising_from down is ≡ true
lower low down [] l e = refl
lower low down (i ∷ is) l e = let f = fit low i is e in risen down i is (record { from = omega (arith, ints); non_empty = f.non_empty; by = f.by }) (rest low i is e)

-- the first part of a rising list rises
pub front : (low : ℤ) (is js : List Interval) → rising_from low (is ++ js) ≡ true → rising_from low is ≡ true
front low [] js e = refl
front low (i ∷ is) js e = risen low i is (fit low i (is ++ js) e) (front (i.b +ℤ pos 2) is js (rest low i (is ++ js) e))

pub front_of : (is js whole : List Interval) → is ++ js ≡ whole → rising whole ≡ true → rising is ≡ true
front_of is js whole e r = front smallest is js (ap rising e ∙ r)

-- the numbers of a rising list begin at low
pub bounded : (low : ℤ) (is : List Interval) (x : ℤ) → rising_from low is ≡ true → has is x ≡ true → low ≤ℤ x
bounded low [] x e h = absurd (true≢false (sym h))
bounded low (i ∷ is) x e h =
    let f = fit low i is e in
    elim (or_cases (inside i x) (has is x) h) [
      | inl t ↦ let b = between i x t in omega (arith, ints)
      | inr t ↦ let b = bounded (i.b +ℤ pos 2) is x (rest low i is e) t in omega (arith, ints)
    ]

-- each interval of a rising list takes up two numbers at least
pub taken : (low : ℤ) (is : List Interval) → low ≤ℤ pos 257 → rising_from low is ≡ true → (low +ℤ pos (2 * length is)) ≤ℤ pos 257
taken low [] l e = omega (arith, ints)
taken low (i ∷ is) l e =
    let f = fit low i is e in
    let r = taken (i.b +ℤ pos 2) is (omega (arith, ints)) (rest low i is e) in
    omega (arith, ints)

-- each interval of a rising list lies within -2..255
pub fit_at : (low : ℤ) (is : List Interval) (k : ℕ) (d : Interval) → smallest ≤ℤ low → k < length is → rising_from low is ≡ true → Fit smallest (get_or is k d)
fit_at low [] k d s l e = absurd (omega arith)
fit_at low (i ∷ is) zero d s l e = let f = fit low i is e in record { from = omega (arith, ints); non_empty = f.non_empty; by = f.by }
fit_at low (i ∷ is) (suc k) d s l e = let f = fit low i is e in fit_at (i.b +ℤ pos 2) is k d (omega (arith, ints)) (omega arith) (rest low i is e)

-- The intervals of a list, one by one.

abbrev pub no_interval : Interval
no_interval = record { a = pos 0; b = pos 0 }

abbrev pub place : List Interval → ℕ → Interval
place is k = get_or is k no_interval

-- the next interval of those from k on
pub next : (is : List Interval) (k : ℕ) → k < length is → drop k is ≡ place is k ∷ drop (k + 1) is
next is k l = drop_more is k no_interval l

pub place_fits : (is : List Interval) (k : ℕ) → k < length is → rising is ≡ true → Fit smallest (place is k)
place_fits is k l r = fit_at smallest is k no_interval (omega (arith, ints)) l r

-- a rising list leaves room for one interval more
pub room : (is : List Interval) (i : Interval) → rising (is ++ i ∷ []) ≡ true → length is < 130
room is i r =
    let t = taken smallest (is ++ i ∷ []) (omega (arith, ints)) r in
    let n = length_push is i in
    omega (arith, ints)

-- a rising list begins with its smallest number
pub least : (i : Interval) (is : List Interval) → rising (i ∷ is) ≡ true → (has (i ∷ is) i.a ≡ true) × ((x : ℤ) → has (i ∷ is) x ≡ true → i.a ≤ℤ x)
least i is r =
    let f = fit smallest i is r in
    let g : Fit i.a i = record { from = omega (arith, ints); non_empty = f.non_empty; by = f.by } in (
      or_left (inside i i.a) _ (inside_from i i.a (omega (arith, ints)) (omega (arith, ints))),
      λ x h. bounded i.a (i ∷ is) x (risen i.a i is g (rest smallest i is r)) h,
    )
