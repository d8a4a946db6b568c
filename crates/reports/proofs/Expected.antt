-- The types among the numbers of a set.
use lib.Signed.{le_z}
use Rattle.std.proofs.Common.{◌≡◌, ℕ, zero, suc, ◌≤◌, ◌<◌, Bool, Fits, w16, subst, true, false, not, ◌&&◌, List, [], ◌∷◌, ℤ, pos, negsuc, ◌+ℤ◌, ◌≤ℤ◌, refl, sym, ap, ◌∙◌, inl, inr, arith}
use Rattle.std.specs.Int.{FitsUnsignedBits}
use mathlib.Core.Bool.{and-false}
use Rattle.std.proofs.lemmas.Int.{ints}
use Rattle.std.proofs.lemmas.Bool.{cond-true, cond-false, cases_Bool, or_cases, true≢false, and_parts, and_from}
use Rattle.interval_set.specs.declared.interval.Interval.{Interval}
use Rattle.interval_set.specs.declared.set.IntervalSet.{IntervalSet}
use Rattle.interval_set.specs.Intervals.{inside, from_to, has, smallest, largest, rising_from}
use Rattle.interval_set.specs.Members.{intervals, holds, how_many}
use Rattle.interval_set.proofs.Rising.{between, not_inside, inside_from, fit, rest, bounded, same_tests}
use Rattle.reports.specs.Reports.{expects, types_in}

-- the numbers of a set are no greater than the largest
topped : (low : ℤ) (is : List Interval) (x : ℤ) → rising_from low is ≡ true → has is x ≡ true → x ≤ℤ largest
topped low [] x e h = absurd (true≢false (sym h))
topped low (i ∷ is) x e h =
    let f = fit low i is e in
    elim (or_cases (inside i x) (has is x) h) [
      | inl t ↦ let b = between i x t in omega (arith, ints)
      | inr t ↦ topped (i.b +ℤ pos 2) is x (rest low i is e) t
    ]

pub highest : (s : IntervalSet) (x : ℤ) → holds s x ≡ true → x ≤ℤ largest
highest s x h = topped smallest (intervals s) x s.rising h

pub lowest : (s : IntervalSet) (x : ℤ) → holds s x ≡ true → smallest ≤ℤ x
lowest s x h = bounded smallest (intervals s) x s.rising h

-- without -2 the types are left
pub types_left : (s : IntervalSet) (x : ℤ) → (holds s x && not (inside (from_to smallest smallest) x)) ≡ expects s x
types_left s x = same_tests _ _
    (λ e.
    let p = and_parts (holds s x) (not (inside (from_to smallest smallest) x)) e in
    let low = lowest s x p.0 in
    elim (cases_Bool (inside (from_to smallest smallest) x)) [
      | inl t ↦ absurd (true≢false (sym p.1 ∙ ap not t))
      | inr f ↦ and_from (holds s x) _ p.0 (type_from x low (λ e. true≢false (sym (inside_from (from_to smallest smallest) x (omega (arith, ints)) (omega (arith, ints))) ∙ f)))
    ])
    (λ e.
    let p = and_parts (holds s x) (le_z (negsuc 0) x) e in
    let from : negsuc 0 ≤ℤ x = omega (arith, ints, p.1) in
    and_from (holds s x) _ p.0 (ap not (not_inside (from_to smallest smallest) x (λ b. let h = b.high in omega (arith, ints)))))
  where
    type_from : (x : ℤ) → smallest ≤ℤ x → (x ≡ smallest → ⊥) → le_z (negsuc 0) x ≡ true
    type_from (pos n) l never = refl
    type_from (negsuc zero) l never = refl
    type_from (negsuc (suc zero)) l never = absurd (never refl)
    type_from (negsuc (suc (suc n))) l never = absurd (omega (arith, ints, l))

-- of n + 1 numbers of which the first fails the test, n pass at most
pub all_but_first : (n : ℕ) (p : ℤ → Bool) → p smallest ≡ false → how_many (suc n) p ≤ n
all_but_first zero p e = omega (arith, cond-false {A = ℕ} (p smallest) 1 0 e)
all_but_first (suc n) p e =
    let h = all_but_first n p e in
    elim (cases_Bool (p (smallest +ℤ pos (suc n)))) [
      | inl t ↦ omega (arith, h, cond-true {A = ℕ} (p (smallest +ℤ pos (suc n))) 1 0 t)
      | inr f ↦ omega (arith, h, cond-false {A = ℕ} (p (smallest +ℤ pos (suc n))) 1 0 f)
    ]

-- a smallest number that is no byte is -1
pub is_eof : (s : IntervalSet) (m : ℤ) → holds s smallest ≡ false → holds s m ≡ true → (FitsUnsignedBits 8 m → ⊥) → m ≡ negsuc 0
is_eof s (pos n) none h never = let top = highest s (pos n) h in let byte : n < 256 = omega (arith, ints) in absurd (never byte)
is_eof s (negsuc zero) none h never = refl
is_eof s (negsuc (suc zero)) none h never = absurd (true≢false (sym h ∙ none))
is_eof s (negsuc (suc (suc n))) none h never = let low = lowest s (negsuc (suc (suc n))) h in absurd (omega (arith, ints))

-- -2 is no type
pub no_epsilon : (s : IntervalSet) → expects s smallest ≡ false
no_epsilon s = and-false (holds s smallest)

pub count_types : (s : IntervalSet) (n : ℕ) → n ≡ how_many 258 (holds s) → n ≡ types_in (holds s)
unfolding types_in
count_types s n e = e

pub few_types : (s : IntervalSet) (n : ℕ) → holds s smallest ≡ false → n ≡ how_many 258 (holds s) → n ≤ 257
few_types s n none e = subst (λ k. k ≤ 257) (sym e) (all_but_first 257 (holds s) none)

pub few_fit : (n : ℕ) → n ≤ 257 → Fits w16 n
few_fit n few = record { fits = omega (arith, few) }
