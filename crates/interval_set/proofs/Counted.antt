-- How many numbers the intervals of a rising list hold.
use Rattle.std.proofs.Common.{◌≡◌, ℕ, zero, suc, ◌+◌, ◌-◌, ◌≤◌, Bool, true, false, cond, ◌||◌, List, [], ◌∷◌, ℤ, pos, ◌+ℤ◌, ◌-ℤ◌, nat_abs, ◌≤ℤ◌, sym, refl, inl, inr, arith}
use Rattle.std.proofs.lemmas.Int.{ints}
use Rattle.std.proofs.lemmas.Bool.{cond-true, cond-false, cases_lt, cases_Bool}
use Rattle.interval_set.specs.declared.interval.Interval.{Interval}
use Rattle.interval_set.specs.Intervals.{inside, has, smallest, rising_from, rising}
use Rattle.interval_set.specs.Members.{how_many}
use Rattle.interval_set.proofs.Rising.{between, inside_from, not_inside, Fit, fit, rest, bounded}

abbrev pub width : Interval → ℕ
width i = nat_abs ((i.b -ℤ i.a) +ℤ pos 1)

abbrev pub total : List Interval → ℕ
total [] = 0
total (i ∷ is) = width i + total is

-- no more than there are
pub at_most : (n : ℕ) (p : ℤ → Bool) → how_many n p ≤ n
at_most zero p = omega arith
at_most (suc n) p =
    let h = at_most n p in
    elim (cases_Bool (p (smallest +ℤ pos n))) [
      | inl t ↦ omega (arith, cond-true {A = ℕ} (p (smallest +ℤ pos n)) 1 0 t)
      | inr t ↦ omega (arith, cond-false {A = ℕ} (p (smallest +ℤ pos n)) 1 0 t)
    ]

none_pass : (n : ℕ) → how_many n (λ _. false) ≡ 0
none_pass zero = refl
none_pass (suc n) = omega (arith, none_pass n)

one_or_other : (s t : Bool) → (s ≡ true → t ≡ true → ⊥) → ◌≡◌ {A = ℕ} (cond (s || t) 1 0) (cond s 1 0 + cond t 1 0)
one_or_other true true never = absurd (never refl refl)
one_or_other true false never = refl
one_or_other false true never = refl
one_or_other false false never = refl

-- the sum, of two tests that no number passes both
apart : (n : ℕ) (p q : ℤ → Bool) → ((x : ℤ) → p x ≡ true → q x ≡ true → ⊥) → how_many n (λ x. p x || q x) ≡ how_many n p + how_many n q
apart zero p q never = refl
apart (suc n) p q never = omega (arith, apart n p q never, one_or_other (p (smallest +ℤ pos n)) (q (smallest +ℤ pos n)) (never (smallest +ℤ pos n)))

-- of the first n numbers, those from the place m on and before the place k are in the interval
inside_count : (n m k : ℕ) (i : Interval) → m ≤ k → i.a +ℤ pos 2 ≡ pos m → i.b +ℤ pos 3 ≡ pos k → how_many n (inside i) ≡ (n - m) - (n - k)
inside_count zero m k i o a b = omega arith
inside_count (suc n) m k i o a b =
    let h = inside_count n m k i o a b in
    let x = smallest +ℤ pos n in
    elim (cases_lt n m) [
      | inl l ↦ omega (arith, cond-false {A = ℕ} (inside i x) 1 0 (not_inside i x (λ t. let u = t.low in omega (arith, ints))))
      | inr l ↦ elim (cases_lt n k) [
        | inl g ↦ omega (arith, cond-true {A = ℕ} (inside i x) 1 0 (inside_from i x (omega (arith, ints)) (omega (arith, ints))))
        | inr g ↦ omega (arith, cond-false {A = ℕ} (inside i x) 1 0 (not_inside i x (λ t. let u = t.high in omega (arith, ints))))
      ]
    ]

inside_width : (n : ℕ) (i : Interval) → 258 ≤ n → Fit smallest i → how_many n (inside i) ≡ width i
inside_width n i l f = omega (arith, ints, inside_count n (nat_abs (i.a +ℤ pos 2)) (nat_abs (i.b +ℤ pos 3)) i (omega (arith, ints)) (omega (arith, ints)) (omega (arith, ints)))

pub total_is : (n : ℕ) (low : ℤ) (is : List Interval) → 258 ≤ n → smallest ≤ℤ low → rising_from low is ≡ true → total is ≡ how_many n (has is)
total_is n low [] l s e = sym (none_pass n)
total_is n low (i ∷ is) l s e =
    let f = fit low i is e in
    let r = rest low i is e in
    let g : Fit smallest i = record { from = omega (arith, ints); non_empty = f.non_empty; by = f.by } in
    let t = total_is n (i.b +ℤ pos 2) is l (omega (arith, ints)) r in
    let u = inside_width n i l g in
    omega (arith, apart n (inside i) (has is) (λ x p q. let b = between i x p in let c = bounded (i.b +ℤ pos 2) is x r q in omega (arith, ints)))

-- so a set holds at most 258
pub few_numbers : (n : ℕ) (is : List Interval) → n ≡ 258 → rising is ≡ true → total is ≤ n
few_numbers n is e r = let t = total_is n smallest is (omega arith) (omega (arith, ints)) r in let a = at_most n (has is) in omega arith
