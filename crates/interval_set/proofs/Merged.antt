-- A rising list with one interval more, joined with those that it touches.
use Rattle.std.proofs.Common.{◌≡◌, ℕ, ◌+◌, ◌<◌, ◌≤◌, Bool, true, false, cond, ◌||◌, List, [], ◌∷◌, ◌++◌, length, drop, ℤ, pos, ◌+ℤ◌, ◌≤ℤ◌, ◌<ℤ◌, sym, refl, ap, ◌∙◌, subst, inl, inr, arith}
use lib.Signed.{lt_z}
use Rattle.std.specs.Int.{int_min, int_max}
use Rattle.std.proofs.lemmas.List.{append_assoc, drop_all}
use Rattle.std.proofs.lemmas.Int.{ints, clamps, by_lt_z}
use Rattle.std.proofs.lemmas.Bool.{or_cases, or_left, or_right, cond-true, cond-false}
use Rattle.interval_set.specs.declared.interval.Interval.{Interval}
use Rattle.interval_set.specs.Intervals.{from_to, inside, has, smallest, rising_from, rising}
use Rattle.interval_set.proofs.Rising.{same_tests, between, inside_from, Fit, fit, rest, risen, lower, front_of, place, next, place_fits}

-- the smallest interval that holds both
abbrev pub both : Interval → Interval → Interval
both i j = record { a = int_min i.a j.a; b = int_max i.b j.b }

-- i put into js: after one that is left of it and apart, before one that is right of it and apart, and else as one with it
abbrev pub merged : Interval → List Interval → List Interval
merged i [] = i ∷ []
merged i (j ∷ js) = cond (lt_z (j.b +ℤ pos 1) i.a) (j ∷ merged i js) (cond (lt_z (i.b +ℤ pos 1) j.a) (i ∷ merged j js) (merged (both i j) js))

-- the three ways
module _ (i j : Interval) (js : List Interval) where
  pub merged_left : (j.b +ℤ pos 1) <ℤ i.a → merged i (j ∷ js) ≡ j ∷ merged i js
  merged_left l = cond-true (lt_z (j.b +ℤ pos 1) i.a) _ _ (sym (omega (arith, ints)))

  pub merged_right : i.a ≤ℤ (j.b +ℤ pos 1) → (i.b +ℤ pos 1) <ℤ j.a → merged i (j ∷ js) ≡ i ∷ merged j js
  merged_right l r = cond-false (lt_z (j.b +ℤ pos 1) i.a) _ _ (sym (omega (arith, ints))) ∙ cond-true (lt_z (i.b +ℤ pos 1) j.a) _ _ (sym (omega (arith, ints)))

  pub merged_both : i.a ≤ℤ (j.b +ℤ pos 1) → j.a ≤ℤ (i.b +ℤ pos 1) → merged i (j ∷ js) ≡ merged (both i j) js
  merged_both l r = cond-false (lt_z (j.b +ℤ pos 1) i.a) _ _ (sym (omega (arith, ints))) ∙ cond-false (lt_z (i.b +ℤ pos 1) j.a) _ _ (sym (omega (arith, ints)))

  by_way : (P : List Interval → Type 0) → ((j.b +ℤ pos 1) <ℤ i.a → P (j ∷ merged i js)) → ((i.b +ℤ pos 1) <ℤ j.a → P (i ∷ merged j js))
      → (i.a ≤ℤ (j.b +ℤ pos 1) → j.a ≤ℤ (i.b +ℤ pos 1) → P (merged (both i j) js)) → P (merged i (j ∷ js))
  by_way P l r t =
      by_lt_z (j.b +ℤ pos 1) i.a (λ h. subst P (sym (merged_left h)) (l h))
      (λ h. by_lt_z (i.b +ℤ pos 1) j.a (λ g. subst P (sym (merged_right h g)) (r g)) (λ g. subst P (sym (merged_both h g)) (t h g)))

-- two intervals that touch hold together what the smallest interval that holds both holds
pub both_holds : (i j : Interval) (x : ℤ) → i.a ≤ℤ i.b → j.a ≤ℤ j.b → i.a ≤ℤ (j.b +ℤ pos 1) → j.a ≤ℤ (i.b +ℤ pos 1) → inside (both i j) x ≡ (inside i x || inside j x)
both_holds i j x p q s t = same_tests (inside (both i j) x) (inside i x || inside j x) out into
  where
    out : inside (both i j) x ≡ true → (inside i x || inside j x) ≡ true
    out h = let b = between (both i j) x h in by_lt_z x i.a (λ l. or_right (inside i x) (inside j x) (inside_from j x (omega (arith, ints, clamps)) (omega (arith, ints, clamps)))) (λ l. by_lt_z i.b x (λ m. or_right (inside i x) (inside j x) (inside_from j x (omega (arith, ints, clamps)) (omega (arith, ints, clamps)))) (λ m. or_left (inside i x) (inside j x) (inside_from i x l m)))

    into : (inside i x || inside j x) ≡ true → inside (both i j) x ≡ true
    into h = elim (or_cases (inside i x) (inside j x) h) [
      | inl e ↦ let b = between i x e in inside_from (both i j) x (omega (arith, ints, clamps)) (omega (arith, ints, clamps))
      | inr e ↦ let b = between j x e in inside_from (both i j) x (omega (arith, ints, clamps)) (omega (arith, ints, clamps))
    ]

or_swap : (s t u : Bool) → (s || (t || u)) ≡ (t || (s || u))
or_swap true true u = refl
or_swap true false u = refl
or_swap false t u = refl

pub or_join : (s t u : Bool) → ((s || t) || u) ≡ (s || (t || u))
or_join true t u = refl
or_join false t u = refl

pub both_fit : (low : ℤ) (i j : Interval) → Fit low i → Fit low j → Fit low (both i j)
both_fit low i j f g = record { from = omega (arith, ints, clamps); non_empty = omega (arith, ints, clamps); by = omega (arith, ints, clamps) }

-- the list then has its numbers and those of the interval
pub merged_has : (low : ℤ) (i : Interval) (js : List Interval) (x : ℤ) → i.a ≤ℤ i.b → rising_from low js ≡ true → has (merged i js) x ≡ (inside i x || has js x)
merged_has low i [] x p e = refl
merged_has low i (j ∷ js) x p e =
    let f = fit low j js e in
    let r = rest low j js e in
    by_way i j js (λ is. has is x ≡ (inside i x || (inside j x || has js x)))
    (λ l. ap (λ t. inside j x || t) (merged_has (j.b +ℤ pos 2) i js x p r) ∙ or_swap (inside j x) (inside i x) (has js x))
    (λ l. ap (λ t. inside i x || t) (merged_has (j.b +ℤ pos 2) j js x f.non_empty r))
    (λ s t. merged_has (j.b +ℤ pos 2) (both i j) js x (omega (arith, ints, clamps)) r ∙ ap (λ u. u || has js x) (both_holds i j x p f.non_empty s t) ∙ or_join (inside i x) (inside j x) (has js x))

-- and still rises
pub merged_rises : (low : ℤ) (i : Interval) (js : List Interval) → Fit low i → rising_from low js ≡ true → rising_from low (merged i js) ≡ true
merged_rises low i [] f e = risen low i [] f refl
merged_rises low i (j ∷ js) f e =
    let g = fit low j js e in
    let r = rest low j js e in
    by_way i j js (λ is. rising_from low is ≡ true)
    (λ l. risen low j (merged i js) g (merged_rises (j.b +ℤ pos 2) i js (record { from = omega (arith, ints); non_empty = f.non_empty; by = f.by }) r))
    (λ l. risen low i (merged j js) f (merged_rises (i.b +ℤ pos 2) j js (record { from = omega (arith, ints); non_empty = g.non_empty; by = g.by }) (lower (j.b +ℤ pos 2) (i.b +ℤ pos 2) js (omega (arith, ints)) r)))
    (λ s t. merged_rises low (both i j) js (both_fit low i j f g) (lower (j.b +ℤ pos 2) low js (omega (arith, ints)) r))

-- The loop over the whole list: out is written, and i is to be put into the intervals from k on.
abbrev pub Merging : Interval → List Interval → ℕ → List Interval → Interval → Type 0
Merging added whole k out i = (out ++ merged i (drop k whole) ≡ merged added whole) × Fit smallest i

pub so_far : (added : Interval) (whole : List Interval) (k : ℕ) (out : List Interval) (i : Interval) → rising whole ≡ true → rising (added ∷ []) ≡ true → Merging added whole k out i → rising out ≡ true
so_far added whole k out i rises p inv = front_of out _ _ inv.0 (merged_rises smallest added whole (fit smallest added [] p) rises)

-- the same state under other names
pub carry : (added : Interval) (whole : List Interval) (k : ℕ) {out new : List Interval} {i j : Interval} → new ≡ out → j ≡ i → Merging added whole k out i → Merging added whole k new j
carry added whole k {out} {new} {i} {j} e f inv = subst (λ is. Merging added whole k is j) (sym e) (subst (Merging added whole k out) (sym f) inv)

pub is_both : (r i j : Interval) → r.a ≡ int_min i.a j.a → r.b ≡ int_max i.b j.b → r ≡ both i j
is_both r i j e f = ap (λ x. from_to x r.b) e ∙ ap (from_to (int_min i.a j.a)) f

module _ (added : Interval) (whole : List Interval) (k : ℕ) (out : List Interval) (i : Interval) (inv : Merging added whole k out i) where
  opened : (l : k < length whole) (is : List Interval) → merged i (place whole k ∷ drop (k + 1) whole) ≡ is → out ++ is ≡ merged added whole
  opened l is h = ap (λ js. out ++ js) (sym h ∙ ap (merged i) (sym (next whole k l))) ∙ inv.0

  pub go_left : k < length whole → ((place whole k).b +ℤ pos 1) <ℤ i.a → Merging added whole (k + 1) (out ++ place whole k ∷ []) i
  go_left l h = (append_assoc out _ _ ∙ opened l _ (merged_left i (place whole k) (drop (k + 1) whole) h), inv.1)

  pub go_right : rising whole ≡ true → k < length whole → i.a ≤ℤ ((place whole k).b +ℤ pos 1) → (i.b +ℤ pos 1) <ℤ (place whole k).a → Merging added whole (k + 1) (out ++ i ∷ []) (place whole k)
  go_right rises l h g = (append_assoc out _ _ ∙ opened l _ (merged_right i (place whole k) (drop (k + 1) whole) h g), place_fits whole k l rises)

  pub go_both : rising whole ≡ true → k < length whole → i.a ≤ℤ ((place whole k).b +ℤ pos 1) → (place whole k).a ≤ℤ (i.b +ℤ pos 1) → Merging added whole (k + 1) out (both i (place whole k))
  go_both rises l h g = (opened l _ (merged_both i (place whole k) (drop (k + 1) whole) h g), both_fit smallest i (place whole k) inv.1 (place_fits whole k l rises))

-- at the end i is the last
pub all_merged : (added : Interval) (whole : List Interval) (k : ℕ) (out : List Interval) (i : Interval) → Merging added whole k out i → length whole ≤ k → out ++ i ∷ [] ≡ merged added whole
all_merged added whole k out i inv l = ap (λ is. out ++ merged i is) (sym (drop_all k whole l)) ∙ inv.0

or_turn : (s t : Bool) → (s || t) ≡ (t || s)
or_turn true true = refl
or_turn true false = refl
or_turn false true = refl
or_turn false false = refl

-- what comes out has the numbers of the set and those of the interval
pub merged_holds : (added : Interval) (whole : List Interval) (is : List Interval) → rising whole ≡ true → rising (added ∷ []) ≡ true → is ≡ merged added whole → (x : ℤ) → has is x ≡ (has whole x || inside added x)
merged_holds added whole is rises p e x = ap (λ js. has js x) e ∙ merged_has smallest added whole x (fit smallest added [] p).non_empty rises ∙ or_turn (inside added x) (has whole x)
