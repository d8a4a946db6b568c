-- A rising list without the numbers of an interval.
use Rattle.std.proofs.Common.{◌≡◌, ℕ, ◌+◌, ◌<◌, ◌≤◌, Bool, true, false, cond, not, ◌&&◌, ◌||◌, List, [], ◌∷◌, ◌++◌, length, drop, ℤ, pos, ◌+ℤ◌, ◌-ℤ◌, ◌≤ℤ◌, ◌<ℤ◌, sym, refl, ap, ◌∙◌, arith}
use lib.Signed.{le_z, lt_z}
use Rattle.std.specs.Int.{int_min, int_max}
use Rattle.std.proofs.lemmas.List.{append_assoc, append-nil, drop_all}
use Rattle.std.proofs.lemmas.Int.{ints, clamps, by_lt_z}
use Rattle.std.proofs.lemmas.Bool.{and_parts, and_from, and_left, and_right, or_left, or_right, or_from, not_from_true, not_from_false, cond-true, cond-false, true≢false}
use Rattle.interval_set.specs.declared.interval.Interval.{Interval}
use Rattle.interval_set.specs.Intervals.{from_to, inside, has, smallest, largest, rising_from, rising}
use Rattle.interval_set.proofs.Rising.{same_tests, between, inside_from, Fit, fit, rest, risen, lower, front_of, place, next}

-- what lies of i below r, and above r
abbrev pub under : Interval → Interval → Interval
under r i = from_to i.a (int_min i.b (r.a -ℤ pos 1))

abbrev pub over : Interval → Interval → Interval
over r i = from_to (int_max i.a (r.b +ℤ pos 1)) i.b

-- what lies of i above r, if anything, and then is
abbrev pub above : Interval → Interval → List Interval → List Interval
above r i is = cond (lt_z r.b i.b) (over r i ∷ is) is

-- what lies of each interval below r, and above r
abbrev pub without : Interval → List Interval → List Interval
without r [] = []
without r (i ∷ is) = cond (lt_z i.a r.a) (under r i ∷ above r i (without r is)) (above r i (without r is))

module _ (r i : Interval) (x : ℤ) where
  under_has : inside (under r i) x ≡ (inside i x && lt_z x r.a)
  under_has = same_tests (inside (under r i) x) (inside i x && lt_z x r.a)
      (λ h. let b = between (under r i) x h in and_from (inside i x) (lt_z x r.a) (inside_from i x b.low (omega (arith, ints, clamps))) (sym (omega (arith, ints, clamps))))
      (λ h. let p = and_parts (inside i x) (lt_z x r.a) h in let b = between i x p.0 in let q = p.1 in inside_from (under r i) x b.low (omega (arith, ints, clamps)))

  over_has : inside (over r i) x ≡ (inside i x && lt_z r.b x)
  over_has = same_tests (inside (over r i) x) (inside i x && lt_z r.b x)
      (λ h. let b = between (over r i) x h in and_from (inside i x) (lt_z r.b x) (inside_from i x (omega (arith, ints, clamps)) b.high) (sym (omega (arith, ints, clamps))))
      (λ h. let p = and_parts (inside i x) (lt_z r.b x) h in let b = between i x p.0 in let q = p.1 in inside_from (over r i) x (omega (arith, ints, clamps)) b.high)

  none_under : r.a ≤ℤ i.a → (inside i x && lt_z x r.a) ≡ false
  none_under l = same_tests (inside i x && lt_z x r.a) false (λ h. let p = and_parts (inside i x) (lt_z x r.a) h in let b = between i x p.0 in let q = p.1 in absurd (omega (arith, ints))) (λ h. absurd (true≢false (sym h)))

  none_over : i.b ≤ℤ r.b → (inside i x && lt_z r.b x) ≡ false
  none_over l = same_tests (inside i x && lt_z r.b x) false (λ h. let p = and_parts (inside i x) (lt_z r.b x) h in let b = between i x p.0 in let q = p.1 in absurd (omega (arith, ints))) (λ h. absurd (true≢false (sym h)))

  above_has : (is : List Interval) → has (above r i is) x ≡ ((inside i x && lt_z r.b x) || has is x)
  above_has is = at (lt_z r.b i.b) refl
    where
      at : (t : Bool) → lt_z r.b i.b ≡ t → has (cond t (over r i ∷ is) is) x ≡ ((inside i x && lt_z r.b x) || has is x)
      at true e = ap (λ t. t || has is x) over_has
      at false e = ap (λ t. t || has is x) (sym (none_over (omega (arith, ints))))

  below_has : (is : List Interval) → has (cond (lt_z i.a r.a) (under r i ∷ is) is) x ≡ ((inside i x && lt_z x r.a) || has is x)
  below_has is = at (lt_z i.a r.a) refl
    where
      at : (t : Bool) → lt_z i.a r.a ≡ t → has (cond t (under r i ∷ is) is) x ≡ ((inside i x && lt_z x r.a) || has is x)
      at true e = ap (λ t. t || has is x) under_has
      at false e = ap (λ t. t || has is x) (sym (none_under (omega (arith, ints))))

outside : (r : Interval) (x : ℤ) → not (inside r x) ≡ (lt_z x r.a || lt_z r.b x)
outside r x =
    by_lt_z x r.a
    (λ l. not_from_false (inside r x) (and_left (le_z r.a x) _ (sym (omega (arith, ints)))) ∙ sym (or_left (lt_z x r.a) _ (sym (omega (arith, ints)))))
    (λ l. by_lt_z r.b x
    (λ m. not_from_false (inside r x) (and_right (le_z r.a x) (le_z x r.b) (sym (omega (arith, ints)))) ∙ sym (or_right (lt_z x r.a) (lt_z r.b x) (sym (omega (arith, ints)))))
    (λ m. not_from_true (inside r x) (inside_from r x l m) ∙ sym (or_from (lt_z x r.a) (lt_z r.b x) (sym (omega (arith, ints))) (sym (omega (arith, ints))))))

parted : (p u v h : Bool) → ((p && u) || ((p && v) || (h && (u || v)))) ≡ ((p || h) && (u || v))
parted true true v h = refl
parted true false true h = refl
parted true false false true = refl
parted true false false false = refl
parted false u v h = refl

-- the list then has its numbers but for those of r
pub without_has : (r : Interval) (is : List Interval) (x : ℤ) → has (without r is) x ≡ (has is x && not (inside r x))
without_has r [] x = refl
without_has r (i ∷ is) x =
    below_has r i x (above r i (without r is))
    ∙ ap (λ t. (inside i x && lt_z x r.a) || t) (above_has r i x (without r is) ∙ ap (λ t. (inside i x && lt_z r.b x) || t) (without_has r is x ∙ ap (λ t. has is x && t) (outside r x)))
    ∙ parted (inside i x) (lt_z x r.a) (lt_z r.b x) (has is x)
    ∙ ap (λ t. (inside i x || has is x) && t) (sym (outside r x))

above_rises : (low : ℤ) (r i : Interval) (is : List Interval) → low ≤ℤ int_max i.a (r.b +ℤ pos 1) → low ≤ℤ (i.b +ℤ pos 2) → i.a ≤ℤ i.b → i.b ≤ℤ largest → rising_from (i.b +ℤ pos 2) is ≡ true → rising_from low (above r i is) ≡ true
above_rises low r i is p q s t e = at (lt_z r.b i.b) refl
  where
    at : (t : Bool) → lt_z r.b i.b ≡ t → rising_from low (cond t (over r i ∷ is) is) ≡ true
    at true h = risen low (over r i) is (record { from = p; non_empty = omega (arith, ints, clamps); by = t }) e
    at false h = lower (i.b +ℤ pos 2) low is q e

-- and still rises, if r is not empty
pub without_rises : (low : ℤ) (r : Interval) (is : List Interval) → r.a ≤ℤ r.b → rising_from low is ≡ true → rising_from low (without r is) ≡ true
without_rises low r [] p e = refl
without_rises low r (i ∷ is) p e = at (lt_z i.a r.a) refl (fit low i is e) (without_rises (i.b +ℤ pos 2) r is p (rest low i is e))
  where
    at : (t : Bool) → lt_z i.a r.a ≡ t → Fit low i → rising_from (i.b +ℤ pos 2) (without r is) ≡ true → rising_from low (cond t (under r i ∷ above r i (without r is)) (above r i (without r is))) ≡ true
    at true h f g =
        risen low (under r i) _ (record { from = f.from; non_empty = omega (arith, ints, clamps); by = omega (arith, ints, clamps) })
        (above_rises ((under r i).b +ℤ pos 2) r i (without r is) (omega (arith, ints, clamps)) (omega (arith, ints, clamps)) f.non_empty f.by g)
    at false h f g = above_rises low r i (without r is) (omega (arith, ints, clamps)) (omega (arith, ints)) f.non_empty f.by g

pub is_under : (r i j : Interval) → j.a ≡ i.a → j.b ≡ int_min i.b (r.a -ℤ pos 1) → j ≡ under r i
is_under r i j e f = ap (λ x. from_to x j.b) e ∙ ap (from_to i.a) f

pub is_over : (r i j : Interval) → j.a ≡ int_max i.a (r.b +ℤ pos 1) → j.b ≡ i.b → j ≡ over r i
is_over r i j e f = ap (λ x. from_to x j.b) e ∙ ap (from_to (int_max i.a (r.b +ℤ pos 1))) f

-- The loop over the whole list: out is written, and is what comes of the intervals before k.
abbrev pub Removing : Interval → List Interval → ℕ → List Interval → Type 0
Removing r whole k out = out ++ without r (drop k whole) ≡ without r whole

-- and when what lies of the interval at k below r has been written too
abbrev pub Halfway : Interval → List Interval → ℕ → List Interval → Type 0
Halfway r whole k out = out ++ above r (place whole k) (without r (drop (k + 1) whole)) ≡ without r whole

module _ (r : Interval) (whole : List Interval) (k : ℕ) (out : List Interval) (l : k < length whole) (inv : Removing r whole k out) where
  opened : out ++ without r (place whole k ∷ drop (k + 1) whole) ≡ without r whole
  opened = ap (λ is. out ++ without r is) (sym (next whole k l)) ∙ inv

  pub write_under : (j : Interval) → j ≡ under r (place whole k) → (place whole k).a <ℤ r.a → Halfway r whole k (out ++ j ∷ [])
  write_under j d h = ap (λ i. (out ++ i ∷ []) ++ above r (place whole k) (without r (drop (k + 1) whole))) d ∙ append_assoc out _ _ ∙ ap (λ is. out ++ is) (sym (cond-true (lt_z (place whole k).a r.a) _ _ (sym (omega (arith, ints))))) ∙ opened

  pub pass_under : r.a ≤ℤ (place whole k).a → Halfway r whole k out
  pass_under h = ap (λ is. out ++ is) (sym (cond-false (lt_z (place whole k).a r.a) _ _ (sym (omega (arith, ints))))) ∙ opened

module _ (r : Interval) (whole : List Interval) (k : ℕ) (out : List Interval) (inv : Halfway r whole k out) where
  pub write_over : (j : Interval) → j ≡ over r (place whole k) → r.b <ℤ (place whole k).b → Removing r whole (k + 1) (out ++ j ∷ [])
  write_over j d h = ap (λ i. (out ++ i ∷ []) ++ without r (drop (k + 1) whole)) d ∙ append_assoc out _ _ ∙ ap (λ is. out ++ is) (sym (cond-true (lt_z r.b (place whole k).b) _ _ (sym (omega (arith, ints))))) ∙ inv

  pub pass_over : (place whole k).b ≤ℤ r.b → Removing r whole (k + 1) out
  pass_over h = ap (λ is. out ++ is) (sym (cond-false (lt_z r.b (place whole k).b) _ _ (sym (omega (arith, ints))))) ∙ inv

-- what is written so far rises
pub half_rises : (r : Interval) (whole : List Interval) (k : ℕ) (out : List Interval) → rising whole ≡ true → r.a ≤ℤ r.b → Halfway r whole k out → rising out ≡ true
half_rises r whole k out rises p inv = front_of out (above r (place whole k) (without r (drop (k + 1) whole))) (without r whole) inv (without_rises smallest r whole p rises)

pub written_rises : (r : Interval) (whole : List Interval) (k : ℕ) (out : List Interval) → rising whole ≡ true → r.a ≤ℤ r.b → Removing r whole k out → rising out ≡ true
written_rises r whole k out rises p inv = front_of out (without r (drop k whole)) (without r whole) inv (without_rises smallest r whole p rises)

-- at the end that is all
pub all_removed : (r : Interval) (whole : List Interval) (k : ℕ) (out : List Interval) → Removing r whole k out → length whole ≤ k → out ≡ without r whole
all_removed r whole k out inv l = sym (append-nil out) ∙ ap (λ is. out ++ without r is) (sym (drop_all k whole l)) ∙ inv
