-- A set has one list of intervals.
use Rattle.std.proofs.Common.{◌≡◌, true, Decides, int_eq, List, [], ◌∷◌, ℤ, pos, ◌+ℤ◌, ◌≤ℤ◌, ◌<ℤ◌, sym, refl, ap, ◌∙◌, inl, inr, arith}
use Rattle.std.proofs.lemmas.Int.{ints, by_lt_z}
use Rattle.std.proofs.lemmas.Bool.Decides.{Decides-and, Decides-int_eq}
use Rattle.std.specs.Option.{option_map}
use Rattle.std.specs.List.{slice_get}
use Rattle.std.specs.Cmp.Lexicographic.{pointwise, pointwise_decides}
use Rattle.std.proofs.lemmas.Bool.{or_cases, or_left, or_right, true≢false}
use Rattle.interval_set.specs.declared.interval.Interval.{Interval}
use Rattle.interval_set.specs.declared.set.IntervalSet.{IntervalSet}
use Rattle.interval_set.specs.Intervals.{from_to, inside, has, smallest, rising_from, rising}
use Rattle.interval_set.specs.Members.{intervals, Canonical, Smallest, same_ends, Equal}
use Rattle.interval_set.proofs.Rising.{same_tests, between, inside_from, Fit, fit, rest, risen, bounded, least}

-- the first number of a list that is not empty
first : (low : ℤ) (i : Interval) (is : List Interval) → rising_from low (i ∷ is) ≡ true → has (i ∷ is) i.a ≡ true
first low i is e = let f = fit low i is e in or_left (inside i i.a) (has is i.a) (inside_from i i.a (omega (arith, ints)) f.non_empty)

-- no number of the rest lies in the interval or next after it
past : (low : ℤ) (i : Interval) (is : List Interval) (x : ℤ) → rising_from low (i ∷ is) ≡ true → has (i ∷ is) x ≡ true → (i.b <ℤ x) → (i.b +ℤ pos 2) ≤ℤ x
past low i is x e h l =
    elim (or_cases (inside i x) (has is x) h) [
      | inl t ↦ let b = between i x t in omega (arith, ints)
      | inr t ↦ bounded (i.b +ℤ pos 2) is x (rest low i is e) t
    ]

module _ (low down : ℤ) (i j : Interval) (is js : List Interval) (p : rising_from low (i ∷ is) ≡ true) (q : rising_from down (j ∷ js) ≡ true) (into : (x : ℤ) → has (i ∷ is) x ≡ true → has (j ∷ js) x ≡ true) where
  -- what has its numbers in another list begins no earlier
  begins : j.a ≤ℤ i.a
  begins =
      let g = fit down j js q in
      let h : Fit j.a j = record { from = omega (arith, ints); non_empty = g.non_empty; by = g.by } in
      bounded j.a (j ∷ js) i.a (risen j.a j js h (rest down j js q)) (into i.a (first low i is p))

  -- and if it begins there too, its first interval ends no later
  ends : i.a ≡ j.a → i.b ≤ℤ j.b
  ends e = by_lt_z j.b i.b (λ l. late l) (λ l. l)
    where
      late : j.b <ℤ i.b → i.b ≤ℤ j.b
      late l =
          let f = fit low i is p in
          let g = fit down j js q in
          let n : inside i (j.b +ℤ pos 1) ≡ true = inside_from i (j.b +ℤ pos 1) (omega (arith, ints)) (omega (arith, ints)) in
          let h = past down j js (j.b +ℤ pos 1) q (into (j.b +ℤ pos 1) (or_left (inside i (j.b +ℤ pos 1)) _ n)) (omega (arith, ints)) in
          omega (arith, ints)

  -- the rest then has its numbers in the rest
  rests : i.b ≡ j.b → (x : ℤ) → has is x ≡ true → has js x ≡ true
  rests e x h =
      let b = bounded (i.b +ℤ pos 2) is x (rest low i is p) h in
      elim (or_cases (inside j x) (has js x) (into x (or_right (inside i x) (has is x) h))) [
        | inl t ↦ let c = between j x t in absurd (omega (arith, ints))
        | inr t ↦ t
      ]

pub one_list : (low down : ℤ) (is js : List Interval) → rising_from low is ≡ true → rising_from down js ≡ true → ((x : ℤ) → has is x ≡ has js x) → is ≡ js
one_list low down [] [] p q same = refl
one_list low down [] (j ∷ js) p q same = absurd (true≢false (sym (first down j js q) ∙ sym (same j.a)))
one_list low down (i ∷ is) [] p q same = absurd (true≢false (sym (first low i is p) ∙ same i.a))
one_list low down (i ∷ is) (j ∷ js) p q same =
    let into : (x : ℤ) → has (i ∷ is) x ≡ true → has (j ∷ js) x ≡ true = λ x h. sym (same x) ∙ h in
    let back : (x : ℤ) → has (j ∷ js) x ≡ true → has (i ∷ is) x ≡ true = λ x h. same x ∙ h in
    let a₁ = begins low down i j is js p q into in
    let a₂ = begins down low j i js is q p back in
    let a : i.a ≡ j.a = omega (arith, ints) in
    let b₁ = ends low down i j is js p q into a in
    let b₂ = ends down low j i js is q p back (sym a) in
    let b : i.b ≡ j.b = omega (arith, ints) in
    let r = one_list (i.b +ℤ pos 2) (j.b +ℤ pos 2) is js (rest low i is p) (rest down j js q) (λ x. same_tests (has is x) (has js x) (rests low down i j is js p q into b x) (rests down low j i js is q p back (sym b) x)) in
    ap (λ x. from_to x i.b ∷ is) a ∙ ap (λ x. from_to j.a x ∷ is) b ∙ ap (λ ks. j ∷ ks) r

-- Two sets that hold the same numbers have the same intervals.
pub canonical : Canonical
canonical s t same = one_list smallest smallest (intervals s) (intervals t) s.rising t.rising same

-- intervals with the same ends are the same
decides : (i j : Interval) → Decides (same_ends i j) (i ≡ j)
decides i j =
    let ends = Decides-and (int_eq i.a j.a) (int_eq i.b j.b) (Decides-int_eq i.a j.a) (Decides-int_eq i.b j.b) in
    (λ h. let e = ends.0 h in ap (λ x. from_to x i.b) e.0 ∙ ap (from_to j.a) e.1, λ e. ends.1 (ap (λ k. k.a) e, ap (λ k. k.b) e))

-- so a test of the ends, place by place, is one of the lists, and one of the numbers
pub equal_told : (s t : IntervalSet) → Equal s t (pointwise same_ends (intervals s) (intervals t))
equal_told s t =
    let told = pointwise_decides decides (intervals s) (intervals t) in
    record { members = (λ h x. ap (λ is. has is x) (told.0 h), λ same. told.1 (canonical s t same)); lists = told }

-- the first interval begins at the smallest number
pub smallest_of : (s : IntervalSet) (is : List Interval) → is ≡ intervals s → Smallest s (option_map (λ i. i.a) (slice_get is 0))
smallest_of s [] e = λ x. ap (λ js. has js x) (sym e)
smallest_of s (i ∷ is) e =
    let l = least i is (ap rising e ∙ s.rising) in
    (ap (λ js. has js i.a) (sym e) ∙ l.0, λ x h. l.1 x (ap (λ js. has js x) e ∙ h))
