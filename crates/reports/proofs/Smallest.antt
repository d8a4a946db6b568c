-- Which type is the smallest that passes a test.
use Rattle.std.proofs.Common.{◌≡◌, ℕ, zero, suc, ◌+◌, ◌<◌, ◌≤◌, Bool, true, false, ℤ, pos, negsuc, ◌≤ℤ◌, Some, None, refl, sym, ap, ◌∙◌, inl, inr, arith}
use Rattle.std.specs.Prelude.{find, unwrap_or}
use Rattle.std.specs.Int.{FitsUnsignedBits}
use lib.IntN.{nat_abs}
use Rattle.std.proofs.lemmas.Int.{ints}
use Rattle.std.proofs.lemmas.Bool.{cond-true, cond-false, cases_eq, cases_Bool}
use Rattle.token.specs.declared.token_type.TokenType.TheVariants.{Eof, Of}
use Rattle.token.specs.Tokens.{type_number}
use Rattle.reports.specs.Reports.{types_from, smallest_type}

module _ (test : ℤ → Bool) where
  find_none : (k a : ℕ) → ((x : ℤ) → test x ≡ false) → find (λ t. test (type_number t)) (types_from k a) ≡ None
  find_none zero a none = refl
  find_none (suc k) a none = cond-false (test (pos a)) _ _ (none (pos a)) ∙ find_none k (a + 1) none

  find_first : (k a m : ℕ) → a ≤ m → m < a + k → test (pos m) ≡ true → ((j : ℕ) → j < m → test (pos j) ≡ false) → find (λ t. test (type_number t)) (types_from k a) ≡ Some (Of m)
  find_first zero a m low high is first = absurd (omega arith)
  find_first (suc k) a m low high is first =
      elim (cases_eq a m) [
        | inl e ↦ cond-true (test (pos a)) _ _ (ap (λ j. test (pos j)) e ∙ is) ∙ ap (λ j. Some (Of j)) e
        | inr ne ↦ cond-false (test (pos a)) _ _ (first a (omega arith)) ∙ find_first k (a + 1) m (omega arith) (omega arith) is first
      ]

  -- none passes
  pub smallest_of_none : ((x : ℤ) → test x ≡ false) → Of 0 ≡ smallest_type test
  smallest_of_none none = sym (ap (λ o. unwrap_or o (Of 0)) (cond-false (test (negsuc 0)) (Some Eof) _ (none (negsuc 0)) ∙ find_none 256 0 none))

  -- EOF passes
  pub smallest_eof : test (negsuc 0) ≡ true → Eof ≡ smallest_type test
  smallest_eof is = sym (ap (λ o. unwrap_or o (Of 0)) (cond-true (test (negsuc 0)) (Some Eof) _ is))

  fails_below : (m : ℕ) → ((x : ℤ) → test x ≡ true → pos m ≤ℤ x) → (x : ℤ) → (pos m ≤ℤ x → ⊥) → test x ≡ false
  fails_below m least x below = elim (cases_Bool (test x)) [
    | inl e ↦ absurd (below (least x e))
    | inr e ↦ e
  ]

  -- no smaller number than m passes
  smallest_first : (m : ℕ) → m < 256 → test (pos m) ≡ true → ((x : ℤ) → test x ≡ true → pos m ≤ℤ x) → Of m ≡ smallest_type test
  smallest_first m byte is least =
      sym (ap (λ o. unwrap_or o (Of 0)) (cond-false (test (negsuc 0)) (Some Eof) _ (fails_below m least (negsuc 0) (λ l. omega (arith, ints)))
      ∙ find_first 256 0 m (omega arith) (omega arith) is (λ j l. fails_below m least (pos j) (λ b. omega (arith, ints)))))

  -- a smallest number that is a byte
  pub smallest_byte : (m : ℤ) → FitsUnsignedBits 8 m → test m ≡ true → ((x : ℤ) → test x ≡ true → m ≤ℤ x) → Of (nat_abs m) ≡ smallest_type test
  smallest_byte (pos n) byte is least = smallest_first n byte is least
  smallest_byte (negsuc n) byte is least = absurd byte
