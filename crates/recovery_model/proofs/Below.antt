-- How many numbers below a bound pass a test.
use Rattle.std.proofs.Common.{◌≡◌, ℕ, zero, suc, ◌<◌, ◌≤◌, ◌⊎◌, Bool, true, false, sym, refl, ap, ◌∙◌, inl, inr, arith, if◌then◌else◌}
use Rattle.std.proofs.lemmas.Bool.{cond_both, cond-true, cond-false, both_ways, cases_eq}

-- of how many numbers below k it is true
abbrev pub below : (ℕ → Bool) → ℕ → ℕ
below f zero = 0
below f (suc k) = if f k then suc (below f k) else below f k

pub below_most : (f : ℕ → Bool) (k : ℕ) → below f k ≤ k
below_most f zero = omega arith
below_most f (suc k) =
    cond_both (f k) (suc (below f k)) (below f k) (λ m. m ≤ suc k) (λ e. omega (arith, below_most f k)) (λ e. omega (arith, below_most f k))

pub below_some : (f : ℕ → Bool) (i k : ℕ) → i < k → f i ≡ true → 0 < below f k
below_some f i zero l e = absurd (omega (arith, l))
below_some f i (suc k) l e =
    cond_both (f k) (suc (below f k)) (below f k) (λ m. 0 < m)
    (λ g. omega arith)
    (λ g. below_some f i k (last g (cases_eq i k)) e)
  where
    last : f k ≡ false → (i ≡ k) ⊎ (i ≡ k → ⊥) → i < k
    last g (inl s) = absurd (both_ways (f k) g (ap f (sym s) ∙ e))
    last g (inr ne) = omega (arith, l, ne)

pub below_same : (f g : ℕ → Bool) (k : ℕ) → ((s : ℕ) → s < k → g s ≡ f s) → below g k ≡ below f k
below_same f g zero same = refl
below_same f g (suc k) same = rw (same k (omega arith), below_same f g k (λ s l. same s (omega arith))) refl

-- one number more
pub below_raised : (f g : ℕ → Bool) (i k : ℕ) → i < k → f i ≡ false → g i ≡ true → ((s : ℕ) → (s ≡ i → ⊥) → g s ≡ f s) → below g k ≡ suc (below f k)
below_raised f g i zero l off set other = absurd (omega (arith, l))
below_raised f g i (suc k) l off set other = at (λ less. below_raised f g i k less off set other) (cases_eq k i)
  where
    at : (i < k → below g k ≡ suc (below f k)) → (k ≡ i) ⊎ (k ≡ i → ⊥) → below g (suc k) ≡ suc (below f (suc k))
    at so (inl e) =
        cond-true (g k) _ _ (ap g e ∙ set)
        ∙ ap suc (below_same f g k (λ s b. other s (λ d. omega (arith, b, d, e))) ∙ sym (cond-false (f k) _ _ (ap f e ∙ off)))
    at so (inr ne) =
        let less : i < k = omega (arith, l, ne) in
        rw (other k ne, so less) (elim (f k) as (λ b. (if b then suc (suc (below f k)) else suc (below f k)) ≡ suc (if b then suc (below f k) else below f k)) [ true ↦ refl | false ↦ refl ])
