-- What holds at each of a run of numbers, from the cases one by one.
use Rattle.std.proofs.Common.{◌≡◌, ℕ, zero, suc, ◌+◌, ◌<◌, ◌≤◌, sym, subst, inl, inr, arith}
use Rattle.std.proofs.lemmas.Bool.{cases_eq}

-- P holds at count numbers, from low on
abbrev pub Each : (ℕ → Type 0) → ℕ → ℕ → Type 0
Each P low zero = Unit {0}
Each P low (suc count) = P low × Each P (low + 1) count

here_or : (P : ℕ → Type 0) (low k : ℕ) → P low → ((k ≡ low → ⊥) → P k) → P k
here_or P low k here further = elim (cases_eq k low) [ inl e ↦ subst P (sym e) here | inr ne ↦ further ne ]

pub each : (P : ℕ → Type 0) (low count k : ℕ) → Each P low count → low ≤ k → k < low + count → P k
each P low zero k all from below = absurd (omega arith)
each P low (suc count) k all from below = here_or P low k all.0 (λ ne. each P (low + 1) count k all.1 (omega (arith, from, ne)) (omega (arith, below)))
