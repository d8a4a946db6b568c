-- One state more among those found.
use Rattle.std.proofs.Common.{◌≡◌, ℕ, zero, suc, ◌+◌, ◌<◌, Bool, true, false, cond, not, ◌||◌, eqb, ◌⊎◌, List, [], ◌∷◌, ◌++◌, length, get_or, set, replicate, sym, refl, ap, ◌∙◌, subst, inl, inr, arith}
use mathlib.Core.Bool.{or-false}
use Rattle.std.proofs.lemmas.List.{get_or-set_same, get_or-set_other}
use Rattle.std.proofs.lemmas.List.Sums.{sum_by-set}
use Rattle.std.proofs.lemmas.Bool.{cases_eq, eq-eqb, ne_eqb, or_right}
use Rattle.atn.specs.Marks.{elem, unmarked}
use Rattle.atn.proofs.Growth.{elem_push}

pub blank : (m k : ℕ) → get_or (replicate m false) k false ≡ false
blank zero k = refl
blank (suc m) zero = refl
blank (suc m) (suc k) = blank m k

-- marking a place that is not marked
pub unmarked_set : (xs : List Bool) (k : ℕ) → k < length xs → get_or xs k false ≡ false → unmarked (set xs k true) + 1 ≡ unmarked xs
unmarked_set xs k l un =
    let e = sum_by-set (λ x. cond (not x) 1 0) xs k true false l in
    let one = ap {B = ℕ} (λ (x : Bool). cond (not x) 1 0) un in
    omega (arith, e, one)

pub agree_more : (seen : List Bool) (before after : List ℕ) (k : ℕ) → k < length seen → after ≡ before ++ k ∷ []
    → ((j : ℕ) → get_or seen j false ≡ elem j before) → (j : ℕ) → get_or (set seen k true) j false ≡ elem j after
agree_more seen before after k l pushed a j = at (cases_eq j k) ∙ sym (ap (elem j) pushed ∙ elem_push j k before)
  where
    at : (j ≡ k) ⊎ (j ≡ k → ⊥) → get_or (set seen k true) j false ≡ (elem j before || eqb j k)
    at (inl e) = subst (λ x. get_or (set seen k true) x false ≡ true) (sym e) (get_or-set_same seen k true false l) ∙ sym (or_right (elem j before) (eqb j k) (eq-eqb j k e))
    at (inr ne) = get_or-set_other seen k j true false ne ∙ a j ∙ sym (or-false (elem j before)) ∙ ap (λ b. elem j before || b) (sym (ne_eqb j k ne))
