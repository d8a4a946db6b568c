-- How lists of states grow.
use Rattle.std.proofs.Common.{◌≡◌, ℕ, zero, suc, ◌<◌, true, false, ◌||◌, eqb, ◌⊎◌, List, [], ◌∷◌, ◌++◌, length, get_or, sym, refl, ap, ◌∙◌, subst, inl, inr, arith}
use mathlib.Core.Bool.{or-false, or_assoc}
use Rattle.std.proofs.lemmas.List.{get_or_append_left, length_push}
use Rattle.std.proofs.lemmas.Bool.{or_cases, or_left, or_right, eq-eqb, eqb-true, both_ways, cases_Bool, cond-true, cond-false}
use Rattle.atn.specs.Marks.{elem, Grown}
use Rattle.atn.specs.Found.{with_state}

-- one more at the end
pub elem_push : (k x : ℕ) (xs : List ℕ) → elem k (xs ++ x ∷ []) ≡ (elem k xs || eqb k x)
elem_push k x [] = or-false (eqb k x)
elem_push k x (y ∷ xs) = ap (λ b. eqb k y || b) (elem_push k x xs) ∙ sym (or_assoc (eqb k y) (elem k xs) (eqb k x))

-- what stands at a place of a list is in it, and what is in it stands at a place
pub elem_at : (xs : List ℕ) (i : ℕ) → i < length xs → elem (get_or xs i 0) xs ≡ true
elem_at [] i l = absurd (omega arith)
elem_at (x ∷ xs) zero l = or_left _ _ (eq-eqb x x refl)
elem_at (x ∷ xs) (suc i) l = or_right (eqb (get_or xs i 0) x) _ (elem_at xs i (omega arith))

pub place_of : (k : ℕ) (xs : List ℕ) → elem k xs ≡ true → (i : ℕ) × (i < length xs) × (get_or xs i 0 ≡ k)
place_of k [] h = absurd (both_ways false refl h)
place_of k (x ∷ xs) h = at (λ e. place_of k xs e) (or_cases (eqb k x) (elem k xs) h)
  where
    at : (elem k xs ≡ true → (i : ℕ) × (i < length xs) × (get_or xs i 0 ≡ k)) → (eqb k x ≡ true) ⊎ (elem k xs ≡ true) → (i : ℕ) × (i < length (x ∷ xs)) × (get_or (x ∷ xs) i 0 ≡ k)
    at rest (inl e) = (0, omega arith, sym (eqb-true k x e))
    at rest (inr e) = let p = rest e in (suc p.0, omega (arith, p.1), p.2)

pub grown_none : {P : ℕ → Type 0} (xs : List ℕ) → ((k : ℕ) → P k → elem k xs ≡ true) → Grown P xs xs
grown_none xs has = record { longer = omega arith; front = λ i l. refl; keeps = λ k h. h; marks = has; only = λ k h. inl h }

pub grown_like : {P Q : ℕ → Type 0} {a b : List ℕ} → ((k : ℕ) → P k → Q k) → ((k : ℕ) → Q k → P k) → Grown P a b → Grown Q a b
grown_like to from g = record {
  longer = g.longer;
  front = g.front;
  keeps = g.keeps;
  marks = λ k h. g.marks k (from k h);
  only = λ k h. elim (g.only k h) [ inl m ↦ inl m | inr p ↦ inr (to k p) ];
}

pub grown_both : {P Q : ℕ → Type 0} {a b c : List ℕ} → Grown P a b → Grown Q b c → Grown (λ k. P k ⊎ Q k) a c
grown_both {P} {Q} {a} {b} {c} g h = record {
  longer = omega (arith, g.longer, h.longer);
  front = λ i l. h.front i (omega (arith, g.longer)) ∙ g.front i l;
  keeps = λ k m. h.keeps k (g.keeps k m);
  marks = marks;
  only = λ k m. only k (h.only k m);
}
  where
    marks : (k : ℕ) → P k ⊎ Q k → elem k c ≡ true
    marks k (inl p) = h.keeps k (g.marks k p)
    marks k (inr q) = h.marks k q

    first : (k : ℕ) → (elem k a ≡ true) ⊎ P k → (elem k a ≡ true) ⊎ (P k ⊎ Q k)
    first k (inl m) = inl m
    first k (inr p) = inr (inl p)

    only : (k : ℕ) → (elem k b ≡ true) ⊎ Q k → (elem k a ≡ true) ⊎ (P k ⊎ Q k)
    only k (inl m) = first k (g.only k m)
    only k (inr q) = inr (inr q)

pub grown_with : (x : ℕ) (xs : List ℕ) → Grown (λ k. x ≡ k) xs (with_state x xs)
grown_with x xs = at (cases_Bool (elem x xs))
  where
    pushed : elem x xs ≡ false → Grown (λ k. x ≡ k) xs (xs ++ x ∷ [])
    pushed e = record {
      longer = omega (arith, length_push xs x);
      front = λ i l. get_or_append_left xs (x ∷ []) 0 i l;
      keeps = λ k h. elem_push k x xs ∙ or_left _ _ h;
      marks = λ k h. elem_push k x xs ∙ or_right (elem k xs) _ (eq-eqb k x (sym h));
      only = λ k h. elim (or_cases (elem k xs) (eqb k x) (sym (elem_push k x xs) ∙ h)) [ inl m ↦ inl m | inr m ↦ inr (sym (eqb-true k x m)) ];
    }

    at : (elem x xs ≡ true) ⊎ (elem x xs ≡ false) → Grown (λ k. x ≡ k) xs (with_state x xs)
    at (inl e) = subst (Grown (λ k. x ≡ k) xs) (sym (cond-true (elem x xs) xs (xs ++ x ∷ []) e)) (grown_none xs (λ k h. subst (λ y. elem y xs ≡ true) h e))
    at (inr e) = subst (Grown (λ k. x ≡ k) xs) (sym (cond-false (elem x xs) xs (xs ++ x ∷ []) e)) (pushed e)
