-- At most one denial is the first.
use Rattle.std.proofs.Common.{◌≡◌, ◌⊎◌, get_or, is_ok, Ok, Err, Result, sym, refl, ap, ◌∙◌, inl, inr}
use Rattle.std.proofs.lemmas.Bool.{cases_order, false≢true}
use Rattle.errors.specs.declared.denial.Denial.{Denial}
use Rattle.errors.specs.declared.denial.Denial.TheVariants.{ShortTable, OutsideLimits, BrokenRule, LeftRecursion, FaultyChain, FaultyTape, NoRuleOpen, StateOutside, WrongRule, TooManyRules, NoLeafFree, WrongSearch, WrongReport, SetValue}
use Rattle.errors.specs.Denials.{in_order, place_in, IsBefore, First, DeniesFirst}

-- each denial stands in the order, at a place of its own
placed : (d : Denial) → get_or in_order (place_in in_order d) SetValue ≡ d
placed ShortTable = refl
placed OutsideLimits = refl
placed BrokenRule = refl
placed LeftRecursion = refl
placed FaultyChain = refl
placed FaultyTape = refl
placed NoRuleOpen = refl
placed StateOutside = refl
placed WrongRule = refl
placed TooManyRules = refl
placed NoLeafFree = refl
placed WrongSearch = refl
placed WrongReport = refl
placed SetValue = refl

pub same_first : (Fits : Denial → Type 0) (d e : Denial) → First Fits d → First Fits e → d ≡ e
same_first Fits d e p q = at (cases_order (place_in in_order d) (place_in in_order e))
  where
    at : (place_in in_order d ≡ place_in in_order e) ⊎ (IsBefore d e ⊎ IsBefore e d) → d ≡ e
    at (inl x) = sym (placed d) ∙ ap (λ k. get_or in_order k SetValue) x ∙ placed e
    at (inr (inl l)) = absurd (q.none_before d l p.fits)
    at (inr (inr l)) = absurd (p.none_before e l q.fits)

pub accepts : {X : Type 0} (Fits : Denial → Type 0) (x : X) → ((d : Denial) → Fits d → ⊥) → DeniesFirst Fits (Ok x)
accepts Fits x none = record {
  denied = λ d e. absurd (never d e);
  first = λ d f. absurd (none d f.fits);
  accepted = λ _. none;
  none = λ _. refl;
}
  where
    never : (d : Denial) → Ok x ≡ Err d → ⊥
    never d e = false≢true (sym (ap is_ok e))

pub denies : {X : Type 0} (Fits : Denial → Type 0) (d : Denial) → First Fits d → DeniesFirst {X = X} Fits (Err d)
denies {X} Fits d f = record {
  denied = λ e is. subst_first e is;
  first = λ e g. ap Err (same_first Fits d e f g);
  accepted = λ e. absurd (false≢true e);
  none = λ none. absurd (none d f.fits);
}
  where
    subst_first : (e : Denial) → ◌≡◌ {A = Result X Denial} (Err d) (Err e) → First Fits e
    subst_first e is = let same : d ≡ e = cc in rw (sym same) f
