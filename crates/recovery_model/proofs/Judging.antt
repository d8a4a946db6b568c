-- What a call is denied with is the first denial that it meets, and then nothing is done.
use Rattle.std.proofs.Common.{◌≡◌, ℕ, zero, suc, ◌<◌, Bool, true, false, ◌⊎◌, List, [], ◌∷◌, length, get_or, Option, Some, None, refl, sym, ap, ◌∙◌, inl, inr, arith}
use Rattle.std.specs.Prelude.{Contains}
use Rattle.std.proofs.lemmas.Bool.{cases_Bool, cond-true, cond-false, both_ways}
use Rattle.std.proofs.lemmas.Option.{none-some, same_Some}
use Rattle.errors.specs.declared.denial.Denial.{Denial}
use Rattle.errors.specs.Denials.{in_order, place_in, IsBefore, First}
use Rattle.errors.proofs.Firsts.{same_first}
use Rattle.atn_graph.specs.Net.{Net}
use Rattle.recovery_model.specs.declared.call.Call.{Call}
use Rattle.recovery_model.specs.declared.call.Call.TheVariants.{State, Enter, Leave, Match, Wildcard, Sync, Report, Recover}
use Rattle.recovery_model.specs.Calls.{Denied}
use Rattle.recovery_model.specs.Sets.{WithinSets}
use Rattle.recovery_model.specs.Views.{View}
use Rattle.recovery_model.specs.Outcomes.{Outcome}
use Rattle.recovery_model.specs.Histories.{is_accepted}
use Rattle.recovery_model.specs.Sync.{choice_here}
use Rattle.recovery_model.specs.Denials.{faults, first_fault, denial, DeniedWithFirst}
use Rattle.recovery_model.specs.Steps.{accepted, DeniedLeavesAll}
use Rattle.recovery_model.proofs.Cases.{no_first, by_step, by_left, by_report, by_match, by_acts, by_sync}

abbrev place : Denial → ℕ
place = place_in in_order

abbrev Fault : Type 0
Fault = Denial × Bool

-- the faults stand in the order of denials
abbrev Above : ℕ → List Fault → Type 0
Above p [] = Unit {0}
Above p (f ∷ fs) = (p < place f.0) × Above (place f.0) fs

abbrev Ordered : List Fault → Type 0
Ordered [] = Unit {0}
Ordered (f ∷ fs) = Above (place f.0) fs

above_at : (p : ℕ) (fs : List Fault) (d : Fault) → Above p fs → (k : ℕ) → k < length fs → p < place (get_or fs k d).0
above_at p [] d a k l = absurd (omega (arith, l))
above_at p (f ∷ fs) d a zero l = a.0
above_at p (f ∷ fs) d a (suc k) l = omega (arith, a.0, above_at (place f.0) fs d a.1 k (omega (arith, l)))

above_tail : (p : ℕ) (fs : List Fault) → Above p fs → Ordered fs
above_tail p [] a = tt
above_tail p (f ∷ fs) a = a.1

abbrev Met : List Fault → Denial → Type 0
Met fs d = Contains fs (d, true)

met_later : (f : Fault) (fs : List Fault) (d : Denial) → Met fs d → Met (f ∷ fs) d
met_later f fs d (k, l, e) = (suc k, omega (arith, l), e)

-- a fault that fits is the first of the list or a later one
met_cases : (f : Fault) (fs : List Fault) (d : Denial) → Met (f ∷ fs) d → (f ≡ (d, true)) ⊎ Met fs d
met_cases f fs d (zero, l, e) = inl e
met_cases f fs d (suc k, l, e) = inr (k, omega (arith, l), e)

none_met : (fs : List Fault) (d : Denial) → first_fault fs ≡ None → Met fs d → ⊥
none_met [] d e (k, l, f) = omega (arith, l)
none_met (g ∷ gs) d e m =
    let n = no_first g gs e in
    elim (met_cases g gs d m) [ inl is ↦ both_ways g.1 n.0 (ap (λ f. f.1) is) | inr later ↦ none_met gs d n.1 later ]

module _ (f : Fault) (fs : List Fault) (d : Denial) where
  met_here : Above (place f.0) fs → f.1 ≡ true → f.0 ≡ d → First (Met (f ∷ fs)) d
  met_here o t is = record { fits = (0, omega arith, λ i. (is i, t i)); none_before = λ g b m. before g b (met_cases f fs g m) }
    where
      before : (g : Denial) → IsBefore g d → (f ≡ (g, true)) ⊎ Met fs g → ⊥
      before g b (inl same) = omega (arith, b, ap place (sym (ap (λ h. h.0) same) ∙ is))
      before g b (inr (k, l, m)) = omega (arith, b, ap place is, ap (λ h. place h.0) m, above_at (place f.0) fs (g, true) o k l)

  met_after : f.1 ≡ false → First (Met fs) d → First (Met (f ∷ fs)) d
  met_after n later = record { fits = met_later f fs d later.fits; none_before = λ g b m. before g b (met_cases f fs g m) }
    where
      before : (g : Denial) → IsBefore g d → (f ≡ (g, true)) ⊎ Met fs g → ⊥
      before g b (inl same) = both_ways f.1 n (ap (λ h. h.1) same)
      before g b (inr m) = later.none_before g b m

first_met : (fs : List Fault) (d : Denial) → Ordered fs → first_fault fs ≡ Some d → First (Met fs) d
first_met [] d o e = absurd (none-some d e)
first_met (f ∷ fs) d o e = elim (cases_Bool f.1) [
  | inl t ↦ met_here f fs d o t (same_Some f.0 d (sym (cond-true f.1 (Some f.0) (first_fault fs) t) ∙ e))
  | inr n ↦ met_after f fs d n (first_met fs d (above_tail (place f.0) fs o) (sym (cond-false f.1 (Some f.0) (first_fault fs) n) ∙ e))
]

-- the lists of the calls do
ordered : (n : Net) (w : WithinSets) (c : Call) (v : View) → Ordered (faults n w c v)
ordered n w (State s) v = (omega arith, tt)
ordered n w (Enter r) v = (omega arith, (omega arith, tt))
ordered n w Leave v = tt
ordered n w (Match t) v = (omega arith, (omega arith, tt))
ordered n w Wildcard v = (omega arith, tt)
ordered n w Sync v = (omega arith, (omega arith, tt))
ordered n w (Report k) v = (omega arith, tt)
ordered n w Recover v = (omega arith, tt)

pub denied_with_first : (n : Net) (w : WithinSets) (c : Call) (v : View) → DeniedWithFirst n w c v
denied_with_first n w c v = record { denied = denied; first = λ d f. at d f (denial n w c v) refl; accepted = λ e d m. none_met fs d e m }
  where
    fs : List Fault
    fs = faults n w c v

    denied : (d : Denial) → denial n w c v ≡ Some d → First (Met (faults n w c v)) d
    denied d e = first_met (faults n w c v) d (ordered n w c v) e

    at : (d : Denial) → First (Met (faults n w c v)) d → (o : Option Denial) → denial n w c v ≡ o → denial n w c v ≡ Some d
    at d f None e = absurd (none_met (faults n w c v) d e f.fits)
    at d f (Some g) e = e ∙ ap Some (same_first (Met (faults n w c v)) g d (denied g e) f)

-- no accepted call answers a denial
abbrev Accepts : Outcome → Type 0
Accepts o = is_accepted o.answer ≡ true

accepts : (n : Net) (w : WithinSets) (c : Call) (v : View) → Accepts (accepted n w c v)
accepts n w (State s) v = refl
accepts n w (Enter r) v = refl
accepts n w Leave v = by_left Accepts v (λ _. refl) (λ _ _ _. refl)
accepts n w (Match t) v = by_match Accepts _ n w v (λ _. refl) (λ _. refl) (λ _. refl) refl
accepts n w Wildcard v = by_match Accepts _ n w v (λ _. refl) (λ _. refl) (λ _. refl) refl
accepts n w Sync v = by_sync Accepts n w v (λ _. refl) (λ _. refl) (λ _. refl) (λ _ _. by_acts Accepts (choice_here n v) n w v (λ _ _. refl) (λ _. refl) (λ _. refl) (λ _. refl))
accepts n w (Report k) v = by_report Accepts n w k v (λ _ _. refl) (λ _. refl)
accepts n w Recover v = refl

pub denied_leaves_all : (n : Net) (w : WithinSets) (c : Call) (v : View) → DeniedLeavesAll n w c v
denied_leaves_all n w c v = record {
  view = by_step (λ o. (d : Denial) → o.answer ≡ Denied d → o.view ≡ v) n w c v (λ d e f. refl) (λ _ e f. absurd (both_ways _ (ap is_accepted f) (accepts n w c v)));
  told = by_step (λ o. (d : Denial) → o.answer ≡ Denied d → o.told ≡ []) n w c v (λ d e f. refl) (λ _ e f. absurd (both_ways _ (ap is_accepted f) (accepts n w c v)));
}
