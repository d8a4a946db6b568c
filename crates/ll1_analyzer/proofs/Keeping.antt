-- Sets that are kept stay right.
use Rattle.std.proofs.Common.{◌≡◌, ℕ, zero, suc, ◌⊎◌, List, [], ◌∷◌, ◌++◌, length, Some, sym, refl, ap, ◌∙◌, subst, inl, inr}
use Rattle.std.specs.Prelude.{slice_get}
use Rattle.interval_set.specs.declared.set.IntervalSet.{IntervalSet}
use Rattle.atn_graph.specs.Net.{Net}
use Rattle.ll1_analyzer.specs.Sets.{Within}
use Rattle.atn.specs.declared.atn.Atn.{Atn}
use Rattle.ll1_analyzer.specs.Answers.{HoldsExactly, KeepsNet}
use Rattle.ll1_analyzer.specs.Kept.{AreFirst}

-- one question after another
pub keeps_both : {L : Type 0} {atn : L → Atn} {agrees : L → Type 0} {a b c : L} → KeepsNet atn agrees a b → KeepsNet atn agrees b c → KeepsNet atn agrees a c
keeps_both p q = record { net = q.net ∙ p.net; agreement = λ h. q.agreement (p.agreement h) }

-- an element of a list with one more is one of the list, or the one more
pushed : {X : Type 0} (xs : List X) (y v : X) (k : ℕ) → slice_get (xs ++ y ∷ []) k ≡ Some v → (slice_get xs k ≡ Some v) ⊎ ((k ≡ length xs) × (y ≡ v))
pushed [] y v zero e = inr (refl, cc)
pushed [] y v (suc k) e = inl e
pushed (x ∷ xs) y v zero e = inl e
pushed (x ∷ xs) y v (suc k) e = at (pushed xs y v k e)
  where
    at : (slice_get xs k ≡ Some v) ⊎ ((k ≡ length xs) × (y ≡ v)) → (slice_get xs k ≡ Some v) ⊎ ((suc k ≡ suc (length xs)) × (y ≡ v))
    at (inl h) = inl h
    at (inr h) = inr (ap suc h.0, h.1)

-- the set of the next state
pub first_push : (n : Net) (sets : List IntervalSet) (new : IntervalSet) (s : ℕ) → s ≡ length sets → AreFirst n sets → HoldsExactly new (Within n s) → AreFirst n (sets ++ new ∷ [])
first_push n sets new s len kept right k v e = at (pushed sets new v k e)
  where
    at : (slice_get sets k ≡ Some v) ⊎ ((k ≡ length sets) × (new ≡ v)) → HoldsExactly v (Within n k)
    at (inl h) = kept k v h
    at (inr h) = subst (λ j. HoldsExactly v (Within n j)) (len ∙ sym h.0) (subst (λ w. HoldsExactly w (Within n s)) h.1 right)
