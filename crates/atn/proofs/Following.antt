-- What an edge leads to, once its states are noted.
use Rattle.std.proofs.Common.{◌≡◌, ℕ, ◌⊎◌, List, sym, subst, inl, inr}
use Rattle.atn_graph.specs.declared.transition.Move.{Move}
use Rattle.atn_graph.specs.declared.transition.Move.TheVariants.{Along, Call}
use Rattle.atn_graph.specs.declared.transition.Transition.{Transition}
use Rattle.atn_graph.specs.Kinds.{move_of}
use Rattle.atn.specs.Marks.{Grown}
use Rattle.atn.specs.Found.{with_state}
use Rattle.atn.specs.Reach.{LeadsOver, LeadsByOver}
use Rattle.atn.proofs.Growth.{grown_like, grown_both, grown_with}

module _ (N : ℕ → Type 0) (e : Transition) (xs : List ℕ) where
  by_move : (m : Move) (ys : List ℕ) → m ≡ move_of e.kind → Grown (LeadsByOver N e.target m) xs ys → Grown (LeadsOver N e) xs ys
  by_move m ys is g = subst (λ m. Grown (LeadsByOver N e.target m) xs ys) is g

  pub along_with : (ys : List ℕ) → Along ≡ move_of e.kind → ys ≡ with_state e.target xs → Grown (LeadsOver N e) xs ys
  along_with ys is y = by_move Along ys is (subst (Grown (λ k. e.target ≡ k) xs) (sym y) (grown_with e.target xs))

  pub call_with : (f : ℕ) (ys : List ℕ) → Call f ≡ move_of e.kind → (N e.target → ⊥) → ys ≡ with_state e.target xs → Grown (LeadsOver N e) xs ys
  call_with f ys is not_nullable y = by_move (Call f) ys is (grown_like (λ k h. inl h) only (subst (Grown (λ k. e.target ≡ k) xs) (sym y) (grown_with e.target xs)))
    where
      only : (k : ℕ) → (e.target ≡ k) ⊎ (N e.target × (f ≡ k)) → e.target ≡ k
      only k (inl h) = h
      only k (inr h) = absurd (not_nullable h.0)

  pub both_with : (f : ℕ) (ys zs : List ℕ) → Call f ≡ move_of e.kind → N e.target → ys ≡ with_state e.target xs → zs ≡ with_state f ys → Grown (LeadsOver N e) xs zs
  both_with f ys zs is nullable y z = by_move (Call f) zs is (grown_like to only (grown_both
      (subst (Grown (λ k. e.target ≡ k) xs) (sym y) (grown_with e.target xs)) (subst (Grown (λ k. f ≡ k) ys) (sym z) (grown_with f ys))))
    where
      to : (k : ℕ) → (e.target ≡ k) ⊎ (f ≡ k) → (e.target ≡ k) ⊎ (N e.target × (f ≡ k))
      to k (inl h) = inl h
      to k (inr h) = inr (nullable, h)

      only : (k : ℕ) → (e.target ≡ k) ⊎ (N e.target × (f ≡ k)) → (e.target ≡ k) ⊎ (f ≡ k)
      only k (inl h) = inl h
      only k (inr h) = inr h.1
