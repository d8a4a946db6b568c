-- Walks with the follow states stacked end with the types that the within-rule sets join to.
use Rattle.std.proofs.Common.{ℕ, List, [], ◌∷◌, ℤ, sym, refl, subst, inl, inr, Ok, Err, IfOk, Result}
use Rattle.errors.specs.declared.denial.Denial.{Denial}
use Rattle.interval_set.specs.declared.set.IntervalSet.{IntervalSet}
use Rattle.interval_set.specs.Members.{holds}
use Rattle.atn.specs.declared.atn.Atn.{Atn}
use Rattle.atn.specs.Checked.{net_of}
use Rattle.atn.specs.Reach.{Nullable}
use Rattle.atn.proofs.Decompose.{Visited, walk_over, visited_of_walk, walk_of_reaches}
use Rattle.ll1_analyzer.specs.Sets.{eof, EndsWith, CanEnd, InContext, Joined, Expected}
use Rattle.atn.specs.Labels.{TakesAt}
use Rattle.ll1_analyzer.specs.Answers.{HoldsExactly}
use Rattle.ll1_analyzer.proofs.Within.{decides_like}
use Rattle.ll1_analyzer.proofs.Ends.{AllNullable, ends_of_reached, reached_of_ends, nullables_of_walk, nullable_of_stop, stop_of_nullable}

module _ (a : Atn) where
  -- a walk from a nullable state can end
  end_of_nullable : (s : ℕ) → Nullable (net_of a) s → CanEnd (net_of a) s
  end_of_nullable s u = let w = stop_of_nullable u [] in record { state = w.0; walk = w.1; stop = w.2 }

  -- a walk that does not look at its stack has any stack
  stacked : (s : ℕ) (x : ℤ) (p : List ℕ) → EndsWith (net_of a) s [] x → EndsWith (net_of a) s p x
  stacked s x p e = let w = walk_of_reaches (reached_of_ends x e) p in record { state = e.state; stack = w.0; walk = w.1; takes = e.takes }

  -- and a nullable state is passed over
  over : (s f : ℕ) (p : List ℕ) (x : ℤ) → Nullable (net_of a) s → InContext (net_of a) f p x → InContext (net_of a) s (f ∷ p) x
  over s f p x u (inl e) = inl (record { state = e.state; stack = e.stack; walk = walk_over u e.walk; takes = e.takes })
  over s f p x u (inr e) = inr (e.0, record { state = e.1.state; walk = walk_over u e.1.walk; stop = e.1.stop })

  pub context_of_joined : (s : ℕ) (p : List ℕ) (x : ℤ) → Joined (net_of a) (s ∷ p) x → InContext (net_of a) s p x
  context_of_joined s [] x (inl e) = inl e
  context_of_joined s (f ∷ p) x (inl e) = inl (stacked s x (f ∷ p) e)
  context_of_joined s [] x (inr j) = inr (j.1, j.0)
  context_of_joined s (f ∷ p) x (inr j) = over s f p x (nullable_of_stop j.0) (context_of_joined f p x j.1)

  joined_of_visited : (s : ℕ) (p : List ℕ) (k : ℕ) (x : ℤ) → TakesAt (net_of a) k x → Visited (net_of a) s p k → Joined (net_of a) (s ∷ p) x
  joined_of_visited s [] k x t v = inl (ends_of_reached x v t)
  joined_of_visited s (f ∷ p) k x t (inl r) = inl (ends_of_reached x r t)
  joined_of_visited s (f ∷ p) k x t (inr v) = inr (end_of_nullable s v.0, joined_of_visited f p k x t v.1)

  joined_of_nullables : (s : ℕ) (p : List ℕ) → Nullable (net_of a) s → AllNullable (net_of a) p → Joined (net_of a) (s ∷ p) eof
  joined_of_nullables s [] u all = inr (end_of_nullable s u, refl)
  joined_of_nullables s (f ∷ p) u all = inr (end_of_nullable s u, joined_of_nullables f p all.0 all.1)

  pub joined_of_context : (s : ℕ) (p : List ℕ) (x : ℤ) → InContext (net_of a) s p x → Joined (net_of a) (s ∷ p) x
  joined_of_context s p x (inl e) = joined_of_visited s p e.state x e.takes (visited_of_walk e.walk)
  joined_of_context s p x (inr e) =
      let u = nullables_of_walk e.1.walk refl e.1.stop in
      subst (Joined (net_of a) (s ∷ p)) (sym e.0) (joined_of_nullables s p u.0 u.1)

  -- so a set that holds the one holds the other
  pub holds_context : (s : ℕ) (p : List ℕ) (r : Result IntervalSet Denial) → IfOk r (λ set. HoldsExactly set (Expected (net_of a) s p)) → IfOk r (λ set. HoldsExactly set (InContext (net_of a) s p))
  holds_context s p (Ok set) h = λ x. decides_like (holds set x) (context_of_joined s p x) (joined_of_context s p x) (h x)
  holds_context s p (Err d) h = tt
