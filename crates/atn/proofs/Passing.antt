-- Passes that add nullable states, until one adds nothing.
use Rattle.std.proofs.Common.{◌≡◌, ℕ, ◌+◌, ◌<◌, ◌≤◌, true, false, ◌⊎◌, List, [], ◌∷◌, ◌++◌, length, sym, refl, ap, ◌∙◌, subst, inl, inr, arith}
use Rattle.std.proofs.lemmas.List.{get_or_past, length_push}
use Rattle.std.proofs.lemmas.Bool.{cases_Bool, cases_eq, cases_lt, and_parts, and_from, both_ways, cond-true, cond-false}
use Rattle.atn_graph.specs.declared.transition.Move.{Move}
use Rattle.atn_graph.specs.declared.transition.Move.TheVariants.{Along, Call, Token}
use Rattle.atn_graph.specs.Kinds.{move_of, is_stop}
use Rattle.atn_graph.specs.Net.{Net, size, no_state, edge_at}
use Rattle.atn.specs.Walks.{HasEdge}
use Rattle.atn.specs.Marks.{elem}
use Rattle.atn.specs.Found.{with_state}
use Rattle.atn.specs.Reach.{Nullable, KnowsNullable}
use Rattle.atn.specs.Passes.{over_by, Falls, AllNullable, Pass}
use Rattle.atn.proofs.Growth.{grown_with}
use Rattle.atn.proofs.Some.{no_edges}

-- a state that adds nothing
pub pass_skip : (n : Net) (s : ℕ) (a b : List ℕ) → Pass n s a b → (Falls n b s → elem s b ≡ true) → Pass n (s + 1) a b
pass_skip n s a b p d = record { right = p.right; longer = p.longer; same = p.same; done = λ e i l f. at e i l f (cases_eq i s) }
  where
    at : length b ≡ length a → (i : ℕ) → i < s + 1 → Falls n a i → (i ≡ s) ⊎ (i ≡ s → ⊥) → elem i a ≡ true
    at e i l f (inl is) = subst (λ x. elem x a ≡ true) (sym is) (subst (λ ys. Falls n ys s → elem s ys ≡ true) (p.same e) d (subst (Falls n a) is f))
    at e i l f (inr ne) = p.done e i (omega arith) f

-- states of a list of nullable states lead to nullable states
nullable_of_falls : (n : Net) (xs : List ℕ) (s : ℕ) → AllNullable n xs → Falls n xs s → Nullable n s
nullable_of_falls n xs s h (inl e) = Nullable.stops e
nullable_of_falls n xs s h (inr v) = at (move_of (edge_at n v.number).kind) refl v.holds
  where
    edge : (m : Move) → move_of (edge_at n v.number).kind ≡ m → HasEdge n s (edge_at n v.number).target m
    edge m is = record { number = v.number; of = (v.from, v.below); leads = refl; moves = is }

    at : (m : Move) → move_of (edge_at n v.number).kind ≡ m → over_by xs (edge_at n v.number).target m ≡ true → Nullable n s
    at Along is o = Nullable.along (edge Along is) (h _ o)
    at (Call f) is o = let p = and_parts (elem (edge_at n v.number).target xs) (elem f xs) o in Nullable.over (edge (Call f) is) (h _ p.0) (h _ p.1)
    at Token is o = absurd (both_ways false refl o)

-- a state that falls is added
pub pass_note : (n : Net) (s : ℕ) (a b c : List ℕ) → Pass n s a b → Falls n b s → c ≡ with_state s b → Pass n (s + 1) a c
pass_note n s a b c p f is = subst (Pass n (s + 1) a) (sym is) (at (cases_Bool (elem s b)))
  where
    pushed : elem s b ≡ false → Pass n (s + 1) a (b ++ s ∷ [])
    pushed e =
        let g = subst (λ xs. (k : ℕ) → elem k xs ≡ true → (elem k b ≡ true) ⊎ (s ≡ k)) (cond-false (elem s b) b (b ++ s ∷ []) e) (grown_with s b).only in
        record {
          right = λ h k m. elim (g k m) [ inl x ↦ p.right h k x | inr x ↦ subst (Nullable n) x (nullable_of_falls n b s (p.right h) f) ];
          longer = omega (arith, p.longer, length_push b s);
          same = λ x. absurd (more x);
          done = λ x. absurd (more x);
        }
      where
        more : length (b ++ s ∷ []) ≡ length a → ⊥
        more x = omega (arith, p.longer, length_push b s, x)

    at : (elem s b ≡ true) ⊎ (elem s b ≡ false) → Pass n (s + 1) a (with_state s b)
    at (inl e) = subst (Pass n (s + 1) a) (sym (cond-true (elem s b) b (b ++ s ∷ []) e)) (pass_skip n s a b p (λ _. e))
    at (inr e) = subst (Pass n (s + 1) a) (sym (cond-false (elem s b) b (b ++ s ∷ []) e)) (pushed e)

-- a list with nothing to add holds every nullable state
listed_of_nullable : {n : Net} {s : ℕ} (xs : List ℕ) → ((i : ℕ) → Falls n xs i → elem i xs ≡ true) → Nullable n s → elem s xs ≡ true
listed_of_nullable xs d (Nullable.stops e) = d _ (inl e)
listed_of_nullable {n} xs d (Nullable.along {t = t} e u) =
    d _ (inr (record { number = e.number; from = e.of.0; below = e.of.1; holds = ap (over_by xs (edge_at n e.number).target) e.moves ∙ subst (λ x. elem x xs ≡ true) (sym e.leads) (listed_of_nullable {s = t} xs d u) }))
listed_of_nullable {n} xs d (Nullable.over {t = t} {f = f} e u v) =
    d _ (inr (record { number = e.number; from = e.of.0; below = e.of.1; holds = ap (over_by xs (edge_at n e.number).target) e.moves ∙ and_from _ _ (subst (λ x. elem x xs ≡ true) (sym e.leads) (listed_of_nullable {s = t} xs d u)) (listed_of_nullable {s = f} xs d v) }))

-- the last pass added nothing
pub pass_end : (n : Net) (a b : List ℕ) → Pass n (size n) a b → length b ≡ length a → AllNullable n a → KnowsNullable n b
pass_end n a b p e h k = (p.right h k, λ u. subst (λ xs. elem k xs ≡ true) (sym (p.same e)) (listed_of_nullable a done u))
  where
    past : (i : ℕ) → size n ≤ i → Falls n a i → ⊥
    past i l (inl s) = both_ways false refl (subst (λ x. is_stop x.kind ≡ true) (get_or_past n.states i no_state l) s)
    past i l (inr v) = no_edges n i v.number l (v.from, v.below)

    at : (i : ℕ) → Falls n a i → (i < size n) ⊎ (size n ≤ i) → elem i a ≡ true
    at i f (inl l) = p.done e i l f
    at i f (inr l) = absurd (past i l f)

    done : (i : ℕ) → Falls n a i → elem i a ≡ true
    done i f = at i f (cases_lt i (size n))
