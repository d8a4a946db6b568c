-- A search that visits each state found, in the order of finding.
use Rattle.std.proofs.Common.{◌≡◌, ℕ, ◌+◌, ◌<◌, ◌≤◌, true, false, ◌⊎◌, List, [], length, get_or, sym, refl, ap, ◌∙◌, subst, inl, inr, arith}
use Rattle.std.proofs.lemmas.Bool.{cases_eq, both_ways}
use Rattle.atn_graph.specs.declared.graph.Graph.{Graph}
use Rattle.atn_graph.specs.Net.{Net, net, size}
use Rattle.atn.specs.Marks.{elem, Grown}
use Rattle.atn.specs.Found.{with_state}
use Rattle.atn.specs.Reach.{StepOver, ReachesOver, KnowsReachedOver}
use Rattle.atn.proofs.Growth.{grown_with, elem_at, place_of}
use Rattle.atn.proofs.Steps.{step_inside}

-- The states found are reached from s, and those before place next have been visited.
pub record Search (N : ℕ → Type 0) (g : Graph) (s next : ℕ) (xs : List ℕ) : Type 0 where
  pub start : elem s xs ≡ true
  pub reached : (k : ℕ) → elem k xs ≡ true → ReachesOver N (net g.lists) s k
  pub inside : (k : ℕ) → elem k xs ≡ true → k < size (net g.lists)
  pub visited : (i k : ℕ) → i < next → i < length xs → StepOver N (net g.lists) (get_or xs i 0) k → elem k xs ≡ true

reaches_then : {N : ℕ → Type 0} {n : Net} {i s k : ℕ} → ReachesOver N n i s → StepOver N n s k → ReachesOver N n i k
reaches_then ReachesOver.here e = ReachesOver.more e ReachesOver.here
reaches_then (ReachesOver.more d r) e = ReachesOver.more d (reaches_then r e)

pub search_start : (N : ℕ → Type 0) (g : Graph) (s : ℕ) (xs ys : List ℕ) → xs ≡ [] → ys ≡ with_state s xs → s < size (net g.lists) → Search N g s 0 ys
search_start N g s xs ys x y l = record {
  start = gr.marks s refl;
  reached = λ k h. subst (ReachesOver N (net g.lists) s) (at k h) ReachesOver.here;
  inside = λ k h. subst (λ i. i < size (net g.lists)) (at k h) l;
  visited = λ i k b. absurd (omega arith);
}
  where
    gr : Grown (λ k. s ≡ k) [] ys
    gr = subst (λ b. Grown (λ k. s ≡ k) [] b) (sym (y ∙ ap (with_state s) x)) (grown_with s [])

    at : (k : ℕ) → elem k ys ≡ true → s ≡ k
    at k h = elim (gr.only k h) [ inl e ↦ absurd (both_ways false refl e) | inr e ↦ e ]

pub search_more : (N : ℕ → Type 0) (g : Graph) (s next : ℕ) (a b : List ℕ) → next < length a → Search N g s next a → Grown (StepOver N (net g.lists) (get_or a next 0)) a b → Search N g s (next + 1) b
search_more N g s next a b l w gr = record {
  start = gr.keeps s w.start;
  reached = λ k h. elim (gr.only k h) [ inl m ↦ w.reached k m | inr e ↦ reaches_then (w.reached (get_or a next 0) (elem_at a next l)) e ];
  inside = λ k h. elim (gr.only k h) [ inl m ↦ w.inside k m | inr e ↦ step_inside N g (get_or a next 0) k e ];
  visited = λ i k h m e. at i k h e (cases_eq i next);
}
  where
    at : (i k : ℕ) → i < next + 1 → StepOver N (net g.lists) (get_or b i 0) k → (i ≡ next) ⊎ (i ≡ next → ⊥) → elem k b ≡ true
    at i k h e (inl is) = gr.marks k (subst (λ x. StepOver N (net g.lists) x k) (ap (λ x. get_or b x 0) is ∙ gr.front next l) e)
    at i k h e (inr ne) =
        let before : i < next = omega arith in
        let inside : i < length a = omega arith in
        gr.keeps k (w.visited i k before inside (subst (λ x. StepOver N (net g.lists) x k) (gr.front i inside) e))

-- all have been visited, so nothing more is reached
pub search_end : (N : ℕ → Type 0) (g : Graph) (s next : ℕ) (xs : List ℕ) → length xs ≤ next → Search N g s next xs → KnowsReachedOver N (net g.lists) s xs
search_end N g s next xs l w k = (w.reached k, closed w.start)
  where
    stepped : (i j : ℕ) → elem i xs ≡ true → StepOver N (net g.lists) i j → elem j xs ≡ true
    stepped i j m e = let p = place_of i xs m in w.visited p.0 j (omega (arith, p.1)) p.1 (subst (λ x. StepOver N (net g.lists) x j) (sym p.2) e)

    closed : {i j : ℕ} → elem i xs ≡ true → ReachesOver N (net g.lists) i j → elem j xs ≡ true
    closed m ReachesOver.here = m
    closed m (ReachesOver.more {t = t} e r) = closed {i = t} (stepped _ t m e) r
