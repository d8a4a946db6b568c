-- Left recursion is a call of the start state at a state that it reaches.
use Rattle.std.proofs.Common.{◌≡◌, ℕ, ◌<◌, ◌≤◌, true, false, Decides, ◌⊎◌, List, [], get_or, sym, refl, ap, ◌∙◌, inl, inr}
use Rattle.std.specs.List.{list_any}
use Rattle.std.proofs.lemmas.Bool.{cases_lt, eq-eqb, eqb-true, both_ways}
use Rattle.atn_graph.specs.declared.graph.Graph.{Graph}
use Rattle.atn_graph.specs.declared.transition.Move.{Move}
use Rattle.atn_graph.specs.declared.transition.Move.TheVariants.{Along, Call, Token}
use Rattle.atn_graph.specs.Kinds.{move_of}
use Rattle.atn_graph.specs.Net.{Net, net, size, state_at, edge_at}
use Rattle.atn.specs.Walks.{HasEdge, Walk, LeftRecursiveFrom}
use Rattle.atn.specs.Reach.{Nullable, Listed, KnowsNullable, KnowsReachedOver}
use Rattle.atn.specs.Among.{Among}
use Rattle.atn.specs.Calls.{calls_by, is_call, calls}
use Rattle.atn.proofs.Growth.{elem_at, place_of}
use Rattle.atn.proofs.Some.{no_edges, any_place, place_any, any_edge}
use Rattle.atn.proofs.Over.{knows_over}
use Rattle.atn.proofs.Decompose.{visited_of_walk, walk_of_reaches}

-- s has a rule edge to t
abbrev Calls : Net → ℕ → ℕ → Type 0
Calls n s t = Among (λ e. is_call t e ≡ true) n (state_at n s).first (state_at n s).end

edge_of_calls : (n : Net) (s t : ℕ) → Calls n s t → (f : ℕ) × HasEdge n s t (Call f)
edge_of_calls n s t h = at (move_of (edge_at n h.number).kind) refl h.holds
  where
    at : (m : Move) → move_of (edge_at n h.number).kind ≡ m → calls_by t (edge_at n h.number).target m ≡ true → (f : ℕ) × HasEdge n s t (Call f)
    at Along is c = absurd (both_ways false refl c)
    at (Call f) is c = (f, record { number = h.number; of = (h.from, h.below); leads = eqb-true _ t c; moves = is })
    at Token is c = absurd (both_ways false refl c)

calls_of_edge : (n : Net) (s t f : ℕ) → HasEdge n s t (Call f) → Calls n s t
calls_of_edge n s t f e = record {
  number = e.number;
  from = e.of.0;
  below = e.of.1;
  holds = ap (calls_by t (edge_at n e.number).target) e.moves ∙ eq-eqb (edge_at n e.number).target t e.leads;
}

-- past its states a net has no walks
none_outside : (n : Net) (s : ℕ) → size n ≤ s → LeftRecursiveFrom n s → ⊥
none_outside n s l r = at r.walk r.calls
  where
    at : {k : ℕ} {q : List ℕ} → Walk n s [] k q → HasEdge n k s (Call r.follow) → ⊥
    at Walk.here e = no_edges n s e.number l e.of
    at (Walk.along e w) _ = no_edges n s e.number l e.of
    at (Walk.call e w) _ = no_edges n s e.number l e.of

-- A rule is left-recursive if a state that its start state reaches calls the start state.
module _ (g : Graph) (s : ℕ) (nullables xs : List ℕ) (known : KnowsNullable (net g.lists) nullables) where
  found_recursive : KnowsReachedOver (Nullable (net g.lists)) (net g.lists) s xs → Decides (list_any (λ k. calls (net g.lists) k s) xs) (LeftRecursiveFrom (net g.lists) s)
  found_recursive reached = (there, back)
    where
      there : list_any (λ k. calls (net g.lists) k s) xs ≡ true → LeftRecursiveFrom (net g.lists) s
      there h =
          let n = net g.lists in
          let p = any_place (λ k. calls n k s) 0 xs h in
          let k = get_or xs p.0 0 in
          let w = walk_of_reaches ((reached k).0 (elem_at xs p.0 p.1)) [] in
          let e = edge_of_calls n k s ((any_edge g k (is_call s)).0 p.2) in
          record { state = k; stack = w.0; follow = e.0; walk = w.1; calls = e.1 }

      back : LeftRecursiveFrom (net g.lists) s → list_any (λ k. calls (net g.lists) k s) xs ≡ true
      back r =
          let n = net g.lists in
          let p = place_of r.state xs ((reached r.state).1 (visited_of_walk r.walk)) in
          let c = (any_edge g r.state (is_call s)).1 (calls_of_edge n r.state s r.follow r.calls) in
          place_any (λ k. calls n k s) 0 xs p.0 p.1 (ap (λ k. calls n k s) p.2 ∙ c)

  pub decides_recursive : (s < size (net g.lists) → KnowsReachedOver (Listed nullables) (net g.lists) s xs) → (size (net g.lists) ≤ s → xs ≡ []) → Decides (list_any (λ k. calls (net g.lists) k s) xs) (LeftRecursiveFrom (net g.lists) s)
  decides_recursive inside outside = at (cases_lt s (size (net g.lists)))
    where
      at : (s < size (net g.lists)) ⊎ (size (net g.lists) ≤ s) → Decides (list_any (λ k. calls (net g.lists) k s) xs) (LeftRecursiveFrom (net g.lists) s)
      at (inl l) = found_recursive (knows_over (net g.lists) s xs nullables known (inside l))
      at (inr l) = (
        λ h. absurd (both_ways false refl (sym (ap (list_any (λ k. calls (net g.lists) k s)) (outside l)) ∙ h)),
        λ r. absurd (none_outside (net g.lists) s l r),
      )
