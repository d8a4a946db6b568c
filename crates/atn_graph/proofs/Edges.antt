-- The edges of a state, as the part of all edges that they are.
use Rattle.std.proofs.Common.{◌≡◌, ℕ, ◌+◌, ◌-◌, ◌<◌, ◌≤◌, Bool, true, List, length, get_or, take, drop, sym, ap, ◌∙◌, subst, arith}
use Rattle.std.proofs.lemmas.List.{get_or-take, get_or-drop, length-take, length-take-le, length-drop}
use Rattle.atn_graph.specs.declared.atn_state.AtnState.{AtnState}
use Rattle.atn_graph.specs.declared.transition.Transition.{Transition}
use Rattle.atn_graph.specs.Net.{Net, Of, no_edge, state_at, edge_at}
use Rattle.atn_graph.specs.Rules.{kind_fits, edge_fits}

module _ (n : Net) (s : ℕ) (state : AtnState) (xs : List Transition) (same : state ≡ state_at n s) (part : xs ≡ take (state.end - state.first) (drop state.first n.edges)) where
  pub of_place : (k : ℕ) → k < length xs → Of n s (state.first + k)
  of_place k l =
      let first : state.first ≡ (state_at n s).first = ap (λ x. x.first) same in
      let end : state.end ≡ (state_at n s).end = ap (λ x. x.end) same in
      let few = ap length part in
      let m = length-take (state.end - state.first) (drop state.first n.edges) in
      (omega (arith, first), omega (arith, first, end, few, m))

  pub fit_place : (k : ℕ) (b : Bool) → k < length xs → b ≡ kind_fits n state (get_or xs k no_edge).target (get_or xs k no_edge).kind → edge_fits n s (edge_at n (state.first + k)) ≡ b
  fit_place k b l e =
      let few = ap length part in
      let m = length-take (state.end - state.first) (drop state.first n.edges) in
      let item = ap (λ ys. get_or ys k no_edge) part ∙ get_or-take (state.end - state.first) (drop state.first n.edges) k no_edge (omega (arith, few, m)) ∙ get_or-drop state.first n.edges k no_edge in
      subst (λ x. kind_fits n x (edge_at n (state.first + k)).target (edge_at n (state.first + k)).kind ≡ b) same
      (subst (λ x. kind_fits n state x.target x.kind ≡ b) item (sym e))

  pub all_places : state.end ≤ length n.edges → ((k : ℕ) → k < length xs → edge_fits n s (edge_at n (state.first + k)) ≡ true) → (j : ℕ) → Of n s j → edge_fits n s (edge_at n j) ≡ true
  all_places inside each j of =
      let first : state.first ≡ (state_at n s).first = ap (λ x. x.first) same in
      let end : state.end ≡ (state_at n s).end = ap (λ x. x.end) same in
      let few = ap length part in
      let m = length-take-le (state.end - state.first) (drop state.first n.edges) (simp length-drop (omega (arith, inside))) in
      let at : state.first + (j - state.first) ≡ j = omega (arith, of.0, first) in
      subst (λ x. edge_fits n s (edge_at n x) ≡ true) at (each (j - state.first) (omega (arith, of.0, of.1, first, end, few, m)))
