-- The edges of a state, one by one.
use Rattle.std.proofs.Common.{◌≡◌, ℕ, ◌+◌, ◌-◌, ◌<◌, ◌≤◌, ◌⊎◌, length, get_or, drop, ap, ◌∙◌, inl, inr, arith}
use Rattle.std.proofs.lemmas.List.{get_or_past, get_or-take, get_or-drop, length-drop, length-take-le}
use Rattle.std.proofs.lemmas.Bool.{cases_lt}
use Rattle.atn_graph.specs.declared.graph.Graph.{Graph}
use Rattle.atn_graph.specs.Net.{net, size, Of, no_state, no_edge, state_at, edge_at, edges_of}
use Rattle.atn_graph.proofs.Soundness.{runs_of}
use Rattle.atn_graph.proofs.Inside.{end_inside}

module _ (g : Graph) (s : ℕ) where
  -- the run of a state's edges ends within the edges, also past the last state
  pub end_within : (state_at (net g.lists) s).end ≤ length (net g.lists).edges
  end_within = at (cases_lt s (size (net g.lists)))
    where
      at : (s < size (net g.lists)) ⊎ (size (net g.lists) ≤ s) → (state_at (net g.lists) s).end ≤ length (net g.lists).edges
      at (inl l) = end_inside g s l
      at (inr l) = omega (arith, ap (λ x. x.end) (get_or_past (net g.lists).states s no_state l))

  pub run_rises : (state_at (net g.lists) s).first ≤ (state_at (net g.lists) s).end
  run_rises = at (cases_lt s (size (net g.lists)))
    where
      at : (s < size (net g.lists)) ⊎ (size (net g.lists) ≤ s) → (state_at (net g.lists) s).first ≤ (state_at (net g.lists) s).end
      at (inl l) = (runs_of g s l).1
      at (inr l) = let past = get_or_past (net g.lists).states s no_state l in omega (arith, ap (λ x. x.first) past, ap (λ x. x.end) past)

  pub edges_length : length (edges_of (net g.lists) s) ≡ (state_at (net g.lists) s).end - (state_at (net g.lists) s).first
  edges_length =
      let n = net g.lists in
      let x = state_at n s in
      length-take-le (x.end - x.first) (drop x.first n.edges) (omega (arith, end_within, length-drop x.first n.edges))

  -- the edge at place i is edge number first + i, which is one of the state's
  pub edge_number : (i : ℕ) → i < length (edges_of (net g.lists) s) → get_or (edges_of (net g.lists) s) i no_edge ≡ edge_at (net g.lists) ((state_at (net g.lists) s).first + i)
  edge_number i l =
      let n = net g.lists in
      let x = state_at n s in
      get_or-take (x.end - x.first) (drop x.first n.edges) i no_edge (omega (arith, edges_length, l)) ∙ get_or-drop x.first n.edges i no_edge

  pub number_of : (i : ℕ) → i < length (edges_of (net g.lists) s) → Of (net g.lists) s ((state_at (net g.lists) s).first + i)
  number_of i l = (omega arith, omega (arith, edges_length, l))

  -- and each of its edges stands at a place
  pub edge_place : (j : ℕ) → Of (net g.lists) s j → (i : ℕ) × (i < length (edges_of (net g.lists) s)) × ((state_at (net g.lists) s).first + i ≡ j)
  edge_place j of = (j - (state_at (net g.lists) s).first, omega (arith, edges_length, of.0, of.1), omega (arith, of.0))
