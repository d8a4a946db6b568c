-- Some of a state's edges.
use Rattle.std.proofs.Common.{◌≡◌, ℕ, zero, suc, ◌+◌, ◌<◌, ◌≤◌, Bool, true, false, Decides, ◌⊎◌, List, [], ◌∷◌, length, get_or, sym, refl, ap, ◌∙◌, subst, inl, inr, arith}
use Rattle.std.specs.List.{list_any}
use Rattle.std.proofs.lemmas.List.{get_or_past}
use Rattle.std.proofs.lemmas.Bool.{cases_eq, cases_lt, or_cases, or_left, or_right, both_ways}
use Rattle.atn_graph.specs.declared.graph.Graph.{Graph}
use Rattle.atn_graph.specs.declared.transition.Transition.{Transition}
use Rattle.atn_graph.specs.Net.{Net, net, size, Of, no_state, no_edge, state_at, edge_at, edges_of}
use Rattle.atn_graph.specs.declared.transition.Move.TheVariants.{Call}
use Rattle.atn_graph.specs.Kinds.{move_of}
use Rattle.atn_graph.proofs.Inside.{few_states, target_inside, follow_inside}
use Rattle.atn_graph.proofs.StateEdges.{edge_number, number_of, edge_place}
use Rattle.atn.specs.Among.{Among}

-- a run of edges, one edge longer
module _ {P : Transition → Type 0} (n : Net) (low : ℕ) where
  pub among_more : (j : ℕ) → low ≤ j → Among P n low j ⊎ P (edge_at n j) → Among P n low (j + 1)
  among_more j l (inl h) = record { number = h.number; from = h.from; below = omega (arith, h.below); holds = h.holds }
  among_more j l (inr h) = record { number = j; from = l; below = omega arith; holds = h }

  pub among_last : (j : ℕ) → Among P n low (j + 1) → Among P n low j ⊎ P (edge_at n j)
  among_last j h = at (cases_eq h.number j)
    where
      at : (h.number ≡ j) ⊎ (h.number ≡ j → ⊥) → Among P n low j ⊎ P (edge_at n j)
      at (inl e) = inr (subst (λ x. P (edge_at n x)) e h.holds)
      at (inr ne) = inl (record { number = h.number; from = h.from; below = omega (arith, h.below, ne); holds = h.holds })

-- past its states a net has no edges
pub no_edges : (n : Net) (s j : ℕ) → size n ≤ s → Of n s j → ⊥
no_edges n s j l of = let h : j < 0 = subst (λ x. j < x.end) (get_or_past n.states s no_state l) of.1 in omega arith

pub edge_state : (n : Net) (s j : ℕ) → Of n s j → s < size n
edge_state n s j of = at (cases_lt s (size n))
  where
    at : (s < size n) ⊎ (size n ≤ s) → s < size n
    at (inl l) = l
    at (inr l) = absurd (no_edges n s j l of)

-- what passes a test stands at a place, and what stands at a place and passes makes the test of the list true
pub any_place : {X : Type 0} (p : X → Bool) (d : X) (xs : List X) → list_any p xs ≡ true → (i : ℕ) × (i < length xs) × (p (get_or xs i d) ≡ true)
any_place p d [] h = absurd (both_ways false refl h)
any_place p d (x ∷ xs) h = at (λ t. any_place p d xs t) (or_cases (p x) (list_any p xs) h)
  where
    at : (list_any p xs ≡ true → (i : ℕ) × (i < length xs) × (p (get_or xs i d) ≡ true)) → (p x ≡ true) ⊎ (list_any p xs ≡ true) → (i : ℕ) × (i < length (x ∷ xs)) × (p (get_or (x ∷ xs) i d) ≡ true)
    at rest (inl t) = (0, omega arith, t)
    at rest (inr t) = let r = rest t in (suc r.0, omega (arith, r.1), r.2)

pub place_any : {X : Type 0} (p : X → Bool) (d : X) (xs : List X) (i : ℕ) → i < length xs → p (get_or xs i d) ≡ true → list_any p xs ≡ true
place_any p d [] i l h = absurd (omega arith)
place_any p d (x ∷ xs) zero l h = or_left (p x) (list_any p xs) h
place_any p d (x ∷ xs) (suc i) l h = or_right (p x) (list_any p xs) (place_any p d xs i (omega arith) h)

-- so a test of a state's edges tells whether one of them passes
pub any_edge : (g : Graph) (s : ℕ) (p : Transition → Bool) → Decides (list_any p (edges_of (net g.lists) s)) (Among (λ e. p e ≡ true) (net g.lists) (state_at (net g.lists) s).first (state_at (net g.lists) s).end)
any_edge g s p = (there, back)
  where
    there : list_any p (edges_of (net g.lists) s) ≡ true → Among (λ e. p e ≡ true) (net g.lists) (state_at (net g.lists) s).first (state_at (net g.lists) s).end
    there h =
        let a = any_place p no_edge (edges_of (net g.lists) s) h in
        let of = number_of g s a.0 a.1 in
        record { number = (state_at (net g.lists) s).first + a.0; from = of.0; below = of.1; holds = ap p (sym (edge_number g s a.0 a.1)) ∙ a.2 }

    back : Among (λ e. p e ≡ true) (net g.lists) (state_at (net g.lists) s).first (state_at (net g.lists) s).end → list_any p (edges_of (net g.lists) s) ≡ true
    back h =
        let a = edge_place g s h.number (h.from, h.below) in
        place_any p no_edge (edges_of (net g.lists) s) a.0 a.1 (ap p (edge_number g s a.0 a.1) ∙ ap (λ j. p (edge_at (net g.lists) j)) a.2 ∙ h.holds)

-- the edge at place i of a state's edges
module _ (g : Graph) (s : ℕ) (xs : List Transition) (are : xs ≡ edges_of (net g.lists) s) (i : ℕ) (l : i < length xs) where
  pub item_is : get_or xs i no_edge ≡ edge_at (net g.lists) ((state_at (net g.lists) s).first + i)
  item_is = ap (λ es. get_or es i no_edge) are ∙ edge_number g s i (omega (arith, ap length are))

  pub item_of : Of (net g.lists) s ((state_at (net g.lists) s).first + i)
  item_of = number_of g s i (omega (arith, ap length are))

  pub item_target : (get_or xs i no_edge).target < 512
  item_target = omega (arith, few_states g, ap (λ e. e.target) item_is, target_inside g s _ (edge_state (net g.lists) s _ item_of) item_of)

  pub item_follow : (f : ℕ) → move_of (get_or xs i no_edge).kind ≡ Call f → f < 512
  item_follow f calls = omega (arith, few_states g, follow_inside g s _ (edge_state (net g.lists) s _ item_of) item_of f (ap (λ e. move_of e.kind) (sym item_is) ∙ calls))
