-- The list net keeps every rule of nets.
use Rattle.std.proofs.Common.{◌≡◌, ℕ, zero, suc, ◌-◌, ◌<◌, ◌≤◌, true, ◌⊎◌, List, [], refl, ap, subst, inl, inr, arith, rules}
use Rattle.std.proofs.lemmas.List.{get_or_past}
use Rattle.std.proofs.lemmas.Bool.{cases_lt}
use Rattle.atn_graph.specs.declared.transition.Move.TheVariants.{Call}
use Rattle.atn_graph.specs.Kinds.{move_of}
use Rattle.atn_graph.specs.Net.{Of, no_state, size, state_at, edge_at}
use Rattle.atn_graph.specs.Rules.{IsSoundNet, RuleFits, PlaceFits, StateFits, edge_fits}
use Rattle.atn.specs.Walks.{HasEdge, Walk, LeftRecursive, HasLeftRecursion}
use Rattle.samples.proofs.Each.{Each, each}
use Rattle.recovery_samples.specs.ListNet.{list_net}

abbrev EdgeFits : ℕ → ℕ → Type 0
EdgeFits s j = edge_fits list_net s (edge_at list_net j) ≡ true

abbrev EdgesFit : ℕ → Type 0
EdgesFit s = Each (EdgeFits s) (state_at list_net s).first ((state_at list_net s).end - (state_at list_net s).first)

rules_fit : Each (RuleFits list_net) 0 2
rules_fit = search rules

places_fit : Each (PlaceFits list_net) 0 9
places_fit = search rules

edges_fit : Each EdgesFit 0 9
edges_fit = search rules

pub list_sound : IsSoundNet list_net
list_sound = record { rules = λ r l. each (RuleFits list_net) 0 2 r rules_fit (omega arith) (omega arith); states = states; used_up = refl }
  where
    states : (s : ℕ) → s < size list_net → StateFits list_net s
    states s l =
        let fit = each EdgesFit 0 9 s edges_fit (omega arith) (omega arith) in
        let first = (state_at list_net s).first in
        record {
          place = each (PlaceFits list_net) 0 9 s places_fit (omega arith) (omega arith);
          edges = λ j of. each (EdgeFits s) first ((state_at list_net s).end - first) j fit of.0 (omega (arith, of));
        }

-- One edge alone makes a call, that of state 1.
only_call : (j f : ℕ) → move_of (edge_at list_net j).kind ≡ Call f → j ≡ 1
only_call zero f e = cc
only_call (suc zero) f e = refl
only_call (suc (suc zero)) f e = cc
only_call (suc (suc (suc zero))) f e = cc
only_call (suc (suc (suc (suc zero)))) f e = cc
only_call (suc (suc (suc (suc (suc zero))))) f e = cc
only_call (suc (suc (suc (suc (suc (suc zero)))))) f e = cc
only_call (suc (suc (suc (suc (suc (suc (suc zero))))))) f e = cc
only_call (suc (suc (suc (suc (suc (suc (suc (suc j)))))))) f e = cc

-- the edges of rule 1, which lead to states of rule 1
abbrev Late : ℕ → Type 0
Late s = (3 ≤ (state_at list_net s).first) × ((state_at list_net s).end ≤ 8)

late_listed : Each Late 4 5
late_listed = search rules

late : (s j : ℕ) → 4 ≤ s → Of list_net s j → (3 ≤ j) × (j < 8)
late s j l of = at (cases_lt s 9)
  where
    at : (s < 9) ⊎ (9 ≤ s) → (3 ≤ j) × (j < 8)
    at (inl m) = let h = each Late 4 5 s late_listed l m in (omega (arith, h, of), omega (arith, h, of))
    at (inr m) =
        let is : state_at list_net s ≡ no_state = get_or_past list_net.states s no_state m in
        absurd (omega (arith, of, ap (λ k. k.first) is, ap (λ k. k.end) is))

abbrev Inside : ℕ → Type 0
Inside j = 4 ≤ (edge_at list_net j).target

inside_listed : Each Inside 3 5
inside_listed = search rules

-- A walk with nothing on the stack stays in rule 1.
stays : {s k : ℕ} {p q : List ℕ} → Walk list_net s p k q → p ≡ [] → 4 ≤ s → 4 ≤ k
stays Walk.here is l = l
stays {s} (Walk.along e w) is l =
    let h = late s e.number l e.of in
    stays w is (omega (arith, e.leads, each Inside 3 5 e.number inside_listed h.0 h.1))
stays {s} (Walk.call {f = f} e w) is l = let h = late s e.number l e.of in absurd (omega (arith, h, only_call e.number f e.moves))
stays (Walk.back e w) is l = cc

pub not_left_recursive : HasLeftRecursion list_net → ⊥
not_left_recursive r = at r.rule r.inside r.recursive
  where
    called : {s t : ℕ} (f : ℕ) (e : HasEdge list_net s t (Call f)) → (edge_at list_net 1).target ≡ t
    called f e = subst (λ j. (edge_at list_net j).target ≡ _) (only_call e.number f e.moves) e.leads

    at : (k : ℕ) → k < 2 → LeftRecursive list_net k → ⊥
    at zero l c = omega (arith, called c.follow c.calls)
    at (suc zero) l c =
        let far : 4 ≤ c.state = stays c.walk refl (omega arith) in
        let h = late c.state c.calls.number far c.calls.of in
        omega (arith, h, only_call c.calls.number c.follow c.calls.moves)
    at (suc (suc k)) l c = omega (arith, l)
