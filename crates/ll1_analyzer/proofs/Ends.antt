-- How walks end, by the states that are reached and by the nullable states.
use Rattle.std.proofs.Common.{◌≡◌, ℕ, ◌<◌, ◌≤◌, true, false, ◌⊎◌, List, [], ◌∷◌, ℤ, sym, refl, subst, inl, inr}
use Rattle.std.proofs.lemmas.List.{get_or_past}
use Rattle.std.proofs.lemmas.Bool.{both_ways, cases_lt}
use Rattle.atn_graph.specs.Kinds.{is_stop}
use Rattle.atn_graph.specs.Net.{Net, size, no_state}
use Rattle.atn.specs.Walks.{Stop, Walk}
use Rattle.atn.specs.Reach.{Nullable, ReachesOver}
use Rattle.atn.proofs.Some.{edge_state}
use Rattle.atn.proofs.Decompose.{walk_over, visited_of_walk, walk_of_reaches}
use Rattle.ll1_analyzer.specs.Sets.{EndsWith, EndsOnStop}
use Rattle.atn.specs.Labels.{TakesAt}

pub ends_of_reached : {n : Net} {s k : ℕ} (x : ℤ) → ReachesOver (Nullable n) n s k → TakesAt n k x → EndsWith n s [] x
ends_of_reached {k = k} x r t = let w = walk_of_reaches r [] in record { state = k; stack = w.0; walk = w.1; takes = t }

pub reached_of_ends : {n : Net} {s : ℕ} (x : ℤ) (e : EndsWith n s [] x) → ReachesOver (Nullable n) n s e.state
reached_of_ends x e = visited_of_walk e.walk

-- every state of the stack is nullable
abbrev pub AllNullable : Net → List ℕ → Type 0
AllNullable n [] = Unit {0}
AllNullable n (f ∷ p) = Nullable n f × AllNullable n p

-- a walk that leaves nothing on the stack and ends on a stop state passes over nullable states alone
pub nullables_of_walk : {n : Net} {s k : ℕ} {p q : List ℕ} → Walk n s p k q → q ≡ [] → Stop n k → Nullable n s × AllNullable n p
nullables_of_walk {n} {s} Walk.here e stop = (Nullable.stops stop, subst (AllNullable n) (sym e) tt)
nullables_of_walk (Walk.along e w) is stop = let u = nullables_of_walk w is stop in (Nullable.along e u.0, u.1)
nullables_of_walk (Walk.call e w) is stop = let u = nullables_of_walk w is stop in (Nullable.over e u.0 u.1.0, u.1.1)
nullables_of_walk (Walk.back e w) is stop = let u = nullables_of_walk w is stop in (Nullable.stops e, u)

pub nullable_of_stop : {n : Net} {s : ℕ} → EndsOnStop n s [] → Nullable n s
nullable_of_stop e = (nullables_of_walk e.walk refl e.stop).0

pub stop_of_nullable : {n : Net} {s : ℕ} → Nullable n s → (p : List ℕ) → (k : ℕ) × Walk n s p k p × Stop n k
stop_of_nullable {s = s} (Nullable.stops e) p = (s, Walk.here, e)
stop_of_nullable (Nullable.along e u) p = let w = stop_of_nullable u p in (w.0, Walk.along e w.1, w.2)
stop_of_nullable (Nullable.over e u v) p = let w = stop_of_nullable v p in (w.0, Walk.call e (walk_over u w.1), w.2)

-- a state from which a walk goes anywhere is a state of the net
pub takes_inside : {n : Net} {s k : ℕ} {p q : List ℕ} (x : ℤ) → Walk n s p k q → p ≡ [] → TakesAt n k x → s < size n
takes_inside {n} {s} x Walk.here is t = edge_state n s t.edge t.of
takes_inside {n} {s} x (Walk.along e w) is t = edge_state n s e.number e.of
takes_inside {n} {s} x (Walk.call e w) is t = edge_state n s e.number e.of
takes_inside x (Walk.back e w) is t = cc

pub nullable_inside : {n : Net} {s : ℕ} → Nullable n s → s < size n
nullable_inside {n} {s} (Nullable.stops e) = at (cases_lt s (size n))
  where
    at : (s < size n) ⊎ (size n ≤ s) → s < size n
    at (inl l) = l
    at (inr l) = absurd (both_ways false refl (subst (λ x. is_stop x.kind ≡ true) (get_or_past n.states s no_state l) e))
nullable_inside {n} {s} (Nullable.along e u) = edge_state n s e.number e.of
nullable_inside {n} {s} (Nullable.over e u v) = edge_state n s e.number e.of
