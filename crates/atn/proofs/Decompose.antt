-- A walk never looks below the top of its stack, so it is a way through the steps.
use Rattle.std.proofs.Common.{ℕ, ◌⊎◌, List, [], ◌∷◌, inl, inr}
use Rattle.atn_graph.specs.Net.{Net}
use Rattle.atn.specs.Walks.{Walk}
use Rattle.atn.specs.Reach.{Nullable, StepOver, ReachesOver}

-- k is reached from s, or from a state of the stack with all above it nullable
abbrev pub Visited : Net → ℕ → List ℕ → ℕ → Type 0
Visited n s [] k = ReachesOver (Nullable n) n s k
Visited n s (f ∷ p) k = ReachesOver (Nullable n) n s k ⊎ (Nullable n s × Visited n f p k)

visited_here : {n : Net} {s k : ℕ} (p : List ℕ) → ReachesOver (Nullable n) n s k → Visited n s p k
visited_here [] r = r
visited_here (f ∷ p) r = inl r

visited_by : {n : Net} {s t : ℕ} (k : ℕ) (p : List ℕ) → StepOver (Nullable n) n s t → (Nullable n t → Nullable n s) → Visited n t p k → Visited n s p k
visited_by k [] e up v = ReachesOver.more e v
visited_by k (f ∷ p) e up (inl r) = inl (ReachesOver.more e r)
visited_by k (f ∷ p) e up (inr v) = inr (up v.0, v.1)

pub visited_of_walk : {n : Net} {s k : ℕ} {p q : List ℕ} → Walk n s p k q → Visited n s p k
visited_of_walk {p = p} Walk.here = visited_here p ReachesOver.here
visited_of_walk {k = k} {p = p} (Walk.along e w) = visited_by k p (StepOver.along e) (Nullable.along e) (visited_of_walk w)
visited_of_walk {n} {s} {k} {p} (Walk.call {t} {f} e w) = through (visited_of_walk w)
  where
    through : Visited n t (f ∷ p) k → Visited n s p k
    through (inl r) = visited_here p (ReachesOver.more (StepOver.into e) r)
    through (inr v) = visited_by k p (StepOver.over e v.0) (Nullable.over e v.0) v.1
visited_of_walk (Walk.back e w) = inr (Nullable.stops e, visited_of_walk w)

-- and the ways through the steps are walks, on any stack
pub walk_over : {n : Net} {s f k : ℕ} {p q : List ℕ} → Nullable n s → Walk n f p k q → Walk n s (f ∷ p) k q
walk_over (Nullable.stops e) w = Walk.back e w
walk_over (Nullable.along e u) w = Walk.along e (walk_over u w)
walk_over (Nullable.over e u v) w = Walk.call e (walk_over u (walk_over v w))

pub walk_of_reaches : {n : Net} {s k : ℕ} → ReachesOver (Nullable n) n s k → (p : List ℕ) → (q : List ℕ) × Walk n s p k q
walk_of_reaches ReachesOver.here p = (p, Walk.here)
walk_of_reaches (ReachesOver.more (StepOver.along e) r) p = let w = walk_of_reaches r p in (w.0, Walk.along e w.1)
walk_of_reaches (ReachesOver.more (StepOver.into {f = f} e) r) p = let w = walk_of_reaches r (f ∷ p) in (w.0, Walk.call e w.1)
walk_of_reaches (ReachesOver.more (StepOver.over e u) r) p = let w = walk_of_reaches r p in (w.0, Walk.call e (walk_over u w.1))
