-- A step is what one of the state's edges leads to.
use Rattle.std.proofs.Common.{◌≡◌, ℕ, ◌<◌, sym, refl, subst, inl, inr}
use Rattle.atn_graph.specs.declared.graph.Graph.{Graph}
use Rattle.atn_graph.specs.declared.transition.Move.{Move}
use Rattle.atn_graph.specs.declared.transition.Move.TheVariants.{Along, Call, Token}
use Rattle.atn_graph.specs.Kinds.{move_of}
use Rattle.atn_graph.specs.Net.{Net, net, size, Of, state_at, edge_at}
use Rattle.atn_graph.proofs.Inside.{target_inside, follow_inside}
use Rattle.atn.proofs.Some.{edge_state}
use Rattle.atn.specs.Among.{Among}
use Rattle.atn.specs.Reach.{StepOver, ReachesOver, LeadsByOver, LeadsOver}

-- one of the edges from number low up to number high leads to k
abbrev pub LeadsAmongOver : (ℕ → Type 0) → Net → ℕ → ℕ → ℕ → Type 0
LeadsAmongOver N n low high k = Among (λ e. LeadsOver N e k) n low high

module _ (N : ℕ → Type 0) (n : Net) (s k : ℕ) where
  among_all : (j : ℕ) → Of n s j → (m : Move) → move_of (edge_at n j).kind ≡ m → LeadsByOver N (edge_at n j).target m k → LeadsAmongOver N n (state_at n s).first (state_at n s).end k
  among_all j of m is l = record { number = j; from = of.0; below = of.1; holds = subst (λ x. LeadsByOver N (edge_at n j).target x k) (sym is) l }

pub step_leads : (N : ℕ → Type 0) (n : Net) (s k : ℕ) → StepOver N n s k → LeadsAmongOver N n (state_at n s).first (state_at n s).end k
step_leads N n s k (StepOver.along e) = among_all N n s k e.number e.of Along e.moves e.leads
step_leads N n s k (StepOver.into {f = f} e) = among_all N n s k e.number e.of (Call f) e.moves (inl e.leads)
step_leads N n s k (StepOver.over e u) = among_all N n s k e.number e.of (Call k) e.moves (inr (subst N (sym e.leads) u, refl))

pub leads_step : (N : ℕ → Type 0) (n : Net) (s k : ℕ) → LeadsAmongOver N n (state_at n s).first (state_at n s).end k → StepOver N n s k
leads_step N n s k h = at (move_of (edge_at n h.number).kind) refl h.holds
  where
    at : (m : Move) → move_of (edge_at n h.number).kind ≡ m → LeadsByOver N (edge_at n h.number).target m k → StepOver N n s k
    at Along is l = StepOver.along (record { number = h.number; of = (h.from, h.below); leads = l; moves = is })
    at (Call f) is (inl l) = StepOver.into {f = f} (record { number = h.number; of = (h.from, h.below); leads = l; moves = is })
    at (Call f) is (inr l) = subst (StepOver N n s) l.1 (StepOver.over (record { number = h.number; of = (h.from, h.below); leads = refl; moves = is }) l.0)
    at Token is none = absurd none

-- a step from a state of the net leads to a state of the net
pub step_inside : (N : ℕ → Type 0) (g : Graph) (s k : ℕ) → StepOver N (net g.lists) s k → k < size (net g.lists)
step_inside N g s k (StepOver.along e) = subst (λ x. x < size (net g.lists)) e.leads (target_inside g s e.number (edge_state (net g.lists) s e.number e.of) e.of)
step_inside N g s k (StepOver.into e) = subst (λ x. x < size (net g.lists)) e.leads (target_inside g s e.number (edge_state (net g.lists) s e.number e.of) e.of)
step_inside N g s k (StepOver.over e u) = follow_inside g s e.number (edge_state (net g.lists) s e.number e.of) e.of k e.moves

-- what a state of the net reaches is a state of the net
pub reaches_inside : (N : ℕ → Type 0) (g : Graph) {s k : ℕ} → s < size (net g.lists) → ReachesOver N (net g.lists) s k → k < size (net g.lists)
reaches_inside N g l ReachesOver.here = l
reaches_inside N g l (ReachesOver.more {s} {t} e r) = reaches_inside N g {s = t} (step_inside N g s t e) r
