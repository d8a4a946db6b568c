-- The rules are propositions, so what a checked graph carries can be taken out.
use mathlib.Core.Bool.{Bool-set}
use mathlib.Core.Logic.{∥∥₁_elim}
use Rattle.std.proofs.Common.{ℕ}
use native.Mathlib.Bridge.{le_prop}
use native.Mathlib.Nat.{ℕ_set}
use Rattle.atn_graph.specs.declared.graph.Graph.{Graph}
use Rattle.atn_graph.specs.Net.{Net, net, Runs}
use Rattle.atn_graph.specs.Rules.{RuleFits, PlaceFits, StateFits, IsSoundNet}

rule_prop : (n : Net) (r : ℕ) → IsProp (RuleFits n r)
rule_prop n r a b i = record { start = Bool-set _ _ a.start b.start i; stop = Bool-set _ _ a.stop b.stop i }

place_prop : (n : Net) (s : ℕ) → IsProp (PlaceFits n s)
place_prop n s a b i = record {
  rule = le_prop a.rule b.rule i;
  start = Bool-set _ _ a.start b.start i;
  stop = Bool-set _ _ a.stop b.stop i;
  stops = Bool-set _ _ a.stops b.stops i;
}

state_prop : (n : Net) (s : ℕ) → IsProp (StateFits n s)
state_prop n s a b i = record { place = place_prop n s a.place b.place i; edges = λ j of. Bool-set _ _ (a.edges j of) (b.edges j of) i }

sound_prop : (n : Net) → IsProp (IsSoundNet n)
sound_prop n a b i = record {
  rules = λ r l. rule_prop n r (a.rules r l) (b.rules r l) i;
  states = λ s l. state_prop n s (a.states s l) (b.states s l) i;
  used_up = ℕ_set _ _ a.used_up b.used_up i;
}

runs_prop : (n : Net) → IsProp (Runs n)
runs_prop n a b i = λ s l. (ℕ_set _ _ (a s l).0 (b s l).0 i, le_prop (a s l).1 (b s l).1 i)

pub sound_of : (g : Graph) → IsSoundNet (net g.lists)
sound_of g = ∥∥₁_elim g.sound (sound_prop (net g.lists)) (λ w. w)

pub runs_of : (g : Graph) → Runs (net g.lists)
runs_of g = ∥∥₁_elim g.runs (runs_prop (net g.lists)) (λ w. w)
