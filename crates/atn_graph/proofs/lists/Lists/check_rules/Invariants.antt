use Rattle.std.proofs.Common.{◌≡◌, ℕ, ◌+◌, ◌-◌, ◌<◌, length, true, take, drop}
use Rattle.atn_graph.specs.Net.{net, size, state_at, edge_at}
use Rattle.atn_graph.specs.Rules.{RuleFits, StateFits, edge_fits}
use Rattle.atn_graph.proofs.lists.Lists.check_rules.Given as goal

abbrev pub invariant-loop-r : goal.invariant-loop-r
invariant-loop-r l = (l.rule-items ≡ (net l.self).rules) × ((k : ℕ) → k < l.r → RuleFits (net l.self) k)

abbrev pub invariant-loop-s : goal.invariant-loop-s
invariant-loop-s l = (l.state-items ≡ (net l.self).states) × ((state_at (net l.self) (size (net l.self) - 1)).end ≡ length (net l.self).edges) × ((k : ℕ) → k < l.s → StateFits (net l.self) k)

abbrev pub invariant-loop-edge : goal.invariant-loop-edge
invariant-loop-edge l = (l.state ≡ state_at (net l.self) l.s) × (l.edge-items ≡ take (l.state.end - l.state.first) (drop l.state.first (net l.self).edges)) × ((k : ℕ) → k < l.edge-index → edge_fits (net l.self) l.s (edge_at (net l.self) (l.state.first + k)) ≡ true)
