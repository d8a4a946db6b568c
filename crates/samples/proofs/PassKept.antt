-- The rows of the pass net write it, and it keeps every rule.
use Rattle.std.proofs.Common.{◌≡◌, ℕ, ◌-◌, ◌<◌, true, [], pos, refl, arith, rules, slice_index_or}
use Rattle.atn_graph.specs.Tables.{Rows}
use Rattle.atn_graph.specs.Net.{size, rule_at, state_at, edge_at, end_before}
use Rattle.atn_graph.specs.Written.{WritesNet, WritesState, WritesEdge, rule_row, no_rule_row, no_state_row, no_edge_row}
use Rattle.atn_graph.specs.Rules.{IsSoundNet, RuleFits, PlaceFits, StateFits, edge_fits}
use Rattle.samples.specs.declared.rows.TheConstants.{RULES, STATES, EDGES}
use Rattle.samples.specs.Pass.{pass}
use Rattle.samples.proofs.Each.{Each, each}

abbrev pub pass_rows : Rows
pass_rows = record {
  max = pos 3;
  counts = record { rules = pos 2; states = pos 11; edges = pos 10; intervals = pos 0 };
  rules = RULES;
  states = STATES;
  edges = EDGES;
  intervals = [];
}

-- what each row writes, and that each row and each state of the net fits
abbrev RuleWritten : ℕ → Type 0
RuleWritten r = rule_row (rule_at pass r) ≡ slice_index_or pass_rows.rules r no_rule_row

abbrev StateWritten : ℕ → Type 0
StateWritten s = WritesState (slice_index_or pass_rows.states s no_state_row) (end_before pass.states s) (state_at pass s)

abbrev EdgeWritten : ℕ → Type 0
EdgeWritten j = WritesEdge (slice_index_or pass_rows.edges j no_edge_row) (edge_at pass j)

abbrev EdgeFits : ℕ → ℕ → Type 0
EdgeFits s j = edge_fits pass s (edge_at pass j) ≡ true

abbrev EdgesFit : ℕ → Type 0
EdgesFit s = Each (EdgeFits s) (state_at pass s).first ((state_at pass s).end - (state_at pass s).first)

rules_written : Each RuleWritten 0 2
rules_written = search rules

states_written : Each StateWritten 0 11
states_written = search rules

edges_written : Each EdgeWritten 0 10
edges_written = search rules

pub pass_written : WritesNet pass_rows pass
pass_written = record {
  max = refl;
  rule_count = refl;
  rules = λ r l. each RuleWritten 0 2 r rules_written (omega arith) (omega arith);
  state_count = refl;
  states = λ s l. each StateWritten 0 11 s states_written (omega arith) (omega arith);
  edge_count = refl;
  edges = λ j l. each EdgeWritten 0 10 j edges_written (omega arith) (omega arith);
  interval_count = refl;
  intervals = refl;
}

rules_fit : Each (RuleFits pass) 0 2
rules_fit = search rules

places_fit : Each (PlaceFits pass) 0 11
places_fit = search rules

edges_fit : Each EdgesFit 0 11
edges_fit = search rules

pub pass_sound : IsSoundNet pass
pass_sound = record { rules = λ r l. each (RuleFits pass) 0 2 r rules_fit (omega arith) (omega arith); states = states; used_up = refl }
  where
    states : (s : ℕ) → s < size pass → StateFits pass s
    states s l =
        let fit = each EdgesFit 0 11 s edges_fit (omega arith) (omega arith) in
        let first = (state_at pass s).first in
        record {
          place = each (PlaceFits pass) 0 11 s places_fit (omega arith) (omega arith);
          edges = λ j of. each (EdgeFits s) first ((state_at pass s).end - first) j fit of.0 (omega (arith, of));
        }
