-- A net as plain lists: its rules, states, edges and intervals, each numbered from 0.
use Rattle.std.specs.Prelude.{◌≡◌, ℕ, zero, suc, ◌<◌, ◌≤◌, List, length, get_or, ℤ, slice_index_or, slice_range}
use Rattle.fixed_vec.specs.Items.{items}
use Rattle.interval_set.specs.declared.interval.Interval.{Interval}
use Rattle.atn_graph.specs.declared.atn_state.StateKind.TheVariants.{Basic}
use Rattle.atn_graph.specs.declared.atn_state.AtnState.{AtnState}
use Rattle.atn_graph.specs.declared.transition.Transition.{Transition}
use Rattle.atn_graph.specs.declared.transition.TransitionKind.TheVariants.{Epsilon}
use Rattle.atn_graph.specs.declared.lists.Rule.{Rule}
use Rattle.atn_graph.specs.declared.lists.Lists.{Lists}

pub record Net : Type 0 where
  pub max : ℤ
  pub rules : List Rule
  pub states : List AtnState
  pub edges : List Transition
  pub intervals : List Interval

-- what stands past the ends of the lists
abbrev pub no_rule : Rule
no_rule = record { start = 0; stop = 0 }

abbrev pub no_state : AtnState
no_state = record { rule = 0; kind = Basic; first = 0; end = 0 }

abbrev pub no_edge : Transition
no_edge = record { target = 0; kind = Epsilon }

abbrev pub rule_at : Net → ℕ → Rule
rule_at n r = slice_index_or n.rules r no_rule

abbrev pub state_at : Net → ℕ → AtnState
state_at n s = slice_index_or n.states s no_state

abbrev pub edge_at : Net → ℕ → Transition
edge_at n j = slice_index_or n.edges j no_edge

abbrev pub size : Net → ℕ
size n = length n.states

-- edge number j is one of the state's
abbrev pub Of : Net → ℕ → ℕ → Type 0
Of n s j = ((state_at n s).first ≤ j) × (j < (state_at n s).end)

-- the edges of state s, none past the last state
abbrev pub edges_of : Net → ℕ → List Transition
edges_of n s = slice_range n.edges (state_at n s).first (state_at n s).end

-- where the edges of the states before number s end
abbrev pub end_before : List AtnState → ℕ → ℕ
end_before ss zero = 0
end_before ss (suc s) = (get_or ss s no_state).end

-- the edges of each state begin where those before it end
abbrev pub Runs : Net → Type 0
Runs n = (s : ℕ) → s < size n
    → ((state_at n s).first ≡ end_before n.states s) × ((state_at n s).first ≤ (state_at n s).end)

-- the net in its tables
abbrev pub net : Lists → Net
net l = record {
  max = l.max_token_type;
  rules = items l.rules;
  states = items l.states;
  edges = items l.edges;
  intervals = items l.intervals;
}
