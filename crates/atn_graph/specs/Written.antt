-- Which net the tables write down, number for number.
use Rattle.std.specs.Prelude.{◌≡◌, ℕ, ◌-◌, ◌<◌, ◌≤◌, length, take, pos, slice_index_or}
use Rattle.atn_graph.specs.declared.tables.RuleRow.{RuleRow}
use Rattle.atn_graph.specs.declared.tables.StateRow.{StateRow}
use Rattle.atn_graph.specs.declared.tables.EdgeRow.{EdgeRow}
use Rattle.atn_graph.specs.declared.atn_state.AtnState.{AtnState}
use Rattle.atn_graph.specs.declared.transition.Transition.{Transition}
use Rattle.atn_graph.specs.declared.transition.TransitionKind.{TransitionKind}
use Rattle.atn_graph.specs.declared.transition.TransitionKind.TheVariants.{Epsilon, Range, Rule, Predicate, Atom, Action, Set, NotSet, Wildcard, Precedence}
use Rattle.atn_graph.specs.declared.lists.Rule.{Rule as RuleStates}
use Rattle.atn_graph.specs.Kinds.{state_kind_number, transition_number}
use Rattle.atn_graph.specs.Tables.{Rows}
use Rattle.atn_graph.specs.Net.{Net, rule_at, state_at, edge_at, size, end_before}

-- the numbers of a rule and of a state
abbrev pub rule_row : RuleStates → RuleRow
rule_row r = record { start = pos r.start; stop = pos r.stop }

abbrev pub state_row : AtnState → StateRow
state_row s = record {
  rule = pos s.rule;
  kind = pos (state_kind_number s.kind);
  edges = pos (s.end - s.first);
}

-- what the last two columns of an edge's row say; some kinds do not use them
abbrev pub Columns : EdgeRow → TransitionKind → Type 0
Columns row Epsilon = Unit {0}
Columns row (Range i) = (row.a ≡ i.a) × (row.b ≡ i.b)
Columns row (Rule r f) = (row.a ≡ pos r) × (row.b ≡ pos f)
Columns row Predicate = Unit {0}
Columns row (Atom t) = row.a ≡ t
Columns row Action = Unit {0}
Columns row (Set f c) = (row.a ≡ pos f) × (row.b ≡ pos c)
Columns row (NotSet f c) = (row.a ≡ pos f) × (row.b ≡ pos c)
Columns row Wildcard = Unit {0}
Columns row Precedence = Unit {0}

pub record WritesEdge (row : EdgeRow) (e : Transition) : Type 0 where
  pub kind : row.kind ≡ pos (transition_number e.kind)
  pub target : row.target ≡ pos e.target
  pub columns : Columns row e.kind

abbrev pub no_rule_row : RuleRow
no_rule_row = record { start = pos 0; stop = pos 0 }

abbrev pub no_state_row : StateRow
no_state_row = record { rule = pos 0; kind = pos 0; edges = pos 0 }

abbrev pub no_edge_row : EdgeRow
no_edge_row = record { kind = pos 0; target = pos 0; a = pos 0; b = pos 0 }

-- The row writes the state, whose edges begin where those before it end.
pub record WritesState (row : StateRow) (before : ℕ) (s : AtnState) : Type 0 where
  pub numbers : state_row s ≡ row
  pub begins : s.first ≡ before
  pub rises : s.first ≤ s.end

-- The tables t write the net n: as many rows as the counts say, each with its numbers; the edges of
-- the states follow one another.
pub record WritesNet (t : Rows) (n : Net) : Type 0 where
  pub max : n.max ≡ t.max
  pub rule_count : pos (length n.rules) ≡ t.counts.rules
  pub rules : (r : ℕ) → r < length n.rules
      → rule_row (rule_at n r) ≡ slice_index_or t.rules r no_rule_row
  pub state_count : pos (size n) ≡ t.counts.states
  pub states : (s : ℕ) → s < size n
      → WritesState (slice_index_or t.states s no_state_row) (end_before n.states s) (state_at n s)
  pub edge_count : pos (length n.edges) ≡ t.counts.edges
  pub edges : (j : ℕ) → j < length n.edges
      → WritesEdge (slice_index_or t.edges j no_edge_row) (edge_at n j)
  pub interval_count : pos (length n.intervals) ≡ t.counts.intervals
  pub intervals : n.intervals ≡ take (length n.intervals) t.intervals
