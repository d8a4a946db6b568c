-- The tables of a net as an owner supplies them, and when they are too short or outside the limits.
use Rattle.std.specs.Prelude.{ℕ, Bool, ◌||◌, List, length, ℤ, pos, int_lt}
use Rattle.interval_set.specs.declared.interval.Interval.{Interval}
use Rattle.atn_graph.specs.declared.tables.Tables.{Tables}
use Rattle.atn_graph.specs.declared.tables.Counts.{Counts}
use Rattle.atn_graph.specs.declared.tables.RuleRow.{RuleRow}
use Rattle.atn_graph.specs.declared.tables.StateRow.{StateRow}
use Rattle.atn_graph.specs.declared.tables.EdgeRow.{EdgeRow}

pub record Rows : Type 0 where
  pub max : ℤ
  pub counts : Counts
  pub rules : List RuleRow
  pub states : List StateRow
  pub edges : List EdgeRow
  pub intervals : List Interval

abbrev pub rows : Tables → Rows
rows t = record {
  max = t.max_token_type;
  counts = t.counts;
  rules = t.rules.now;
  states = t.states.now;
  edges = t.edges.now;
  intervals = t.intervals.now;
}

-- a table of len rows is shorter than its count
abbrev pub shorter : ℕ → ℤ → Bool
shorter len count = int_lt (pos len) count

abbrev pub short_table : Rows → Bool
short_table t =
    shorter (length t.rules) t.counts.rules
    || (shorter (length t.states) t.counts.states
    || (shorter (length t.edges) t.counts.edges || shorter (length t.intervals) t.counts.intervals))

-- the number is not one of low to high
abbrev pub outside : ℕ → ℕ → ℤ → Bool
outside low high n = int_lt n (pos low) || int_lt (pos high) n

-- how many states a net has at most
abbrev pub max_states : ℕ
max_states = 512

-- 1 to 64 rules, 2 to 512 states, at most 2,048 edges and 1,024 intervals
abbrev pub counts_outside : Counts → Bool
counts_outside c =
    outside 1 64 c.rules
    || (outside 2 max_states c.states || (outside 0 2048 c.edges || outside 0 1024 c.intervals))

-- a largest token type of 1 to 255
abbrev pub type_outside : ℤ → Bool
type_outside max = outside 1 255 max

abbrev pub outside_limits : Rows → Bool
outside_limits t = counts_outside t.counts || type_outside t.max
