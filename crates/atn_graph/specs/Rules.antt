-- The rules of a net.
use Rattle.std.specs.Prelude.{◌≡◌, ℕ, ◌+◌, ◌-◌, ◌<◌, Bool, true, ◌&&◌, ◌||◌, List, length, take, drop, pos, negsuc, ◌==◌, int_le, nat_le, nat_lt}
use Rattle.std.specs.List.{list_all}
use Rattle.interval_set.specs.declared.interval.Interval.{Interval}
use Rattle.interval_set.specs.Intervals.{inside, from_to}
use Rattle.atn_graph.specs.declared.atn_state.AtnState.{AtnState}
use Rattle.atn_graph.specs.declared.transition.Transition.{Transition}
use Rattle.atn_graph.specs.declared.transition.TransitionKind.{TransitionKind}
use Rattle.atn_graph.specs.declared.transition.TransitionKind.TheVariants.{Epsilon, Range, Rule, Predicate, Atom, Action, Set, NotSet, Wildcard, Precedence}
use Rattle.atn_graph.specs.declared.tables.Counts.{Counts}
use Rattle.atn_graph.specs.Tables.{counts_outside, type_outside}
use Rattle.atn_graph.specs.Kinds.{is_start, is_stop}
use Rattle.atn_graph.specs.Net.{Net, rule_at, state_at, edge_at, size, Of}

-- t is a state of rule r
abbrev pub in_rule : Net → ℕ → ℕ → Bool
in_rule n t r = nat_lt t (size n) && (state_at n t).rule == r

-- the interval lies within 1 to the largest type, low end first
abbrev pub range_fits : Net → Interval → Bool
range_fits n i = int_le (pos 1) i.a && (int_le i.a i.b && int_le i.b n.max)

-- the interval is just EOF
abbrev pub eof_only : Interval → Bool
eof_only i =
    inside (from_to (negsuc 0) (negsuc 0)) i.a && inside (from_to (negsuc 0) (negsuc 0)) i.b

abbrev pub interval_fits : Net → Interval → Bool
interval_fits n i = eof_only i || range_fits n i

abbrev pub all_fit : Net → List Interval → Bool
all_fit n = list_all (interval_fits n)

-- the count intervals from number first on
abbrev pub part : Net → ℕ → ℕ → List Interval
part n first count = take count (drop first n.intervals)

-- one interval or more, all there, each a range or just EOF
abbrev pub set_fits : Net → ℕ → ℕ → Bool
set_fits n first count =
    nat_le 1 count
    && (nat_le (first + count) (length n.intervals) && all_fit n (part n first count))

-- An edge of the state s that leads to state number t. A rule edge is its state's only edge, leads
-- to the named rule's start, and goes on in its own rule; any other edge leads to a state of its own
-- rule.
abbrev pub kind_fits : Net → AtnState → ℕ → TransitionKind → Bool
kind_fits n s t Epsilon = in_rule n t s.rule
kind_fits n s t (Range i) = in_rule n t s.rule && range_fits n i
kind_fits n s t (Rule r f) =
    s.end == s.first + 1
    && (nat_lt r (length n.rules) && (t == (rule_at n r).start && in_rule n f s.rule))
kind_fits n s t Predicate = in_rule n t s.rule
kind_fits n s t (Atom l) = in_rule n t s.rule && interval_fits n (from_to l l)
kind_fits n s t Action = in_rule n t s.rule
kind_fits n s t (Set f c) = in_rule n t s.rule && set_fits n f c
kind_fits n s t (NotSet f c) = in_rule n t s.rule && set_fits n f c
kind_fits n s t Wildcard = in_rule n t s.rule
kind_fits n s t Precedence = in_rule n t s.rule

abbrev pub edge_fits : Net → ℕ → Transition → Bool
edge_fits n s e = kind_fits n (state_at n s) e.target e.kind

-- the label of an edge fits the net
abbrev pub LabelFits : Net → TransitionKind → Type 0
LabelFits n Epsilon = Unit {0}
LabelFits n (Range i) = interval_fits n i ≡ true
LabelFits n (Rule r f) = Unit {0}
LabelFits n Predicate = Unit {0}
LabelFits n (Atom l) = interval_fits n (from_to l l) ≡ true
LabelFits n Action = Unit {0}
LabelFits n (Set f c) = set_fits n f c ≡ true
LabelFits n (NotSet f c) = set_fits n f c ≡ true
LabelFits n Wildcard = Unit {0}
LabelFits n Precedence = Unit {0}

-- A rule's start and stop state lie in the rule.
pub record RuleFits (n : Net) (r : ℕ) : Type 0 where
  pub start : in_rule n (rule_at n r).start r ≡ true
  pub stop : in_rule n (rule_at n r).stop r ≡ true

-- A state lies in a rule of the net. It is of kind rule start, or rule stop, exactly if it is its
-- rule's start, or stop, and it has no edges exactly if it is a stop state.
pub record PlaceFits (n : Net) (s : ℕ) : Type 0 where
  pub rule : (state_at n s).rule < length n.rules
  pub start : is_start (state_at n s).kind ≡ (s == (rule_at n (state_at n s).rule).start)
  pub stop : is_stop (state_at n s).kind ≡ (s == (rule_at n (state_at n s).rule).stop)
  pub stops : is_stop (state_at n s).kind ≡ ((state_at n s).first == (state_at n s).end)

-- The state and each of its edges fit.
pub record StateFits (n : Net) (s : ℕ) : Type 0 where
  pub place : PlaceFits n s
  pub edges : (j : ℕ) → Of n s j → edge_fits n s (edge_at n j) ≡ true

-- The net keeps every rule but for left recursion: its rules and states fit, and the edges of the
-- states use up all edges.
pub record IsSoundNet (n : Net) : Type 0 where
  pub rules : (r : ℕ) → r < length n.rules → RuleFits n r
  pub states : (s : ℕ) → s < size n → StateFits n s
  pub used_up : (state_at n (size n - 1)).end ≡ length n.edges

-- the counts of the net's lists
abbrev pub counts_of : Net → Counts
counts_of n = record {
  rules = pos (length n.rules);
  states = pos (size n);
  edges = pos (length n.edges);
  intervals = pos (length n.intervals);
}

-- one of them, or the largest type, lies outside the limits
abbrev pub beyond_limits : Net → Bool
beyond_limits n = counts_outside (counts_of n) || type_outside n.max
