-- What a script says, as plain lists.
use Rattle.std.specs.Prelude.{◌≡◌, min, negsuc, ℕ, Bool, false, List, [], length, ℤ, pos, Some, None, Option}
use Rattle.std.specs.Option.{unwrap_or}
use Rattle.interval_set.specs.declared.interval.Interval.{Interval}
use Rattle.atn_graph.specs.declared.tables.Tables.{Tables}
use Rattle.atn_graph.specs.declared.tables.Counts.{Counts}
use Rattle.atn_graph.specs.declared.tables.RuleRow.{RuleRow}
use Rattle.atn_graph.specs.declared.tables.StateRow.{StateRow}
use Rattle.atn_graph.specs.declared.tables.EdgeRow.{EdgeRow}
use Rattle.script.specs.declared.scripts.Script.{Script}
use Rattle.token.specs.declared.token_type.Span.{Span}
use Rattle.script_lines.specs.declared.token_rows.TokenRow.{TokenRow}
use Rattle.script_lines.specs.declared.options.LookaheadKind.{LookaheadKind}
use Rattle.script_lines.specs.declared.options.LookaheadKind.TheVariants.{Walker}
use Rattle.script_lines.specs.declared.options.Show.{Show}
use Rattle.script_lines.specs.declared.options.Show.TheVariants.{All}
use Rattle.script_lines.specs.declared.questions.Question.{Question}
use Rattle.script.specs.Rows.{full}

-- What the lines say: an option is None until its line stands. The questions are in their order.
pub record Content : Type 0 where
  pub max : Option ℤ
  pub counts : Option Counts
  pub rules : List RuleRow
  pub states : List StateRow
  pub edges : List EdgeRow
  pub intervals : List Interval
  pub words : List (TokenRow Span)
  pub lanes : List (TokenRow (Unit {0}))
  pub leaves : Option ℤ
  pub summary : Bool
  pub lookahead : LookaheadKind
  pub show : Show
  pub questions : List Question

abbrev pub content : Script → Content
content s = record { max = s.max; counts = s.counts; rules = s.rules; states = s.states; edges = s.edges; intervals = s.intervals; words = s.words; lanes = s.lanes; leaves = s.leaves; summary = s.summary; lookahead = s.lookahead; show = s.show; questions = s.questions }

-- What an empty script says: nothing, and it asks nothing, of the walker and of all tokens.
abbrev pub nothing_said : Content
nothing_said = record { max = None; counts = None; rules = []; states = []; edges = []; intervals = []; words = []; lanes = []; leaves = None; summary = false; lookahead = Walker; show = All; questions = [] }

-- how many leaves there is room for: 1,000 if nothing is said; less than none counts as none, more than 1,000,000 as that
abbrev pub leaf_places : Content → ℕ
leaf_places k = places (unwrap_or k.leaves (pos 1000))
  where
    places : ℤ → ℕ
    places (pos n) = min n full
    places (negsuc n) = 0

-- the numbers of rows given
abbrev pub row_counts : Content → Counts
row_counts k = record { rules = pos (length k.rules); states = pos (length k.states); edges = pos (length k.edges); intervals = pos (length k.intervals) }

-- The tables are the script's: its largest token type, its rows, and the counts it gives or else the numbers of its rows.
pub record ItsTables (k : Content) (t : Tables) : Type 0 where
  pub max : k.max ≡ Some t.max_token_type
  pub counts : t.counts ≡ unwrap_or k.counts (row_counts k)
  pub rules : t.rules.now ≡ k.rules
  pub states : t.states.now ≡ k.states
  pub edges : t.edges.now ≡ k.edges
  pub intervals : t.intervals.now ≡ k.intervals
